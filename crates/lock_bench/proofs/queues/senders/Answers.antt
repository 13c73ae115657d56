use Rattle.std.proofs.Common.{Some}
use Rattle.std.proofs.lemmas.List.Elements.{All-pop, All-push, All-same}
use Rattle.action_queue.specs.Passes.{IsPassOf}
use Rattle.lock_bench.specs.Senders.{MaySend}
use Rattle.lock_bench.proofs.queues.senders.Goals as goal

pub loop-pass-preserved : goal.loop-pass-preserved
loop-pass-preserved c =
    let inv = c.loop-pass.invariant in
    let apart = All-pop (IsPassOf c.args.queue.now) _ _ (Some c.in-Some.pass) c.in-Some.ensures.some inv.0 in (
      apart.0,
      All-same (MaySend c.args.queue.now) _ _ c.in_ok-push.ensures.items
          (All-push (MaySend c.args.queue.now) _ _ inv.1 c.in_ok-make_sender.ensures),
    )
