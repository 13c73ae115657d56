use Rattle.std.proofs.Common.{[], ◌∷◌, length, Some, ap, ◌∙◌, arith, length-append}
use Rattle.std.proofs.lemmas.List.Elements.{All-pop, All-push, All-same}
use Rattle.action_queue.specs.Passes.{IsPassOf}
use Rattle.hive_rows.specs.Workers.{IsReady}
use Rattle.hive_rows.proofs.results.workers.Goals as goal

pub loop-pass-preserved : goal.loop-pass-preserved
loop-pass-preserved c =
    let inv = c.loop-pass.invariant in
    let split = c.in-Some.ensures.some in
    let pushed = c.in_ok-push.ensures.items in
    let apart = All-pop (IsPassOf c.args.queue.now) _ _ (Some c.in-Some.pass) split inv.0 in
    let fewer = ap length split ∙ length-append c.pop.new.self.items (c.in-Some.pass ∷ []) in
    let more = ap length pushed ∙ length-append c.loop-pass.made.items (c.in_ok-make_worker.field-0 ∷ []) in
    let count = inv.2 in (
      apart.0,
      All-same (IsReady c.args.queue.now) _ _ pushed (All-push (IsReady c.args.queue.now) _ _ inv.1 c.in_ok-make_worker.ensures),
      omega arith,
    )
