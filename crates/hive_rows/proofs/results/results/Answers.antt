use Rattle.std.proofs.lemmas.List.Elements.{All-push, All-same}
use Rattle.action_queue.specs.Passes.{job_of}
use Rattle.expr_code.specs.Claim.{Done, IsOfJob}
use Rattle.hive_rows.proofs.results.results.Goals as goal

pub loop-number-preserved : goal.loop-number-preserved
loop-number-preserved c =
    let inv = c.loop-number.invariant in (
      All-same (λ (d : Done). IsOfJob (job_of c.args.queue.now) d.claim) _ _ c.in_ok-push.ensures.items
          (All-push (λ (d : Done). IsOfJob (job_of c.args.queue.now) d.claim) _ _ inv.0 c.in_ok-result_of.ensures),
      inv.1,
    )
