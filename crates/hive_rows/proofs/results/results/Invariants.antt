use Rattle.std.proofs.Common.{◌≡◌, All, Some, slice_get}
use Rattle.std.specs.Arc.{arc_value}
use Rattle.action_queue.specs.Passes.{job_of}
use Rattle.expr_code.specs.Claim.{Done, IsOfJob}
use Rattle.hive_rows.proofs.results.results.Given as goal

abbrev pub invariant-loop-number : goal.invariant-loop-number
invariant-loop-number l = All (λ (d : Done). IsOfJob (job_of l.queue) d.claim) l.made.items × (slice_get (job_of l.queue).algorithms 0 ≡ Some (arc_value l.body))
