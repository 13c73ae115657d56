use Rattle.action_queue.specs.Passes.{IsPassOf, job_of}
use Rattle.expr_code.specs.Claim.{IsOfJob}
use Rattle.hive_rows.proofs.results.put.Given as goal

abbrev pub invariant-loop : goal.invariant-loop
invariant-loop g l = IsPassOf l.queue l.pass × IsOfJob (job_of l.queue) l.value.claim
