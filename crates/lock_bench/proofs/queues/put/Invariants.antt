use Rattle.action_queue.specs.Passes.{IsPassOf, job_of}
use Rattle.expr_code.specs.Claim.{IsOfJob}
use Rattle.lock_bench.proofs.queues.put.Given as goal

abbrev pub invariant-loop : goal.invariant-loop
invariant-loop g l = IsPassOf l.queue l.pass × IsOfJob (job_of l.queue) l.value.claim
