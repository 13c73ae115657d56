use Rattle.action_queue.specs.Passes.{IsPassOf, job_of}
use Rattle.expr_code.specs.Claim.{IsOfJob}
use Rattle.lock_bench.proofs.queues.send_often.Given as goal

abbrev pub invariant-loop-time : goal.invariant-loop-time
invariant-loop-time g l = IsPassOf l.queue l.sender.pass × IsOfJob (job_of l.queue) l.token.claim
