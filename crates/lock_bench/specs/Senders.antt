-- What the program knows of a thread that sends results.
use Rattle.std.specs.Prelude.{IfSome}
use Rattle.action_queue.specs.declared.actions.Actions.{Actions}
use Rattle.action_queue.specs.Passes.{IsPassOf, job_of}
use Rattle.expr_code.specs.Claim.{IsOfJob}
use Rattle.lock_bench.specs.declared.queues.Sender.{Sender}

-- its pass is this queue's, and the result that it has is of the queue's job
abbrev pub MaySend : Actions → Sender → Type 0
MaySend queue s = IsPassOf queue s.pass × IfSome s.token (λ d. IsOfJob (job_of queue) d.claim)
