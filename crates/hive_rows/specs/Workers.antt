-- What a test knows of a worker that it gives to a thread.
use Rattle.std.specs.Prelude.{All}
use Rattle.action_queue.specs.declared.actions.Actions.{Actions}
use Rattle.action_queue.specs.Passes.{IsPassOf, job_of}
use Rattle.expr_code.specs.Claim.{IsOfJob}
use Rattle.hive_rows.specs.declared.worker.Worker.{Worker}

-- its pass is this queue's, and the results that it has are of the queue's job
abbrev pub IsReady : Actions → Worker → Type 0
IsReady queue w = IsPassOf queue w.pass × All (λ d. IsOfJob (job_of queue) d.claim) w.results.items
