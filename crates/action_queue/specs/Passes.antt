-- What public clauses read of a queue, of its passes, and of what is left.
use Rattle.std.specs.Prelude.{◌≡◌, ℕ, List, [], Some}
use Rattle.std.specs.Arc.{arc_value}
use Rattle.crossbeam_queue.specs.Passes.{view}
use Rattle.action_queue.specs.View.{IsSeatOf}
use Rattle.expr_code.specs.Claim.{Done}
use Rattle.hive_model.specs.Job.{Job}
use Rattle.action_queue.specs.declared.actions.Actions.{Actions}
use Rattle.action_queue.specs.declared.left.Left.{Left}
use Rattle.action_queue.specs.declared.pass.QueuePass.{QueuePass}

-- the job whose results the queue takes
abbrev pub job_of : Actions → Job
job_of q = arc_value q.job

-- how many passes the queue was made with
abbrev pub passes_of : Actions → ℕ
passes_of q = q.passes

-- the pass is this queue's
abbrev pub IsPassOf : Actions → QueuePass → Type 0
IsPassOf q p = IsSeatOf q.queue p.seat
    × ((view p.seat).job ≡ Some (job_of q)) × ((view p.seat).made ≡ passes_of q)

-- the results that the pass put, and that it took, in order
abbrev pub put_of : QueuePass → List Done
put_of p = (view p.seat).put

abbrev pub took_of : QueuePass → List Done
took_of p = (view p.seat).took

abbrev pub IsUnused : QueuePass → Type 0
IsUnused p = (put_of p ≡ []) × (took_of p ≡ [])

-- the results that are left, oldest first
abbrev pub left_of : Left → List Done
left_of l = (view l.seat).rest
