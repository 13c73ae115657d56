use Rattle.std.proofs.Common.{◌≡◌, ◌+◌, ◌-◌, ◌≤◌, [], All, Some, length}
use Rattle.std.specs.Arc.{arc_value}
use Rattle.crossbeam_queue.specs.Passes.{view}
use Rattle.action_queue.specs.declared.pass.QueuePass.{QueuePass}
use Rattle.action_queue.specs.Passes.{IsUnused}
use Rattle.action_queue.specs.View.{IsSeatOf, tally}
use Rattle.action_queue.proofs.actions.Actions.new.Given as goal

-- the job is told by the call
abbrev pub ghosts-named : goal.ghosts-named
ghosts-named a = record { job = Some (arc_value a.job.now); made = a.passes }

-- the first pass has the parts that weren't dealt yet
abbrev pub invariant-loop : goal.invariant-loop
invariant-loop l = IsSeatOf l.queue l.seat
    × (view l.seat ≡ tally (Some (arc_value l.job)) l.passes (l.passes + 1 - l.counter) [] [] 0 [])
    × (length l.dealt.items + 1 ≡ l.counter) × (l.counter ≤ l.passes)
    × (l.passes ≤ length l.dealt.items + l.dealt.spare)
    × All (λ (p : QueuePass). (IsSeatOf l.queue p.seat × ((view p.seat).job ≡ Some (arc_value l.job))
    × ((view p.seat).made ≡ l.passes)) × IsUnused p) l.dealt.items
