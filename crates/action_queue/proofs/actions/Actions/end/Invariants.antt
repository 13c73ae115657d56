use Rattle.std.proofs.Common.{◌≡◌, ◌<◌, ◌+◌, ◌++◌, All, Some, length}
use Rattle.std.specs.Arc.{arc_value}
use Rattle.std.specs.List.{flat_map}
use Rattle.std.specs.List.Sorted.{IsPermutation}
use Rattle.crossbeam_queue.specs.Passes.{view}
use Rattle.action_queue.specs.View.{IsSeatOf}
use Rattle.action_queue.specs.Passes.{IsPassOf, put_of, took_of}
use Rattle.action_queue.proofs.actions.Actions.end.Given as goal

-- the passes that came back are in the first, and the others are still to come
abbrev pub invariant-loop-pass : goal.invariant-loop-pass
invariant-loop-pass l = IsSeatOf l.self.queue l.seat
    × ((view l.seat).job ≡ Some (arc_value l.self.job)) × ((view l.seat).made ≡ l.self.passes)
    × (0 < (view l.seat).parts) × ((view l.seat).parts + length l.passes.items ≡ l.self.passes)
    × All (IsPassOf l.self) l.passes.items
    × IsPermutation (flat_map put_of l.fn.passes.items) (flat_map put_of l.passes.items ++ (view l.seat).put)
    × IsPermutation (flat_map took_of l.fn.passes.items) (flat_map took_of l.passes.items ++ (view l.seat).took)
    × (l.self.passes ≡ 1 → flat_map put_of l.fn.passes.items ≡ flat_map took_of l.fn.passes.items ++ (view l.seat).rest)

abbrev pub decreases-loop-pass : goal.decreases-loop-pass
decreases-loop-pass l = length l.passes.items
