use Rattle.std.proofs.Common.{◌≤◌, ◌-◌, length}
use Rattle.std.specs.List.{prefix_len}
use Rattle.hive_model.specs.Reached.{passes}
use Rattle.decision_nodes.proofs.deciding.count_passed.Given as goal

abbrev pub invariant-loop-place : goal.invariant-loop-place
invariant-loop-place l = l.place ≤ prefix_len (passes l.sequence) l.states

abbrev pub decreases-loop-place : goal.decreases-loop-place
decreases-loop-place l = length l.states - l.place
