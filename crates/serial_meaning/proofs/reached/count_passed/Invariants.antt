use Rattle.std.proofs.Common.{◌≡◌, ◌+◌, drop}
use Rattle.std.specs.List.{prefix_len}
use Rattle.hive_model.specs.Reached.{passes}
use Rattle.serial_meaning.proofs.reached.count_passed.Given as goal

abbrev pub invariant-loop-decision : goal.invariant-loop-decision
invariant-loop-decision l =
    (l.passed ≡ l.decision-index)
    × (l.passed + prefix_len (passes l.sequence) (drop l.decision-index l.decisions) ≡ prefix_len (passes l.sequence) l.decisions)
