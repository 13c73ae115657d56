use Rattle.std.proofs.Common.{◌≡◌, drop}
use Rattle.std.specs.List.{list_any}
use Rattle.hive_model.specs.Decision.{is_undecided}
use Rattle.serial_meaning.proofs.decision.any_undecided.Given as goal

abbrev pub invariant-loop-member : goal.invariant-loop-member
invariant-loop-member l = list_any is_undecided (drop l.member-index l.members) ≡ list_any is_undecided l.members
