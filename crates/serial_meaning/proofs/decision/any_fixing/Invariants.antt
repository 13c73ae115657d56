use Rattle.std.proofs.Common.{◌≡◌, drop}
use Rattle.std.specs.List.{list_any}
use Rattle.hive_model.specs.Decision.{is_fixing}
use Rattle.serial_meaning.proofs.decision.any_fixing.Given as goal

abbrev pub invariant-loop-member : goal.invariant-loop-member
invariant-loop-member l =
    list_any (is_fixing l.mode_or) (drop l.member-index l.members) ≡ list_any (is_fixing l.mode_or) l.members
