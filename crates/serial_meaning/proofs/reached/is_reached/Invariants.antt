use Rattle.std.proofs.Common.{◌≡◌, drop}
use Rattle.std.specs.List.{list_any}
use Rattle.hive_model.specs.Reached.{is_leaf_of}
use Rattle.serial_meaning.proofs.reached.is_reached.Given as goal

abbrev pub invariant-loop-member : goal.invariant-loop-member
invariant-loop-member l =
    list_any (is_leaf_of l.number) (drop l.member-index l.members) ≡ list_any (is_leaf_of l.number) l.members
