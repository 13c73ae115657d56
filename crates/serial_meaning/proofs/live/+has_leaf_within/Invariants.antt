use Rattle.std.proofs.Common.{◌≡◌, ◌-◌, false, take}
use Rattle.std.specs.List.{list_any}
use Rattle.serial_meaning.proofs.Nodes.{leads}
use Rattle.serial_meaning.proofs.live.+has_leaf_within.Given as goal

abbrev pub decreases-has_leaf_within : goal.decreases-has_leaf_within
decreases-has_leaf_within l = l.depth

abbrev pub invariant-loop-member : goal.invariant-loop-member
invariant-loop-member l =
    list_any (leads (l.depth - 1) l.sequences l.number) (take l.member-index l.member-items) ≡ false
