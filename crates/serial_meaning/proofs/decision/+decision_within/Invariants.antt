use Rattle.std.proofs.Common.{◌≡◌, ◌-◌, take, map}
use Rattle.hive_model.specs.Decision.{decision_within}
use Rattle.serial_meaning.proofs.decision.+decision_within.Given as goal

abbrev pub decreases-decision_within : goal.decreases-decision_within
decreases-decision_within l = l.depth

abbrev pub invariant-loop-member : goal.invariant-loop-member
invariant-loop-member l =
    l.decisions.items ≡ map (decision_within (l.depth - 1) l.sequences l.outcomes) (take l.member-index l.member-items)
