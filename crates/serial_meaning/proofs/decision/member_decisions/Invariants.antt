use Rattle.std.proofs.Common.{◌≡◌, take, map}
use Rattle.hive_model.specs.Decision.{decision}
use Rattle.serial_meaning.proofs.decision.member_decisions.Given as goal

abbrev pub invariant-loop-member : goal.invariant-loop-member
invariant-loop-member l = l.decisions.items ≡ map (decision l.job l.outcomes) (take l.member-index l.members)
