use Rattle.std.proofs.Common.{◌≡◌, map}
use Rattle.std.specs.List.{range_with_len}
use Rattle.hive_model.specs.Decision.{decision}
use Rattle.hive_model.specs.declared.sequence.Member.TheVariants.{Seq}
use Rattle.serial_meaning.proofs.decision.decisions_of.Given as goal

abbrev pub invariant-loop-number : goal.invariant-loop-number
invariant-loop-number l = l.decisions.items ≡ map (λ s. decision l.job l.outcomes (Seq s)) (range_with_len 0 l.number)
