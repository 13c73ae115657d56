use Rattle.std.proofs.Common.{◌≡◌, ◌++◌, length}
use Rattle.hive_gen.specs.EventTexts.{records_text}
use Rattle.hive_gen.proofs.generator.records.Given as goal

abbrev pub invariant-loop-generator : goal.invariant-loop-generator
invariant-loop-generator l = l.text.items ++ l.generator ≡ records_text l.start l.events

abbrev pub decreases-loop-generator : goal.decreases-loop-generator
decreases-loop-generator l = length l.generator
