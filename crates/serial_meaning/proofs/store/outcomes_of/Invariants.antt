use Rattle.std.proofs.Common.{◌≡◌, take}
use Rattle.hive_model.specs.Results.{outcomes}
use Rattle.serial_meaning.proofs.store.outcomes_of.Given as goal

abbrev pub invariant-loop-it : goal.invariant-loop-it
invariant-loop-it l = l.outcomes.items ≡ outcomes (take l.it-index l.ran)
