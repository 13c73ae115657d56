use Rattle.std.proofs.Common.{◌≡◌, drop}
use Rattle.hive_model.specs.Enabled.{all_there}
use Rattle.serial_meaning.proofs.store.all_there.Given as goal

abbrev pub invariant-loop-input : goal.invariant-loop-input
invariant-loop-input l = all_there l.store (drop l.input-index l.inputs) ≡ all_there l.store l.inputs
