use Rattle.std.proofs.Common.{◌≡◌, ◌++◌, drop, map}
use Rattle.std.specs.Arc.{arc_value}
use Rattle.hive_model.specs.Enabled.{inputs_in}
use Rattle.serial_meaning.proofs.store.inputs_in.Given as goal

abbrev pub invariant-loop-input : goal.invariant-loop-input
invariant-loop-input l =
    map arc_value l.products.items ++ inputs_in l.store (drop l.input-index l.inputs) ≡ inputs_in l.store l.inputs
