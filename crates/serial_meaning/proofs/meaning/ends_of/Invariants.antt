use Rattle.std.proofs.Common.{◌≡◌, map}
use Rattle.std.specs.List.{range_with_len}
use Rattle.hive_model.specs.Event.{end_of}
use Rattle.serial_meaning.proofs.meaning.ends_of.Given as goal

abbrev pub invariant-loop-number : goal.invariant-loop-number
invariant-loop-number l = l.ends.items ≡ map (end_of l.job l.outcomes) (range_with_len 0 l.number)
