use Rattle.std.proofs.Common.{◌≡◌, drop}
use Rattle.std.specs.List.{list_any}
use Rattle.hive_model.specs.Event.{is_waiting}
use Rattle.serial_meaning.proofs.meaning.any_waiting.Given as goal

abbrev pub invariant-loop-end : goal.invariant-loop-end
invariant-loop-end l = list_any is_waiting (drop l.end-index l.ends) ≡ list_any is_waiting l.ends
