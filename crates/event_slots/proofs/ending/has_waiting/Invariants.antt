use Rattle.std.proofs.Common.{◌≡◌, false, take}
use Rattle.std.specs.List.{list_any}
use Rattle.hive_model.specs.Event.{is_waiting}
use Rattle.event_slots.proofs.ending.has_waiting.Given as goal

abbrev pub invariant-loop-end : goal.invariant-loop-end
invariant-loop-end l = list_any is_waiting (take l.end-index l.ends) ≡ false
