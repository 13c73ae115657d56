use Rattle.std.proofs.Common.{◌≡◌, ℕ, ◌<◌, Some, false, List, Option, slice_get}
use Rattle.std.specs.Option.{option_map_or}
use Rattle.hive_model.specs.Machine.{Busy}
use Rattle.hive_model.specs.Step.{is_settled}
use Rattle.event_slots.specs.Slots.{AreSlotsOf, busy_in}
use Rattle.event_slots.proofs.slots.Slots.settled.Given as goal

abbrev pub invariant-loop-at : goal.invariant-loop-at
invariant-loop-at l =
    (slots : List (Option Busy)) (i slot : ℕ) → AreSlotsOf l.job slots l.self → i < l.at →
    slice_get l.self.order i ≡ Some slot → option_map_or (is_settled l.job) (busy_in slots slot) false ≡ false
