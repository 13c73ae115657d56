use Rattle.std.proofs.Common.{List, Option}
use Rattle.hive_model.specs.Machine.{Busy}
use Rattle.event_slots.specs.Slots.{AreSlotsOf}
use Rattle.event_slots.specs.Standings.{IsFirstAmong}
use Rattle.event_slots.proofs.slots.Slots.first_claim.Given as goal

abbrev pub invariant-loop-at : goal.invariant-loop-at
invariant-loop-at l = (slots : List (Option Busy)) → AreSlotsOf l.job slots l.self → IsFirstAmong slots
    l.self.order l.at l.first
