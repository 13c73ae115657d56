use Rattle.std.proofs.Common.{◌≡◌, ℕ, ◌<◌, List, length, Option, Some, slice_get}
use Rattle.hive_model.specs.Machine.{Busy}
use Rattle.event_slots.specs.Attempts.{AreRefused}
use Rattle.event_slots.specs.Slots.{AreSlotsOf}
use Rattle.event_slots.proofs.slots.Slots.claim.Given as goal

abbrev pub invariant-loop-at : goal.invariant-loop-at
invariant-loop-at l = record {
  same : l.self ≡ l.fn.self;
  refused : (slots : List (Option Busy)) (i slot : ℕ) → AreSlotsOf l.job slots l.fn.self → i < l.at →
      slice_get l.fn.self.order i ≡ Some slot → AreRefused l.job slots slot (length l.job.algorithms);
}
