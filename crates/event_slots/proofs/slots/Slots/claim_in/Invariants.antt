use Rattle.std.proofs.Common.{◌≡◌, ◌-◌, ◌≤◌, List, length, Option}
use Rattle.hive_model.specs.Machine.{Busy}
use Rattle.event_slots.specs.Attempts.{AreRefused}
use Rattle.event_slots.specs.Slots.{AreSlotsOf}
use Rattle.event_slots.proofs.slots.Slots.claim_in.Given as goal

abbrev pub invariant-loop-number : goal.invariant-loop-number
invariant-loop-number l = record {
  same : l.self ≡ l.fn.self;
  within : l.from ≤ length l.job.algorithms;
  refused : (slots : List (Option Busy)) → AreSlotsOf l.job slots l.fn.self → AreRefused l.job slots l.slot
      l.from;
}

abbrev pub decreases-loop-number : goal.decreases-loop-number
decreases-loop-number l = length l.job.algorithms - l.from
