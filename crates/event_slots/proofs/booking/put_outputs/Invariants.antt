use Rattle.std.proofs.Common.{◌≡◌, ◌+◌, ◌<◌, ◌^◌, length, map}
use Rattle.std.specs.Arc.{arc_value}
use Rattle.hive_model.specs.Step.{written}
use Rattle.whiteboard.specs.Slots.{IsTaken, products_in, with_store}
use Rattle.event_slots.specs.Places.{AreEmpty}
use Rattle.event_slots.proofs.booking.put_outputs.Given as goal

abbrev pub invariant-loop-product : goal.invariant-loop-product
invariant-loop-product l = record {
  taken : IsTaken l.board l.slot;
  few : l.first + length l.outputs.items < 2 ^ 16;
  empty : AreEmpty (products_in l.board l.slot) l.first (length l.outputs.items);
  writes : with_store l.board l.slot (written l.first (map arc_value l.outputs.items) (products_in l.board
      l.slot))
      ≡ with_store l.fn.board l.slot (written l.first (map arc_value l.fn.outputs.items) (products_in
      l.fn.board l.slot));
}

abbrev pub decreases-loop-product : goal.decreases-loop-product
decreases-loop-product l = length l.outputs.items
