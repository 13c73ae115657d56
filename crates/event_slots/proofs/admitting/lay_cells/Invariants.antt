use Rattle.std.proofs.Common.{◌≡◌, ◌≤◌, length, map}
use Rattle.hive_model.specs.Store.{shown}
use Rattle.whiteboard.specs.Slots.{IsTaken, products_in, with_store}
use Rattle.event_slots.specs.Places.{AreEmpty, laid}
use Rattle.event_slots.proofs.admitting.lay_cells.Given as goal

abbrev pub invariant-loop-cell : goal.invariant-loop-cell
invariant-loop-cell l = record {
  taken : IsTaken l.board l.slot;
  few : length l.cells.items ≤ 65535;
  empty : AreEmpty (products_in l.board l.slot) 0 (length l.cells.items);
  lays : with_store l.board l.slot (laid 0 (map shown l.cells.items) (products_in l.board l.slot))
      ≡ with_store l.fn.board l.slot (laid 0 (map shown l.fn.cells.items) (products_in l.fn.board l.slot));
}

abbrev pub decreases-loop-cell : goal.decreases-loop-cell
decreases-loop-cell l = length l.cells.items
