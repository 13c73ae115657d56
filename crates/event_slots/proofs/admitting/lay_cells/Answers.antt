use Rattle.std.proofs.Common.{◌≡◌, ◌+◌, List, length, map, ◌++◌, ◌∷◌, [], Option, sym, ap, subst, ◌∙◌, arith}
use Rattle.std.proofs.lemmas.List.{length-append, length-map, map-append}
use Rattle.std.specs.Arc.{arc_value}
use Rattle.hive_model.specs.Store.{shown}
use Rattle.hive_model.specs.declared.product.Product.{Product}
use Rattle.whiteboard.specs.Slots.{products_in, with_store}
use Rattle.event_slots.specs.Places.{AreEmpty, laid}
use Rattle.event_slots.proofs.Boards.{cell-put, same-store}
use Rattle.event_slots.proofs.Laying.{fewer-empty, laid-last_empty}
use Rattle.event_slots.proofs.admitting.lay_cells.Goals as goal

pub loop-cell-preserved-in-Some-cell : goal.loop-cell-preserved-in-Some-cell
loop-cell-preserved-in-Some-cell c =
    let board = c.loop-cell.board in
    let slot = c.args.slot in
    let rest = c.pop.new.self.items in
    let cells : List (Option Product) = map shown rest in
    let some = c.in-Some.ensures.some in
    let size : length cells ≡ length rest = length-map rest shown in
    let whole : length c.loop-cell.cells.items ≡ length rest + 1 =
    ap length some ∙ length-append rest (c.in-Some.cell ∷ []) in
    let now : length c.as_slice-handle.result.now ≡ length rest = ap length c.as_slice-handle.ensures in
    let it = cell-put board c.put.new.self slot (length c.loop-cell.cells.items) (length
    c.as_slice-handle.result.now)
    cells (arc_value c.in-Some-cell.product)
    c.loop-cell.invariant.taken c.loop-cell.invariant.empty (omega arith) (omega arith) c.put.ensures in
    record {
      taken = it.0;
      few = omega (arith, c.loop-cell.invariant.few);
      empty = subst (AreEmpty (products_in c.put.new.self slot) 0) size it.1;
      lays = it.2
          ∙ ap (λ o. with_store board slot (laid 0 (map shown rest ++ shown o ∷ []) (products_in board slot)))
          (sym c.in-Some-cell.is)
          ∙ ap (λ them. with_store board slot (laid 0 them (products_in board slot)))
          (sym (map-append shown rest (c.in-Some.cell ∷ [])) ∙ ap (map shown) (sym some))
          ∙ c.loop-cell.invariant.lays;
    }

pub loop-cell-preserved : goal.loop-cell-preserved
loop-cell-preserved c =
    let board = c.loop-cell.board in
    let slot = c.args.slot in
    let rest = c.pop.new.self.items in
    let some = c.in-Some.ensures.some in
    let whole : length c.loop-cell.cells.items ≡ length rest + 1 =
    ap length some ∙ length-append rest (c.in-Some.cell ∷ []) in
    record {
      taken = c.loop-cell.invariant.taken;
      few = omega (arith, c.loop-cell.invariant.few);
      empty = fewer-empty (products_in board slot) 0 (length rest) (length c.loop-cell.cells.items) (omega
          arith)
          c.loop-cell.invariant.empty;
      lays = ap (with_store board slot) (sym (laid-last_empty 0 (map shown rest) (products_in board slot)))
          ∙ ap (λ o. with_store board slot (laid 0 (map shown rest ++ shown o ∷ []) (products_in board slot)))
          (sym c.in_default-cell.is)
          ∙ ap (λ them. with_store board slot (laid 0 them (products_in board slot)))
          (sym (map-append shown rest (c.in-Some.cell ∷ [])) ∙ ap (map shown) (sym some))
          ∙ c.loop-cell.invariant.lays;
    }

pub returns : goal.returns
returns c =
    let board = c.loop-cell.board in
    let slot = c.args.slot in
    sym (same-store board slot c.loop-cell.invariant.taken)
    ∙ ap (λ cells. with_store board slot (laid 0 (map shown cells) (products_in board slot)))
    (sym c.in_default.ensures.none)
    ∙ c.loop-cell.invariant.lays
