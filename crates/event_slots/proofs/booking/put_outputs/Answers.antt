use Rattle.std.proofs.Common.{◌≡◌, ◌+◌, List, length, map, ◌∷◌, [], sym, ap, subst, ◌∙◌, arith}
use Rattle.std.proofs.lemmas.List.{length-append, length-map, map-append}
use Rattle.std.specs.Arc.{arc_value}
use Rattle.hive_model.specs.Step.{written}
use Rattle.hive_model.specs.declared.product.Product.{Product}
use Rattle.whiteboard.specs.Slots.{products_in, with_store}
use Rattle.event_slots.specs.Places.{AreEmpty}
use Rattle.event_slots.proofs.Boards.{output-put, same-store}
use Rattle.event_slots.proofs.booking.put_outputs.Goals as goal

pub loop-product-preserved : goal.loop-product-preserved
loop-product-preserved c =
    let board = c.loop-product.board in
    let slot = c.args.slot in
    let first = c.args.first in
    let rest = c.pop.new.self.items in
    let ps : List Product = map arc_value rest in
    let some = c.in-Some.ensures.some in
    let size : length ps ≡ length rest = length-map rest arc_value in
    let whole : length c.loop-product.outputs.items ≡ length rest + 1 =
    ap length some ∙ length-append rest (c.in-Some.product ∷ []) in
    let now : length c.as_slice.result.now ≡ length rest = ap length c.as_slice.ensures in
    let it = output-put board c.put.new.self slot first (length c.loop-product.outputs.items)
    (first + length c.as_slice.result.now) ps (arc_value c.in-Some.product)
    c.loop-product.invariant.taken c.loop-product.invariant.empty (omega arith) (omega arith) c.put.ensures in
    record {
      taken = it.0;
      few = omega (arith, c.loop-product.invariant.few);
      empty = subst (AreEmpty (products_in c.put.new.self slot) first) size it.1;
      writes = it.2
          ∙ ap (λ qs. with_store board slot (written first qs (products_in board slot)))
          (sym (map-append arc_value rest (c.in-Some.product ∷ [])) ∙ ap (map arc_value) (sym some))
          ∙ c.loop-product.invariant.writes;
    }

pub returns : goal.returns
returns c =
    let board = c.loop-product.board in
    let slot = c.args.slot in
    sym (same-store board slot c.loop-product.invariant.taken)
    ∙ ap (λ outputs. with_store board slot (written c.args.first (map arc_value outputs) (products_in board
    slot)))
    (sym c.in_default.ensures.none)
    ∙ c.loop-product.invariant.writes
