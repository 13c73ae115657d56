use Rattle.std.proofs.Common.{◌≡◌, ◌<◌, ℕ, List, All, length, sym, subst, ◌∙◌, arith, Global}
use Rattle.std.proofs.lemmas.List.{length-map}
use Rattle.std.specs.declared.vec.Vec.{Vec}
use Rattle.producer_graph.proofs.Holding.{all-at, items-at}
use Rattle.producer_graph.proofs.Pushing.{listed-none, listed-more, listed-all}
use Rattle.producer_graph.specs.Lists.{items}
use Rattle.producer_graph.proofs.consumers.list_consumers.Goals as goal

pub loop-number-init : goal.loop-number-init
loop-number-init c = listed-none c.args.count (items c.args.inputs.now) (items c.in_ok-consumers.consumers.items) c.in_ok-consumers.ensures

pub add_consumer-requires : goal.add_consumer-requires
add_consumer-requires c =
    let size : c.args.count ≡ length c.loop-number.consumers.items =
    sym c.loop-number.invariant.size ∙ length-map c.loop-number.consumers.items (λ (v : Vec ℕ Global). v.items) in
    subst (λ (n : ℕ). All (λ h. h < n) c.as_slice.result.now) size
    (all-at (λ hs. All (λ h. h < c.args.count) hs) c.args.inputs.now c.loop-number.number c.index-inputs-number.result c.as_slice.result.now
    c.requires.within c.loop-number-test.true c.index-inputs-number.is c.as_slice.ensures.value)

pub loop-number-preserved : goal.loop-number-preserved
loop-number-preserved c =
    let lt : c.loop-number.number < length (items c.args.inputs.now) =
    let size = length-map c.args.inputs.now (λ (v : Vec ℕ Global). v.items) in let h = c.loop-number-test.true in omega (arith, size, h) in
    listed-more c.args.count (items c.args.inputs.now) c.loop-number.number c.as_slice.result.now (items c.loop-number.consumers.items)
    (items c.add_consumer.new.consumers.items) lt
    (items-at c.args.inputs.now c.loop-number.number c.index-inputs-number.result c.as_slice.result.now c.loop-number-test.true c.index-inputs-number.is c.as_slice.ensures.value)
    (all-at (λ hs. All (λ h. h < c.args.count) hs) c.args.inputs.now c.loop-number.number c.index-inputs-number.result c.as_slice.result.now
    c.requires.within c.loop-number-test.true c.index-inputs-number.is c.as_slice.ensures.value)
    c.in_ok-add_consumer.ensures c.loop-number.invariant

pub returns : goal.returns
returns c =
    listed-all c.args.count (items c.args.inputs.now) c.loop-number.number (items c.loop-number.consumers.items)
    (let size = length-map c.args.inputs.now (λ (v : Vec ℕ Global). v.items) in let h = c.loop-number-test.false in omega (arith, size, h))
    c.loop-number.invariant
