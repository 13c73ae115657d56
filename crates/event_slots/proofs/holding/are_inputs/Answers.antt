use Rattle.std.proofs.Common.{◌≡◌, ℕ, ◌+◌, map, nat_eq, sym, ap, subst, ◌∙◌, arith}
use Rattle.std.proofs.lemmas.Bool.{false≢true}
use Rattle.std.proofs.lemmas.List.{length-map}
use Rattle.std.proofs.lemmas.Option.{slice_get_within}
use Rattle.std.specs.Arc.{arc_value}
use Rattle.std.specs.Bool.{Decides}
use Rattle.hive_model.specs.Enabled.{inputs_in, product_in}
use Rattle.event_slots.proofs.Comparing.{IsAsRest, compared, other-input, past-none, past-some}
use Rattle.event_slots.proofs.holding.are_inputs.Goals as goal
use Rattle.event_slots.proofs.holding.are_inputs.Goals.{in-Some+else-not-is_at, in_default}

pub loop-handle-init : goal.loop-handle-init
loop-handle-init c = record { few = omega arith; rest = record { to_rest = λ e. e; to_all = λ e. e } }

pub returns-then-not-is_at : goal.returns-then-not-is_at
returns-then-not-is_at c = (
  λ e. absurd (false≢true e),
  λ e.
      let there = other-input (map arc_value c.args.inputs.now) c.args.store.now c.args.handles.now
      c.loop-handle.count
      c.loop-handle.handle-index c.in-Some.product.now c.loop-handle-test.true
      (ap (product_in c.args.store.now) (sym c.from.ensures) ∙ sym c.in-Some.ensures)
      c.loop-handle.invariant.rest e in
      sym c.if-not-is_at.true ∙ c.is_at.ensures.1 there,
)

pub loop-handle-preserved : goal.loop-handle-preserved
loop-handle-preserved c =
    let xs = map arc_value c.args.inputs.now in
    let store = c.args.store.now in
    let handles = c.args.handles.now in
    let index : ℕ = c.loop-handle.handle-index in
    elim c.match-product_at.branch [
      | in-Some+else-not-is_at w ↦
          (let at = w.is_at.ensures.0 w.if-not-is_at.false in
          let within = slice_get_within xs c.loop-handle.count w.in-Some.product.now at in
          record {
            few = omega (arith, w.count-is, within, length-map c.args.inputs.now arc_value);
            rest = subst (λ n. IsAsRest xs store handles n (index + 1)) (sym w.count-is)
                (past-some xs store handles c.loop-handle.count index w.in-Some.product.now
                c.loop-handle-test.true
                (ap (product_in store) (sym c.from.ensures) ∙ sym w.in-Some.ensures) at
                c.loop-handle.invariant.rest);
          })
      | in_default w ↦
          record {
            few = omega (arith, w.count-is, c.loop-handle.invariant.few);
            rest = subst (λ n. IsAsRest xs store handles n (index + 1)) (sym w.count-is)
                (past-none xs store handles c.loop-handle.count index c.loop-handle-test.true
                (ap (product_in store) (sym c.from.ensures) ∙ sym w.in_default.ensures)
                c.loop-handle.invariant.rest);
          }
    ]

pub returns : goal.returns
returns c =
    let xs = map arc_value c.args.inputs.now in
    let size = length-map c.args.inputs.now arc_value in
    subst (λ n. Decides (nat_eq c.loop-handle.count n) (xs ≡ inputs_in c.args.store.now c.args.handles.now))
    size
    (compared xs c.args.store.now c.args.handles.now c.loop-handle.count c.loop-handle.handle-index
    c.loop-handle-test.false
    (omega (arith, size, c.loop-handle.invariant.few)) c.loop-handle.invariant.rest)
