use Rattle.std.proofs.Common.{◌≡◌, ◌<◌, ◌≤◌, ◌&&◌, true, false, nat_eq, nat_lt, length, map, get_or, ap, sym, ◌∙◌}
use Rattle.std.specs.Arc.{arc_value}
use Rattle.std.specs.List.{enumerate_from}
use Rattle.std.specs.Map.{lookup}
use Rattle.std.proofs.lemmas.List.{length-map}
use Rattle.expr_code.proofs.Handles.{further-next, bound_at, output_behind, bound_nowhere}
use Rattle.expr_code.proofs.frame.index_of.Goals as goal

pub returns-then-is_bound : goal.returns-then-is_bound
returns-then-is_bound c =
    let inputs = map arc_value c.args.frame.now.inputs.now in
    let items = c.inputs-input-items.ensures in
    let inside : c.loop-index.index < length c.args.frame.now.body.now.inputs = rw (sym items) c.loop-index-test.true in
    let bound : (nat_eq c.args.handle (get_or c.args.frame.now.body.now.inputs c.loop-index.index 0) && nat_lt c.loop-index.index (length inputs)) ≡ true =
    rw (length-map c.args.frame.now.inputs.now arc_value, sym items) (sym c.is_bound.ensures ∙ c.if-is_bound.true)
    in
    bound_at c.args.handle c.args.frame.now.body.now.inputs inputs (map arc_value c.args.frame.now.outputs.now) _
    c.loop-index.index inside bound c.loop-index.invariant

pub loop-index-preserved : goal.loop-index-preserved
loop-index-preserved c =
    let inputs = map arc_value c.args.frame.now.inputs.now in
    let items = c.inputs-input-items.ensures in
    let unbound : (nat_eq c.args.handle (get_or c.args.frame.now.body.now.inputs c.loop-index.index 0) && nat_lt c.loop-index.index (length inputs)) ≡ false =
    rw (length-map c.args.frame.now.inputs.now arc_value, sym items) (sym c.is_bound.ensures ∙ c.if-is_bound.false)
    in
    further-next c.args.handle c.args.frame.now.body.now.inputs inputs _ c.loop-index.index unbound
    c.loop-index.invariant

pub returns-in-Some : goal.returns-in-Some
returns-in-Some c =
    let inputs = map arc_value c.args.frame.now.inputs.now in
    let outputs = map arc_value c.args.frame.now.outputs.now in
    let all : length c.args.frame.now.body.now.inputs ≤ c.loop-index.index = rw (sym c.inputs-input-items.ensures) c.loop-index-test.false in
    let inside : c.in-Some.index < length outputs = c.in-Some.ensures.1 in
    let first : c.body.inside.first_output ≡ c.args.frame.now.body.now.first_output = ap (λ it. it.first_output) c.body.view_is in
    let found = c.in-Some.ensures.0 ∙ ap (λ n. lookup (nat_eq c.args.handle) (enumerate_from n outputs)) first in
    rw (sym (length-map c.args.frame.now.inputs.now arc_value))
    (output_behind c.args.handle c.args.frame.now.body.now.inputs inputs outputs _ c.loop-index.index c.in-Some.index all c.loop-index.invariant found inside)

pub returns-in-None : goal.returns-in-None
returns-in-None c =
    let outputs = map arc_value c.args.frame.now.outputs.now in
    let all : length c.args.frame.now.body.now.inputs ≤ c.loop-index.index = rw (sym c.inputs-input-items.ensures) c.loop-index-test.false in
    let first : c.body.inside.first_output ≡ c.args.frame.now.body.now.first_output = ap (λ it. it.first_output) c.body.view_is in
    let nowhere = ap (λ n. lookup (nat_eq c.args.handle) (enumerate_from n outputs)) (sym first) ∙ c.in-None.ensures in
    bound_nowhere c.args.handle c.args.frame.now.body.now.inputs (map arc_value c.args.frame.now.inputs.now) _
    c.loop-index.index all c.loop-index.invariant nowhere
