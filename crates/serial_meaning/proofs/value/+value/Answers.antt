use Rattle.std.proofs.Common.{◌-◌, map, FitsSigned, to_z-of_z, ap, ◌∙◌, rules, arith}
use Rattle.std.specs.Int.{w64}
use Rattle.serial_meaning.specs.Evaluation.{bound, value_within}
use Rattle.serial_meaning.specs.declared.form.Form.TheVariants as form
use Rattle.serial_meaning.proofs.Values.{stands-at, tree-deep, tree-inside, operand-one, operand-first, operand-second, value-number, value-handle, value-one, value-two}
use Rattle.serial_meaning.proofs.value.+value.Goals as goal

pub overflow_sub-below : goal.overflow_sub-below
overflow_sub-below t c = tree-deep c.args.nodes.now c.args.depth c.args.place c.requires

pub node_at-requires : goal.node_at-requires
node_at-requires t c = tree-inside c.args.nodes.now c.args.depth c.args.place c.requires

pub value-requires : goal.value-requires
value-requires t c =
    let nodes = c.args.nodes.now in
    let step = c.in-One.step in
    let here = stands-at nodes c.args.place (form.One step c.in-One.only) _ c.node_at.ensures c.in-One.ensures in
    let deep = tree-deep nodes c.args.depth c.args.place c.requires in
    let tree = operand-one nodes c.args.depth c.args.place step c.in-One.only c.requires here in
    (omega (arith, deep), rw c.from.ensures tree)

pub value-requires-in-Two : goal.value-requires-in-Two
value-requires-in-Two t c =
    let nodes = c.args.nodes.now in
    let step = c.in-Two.step in
    let here = stands-at nodes c.args.place (form.Two step c.in-Two.first c.in-Two.second) _ c.node_at.ensures c.in-Two.ensures in
    let deep = tree-deep nodes c.args.depth c.args.place c.requires in
    let tree = operand-first nodes c.args.depth c.args.place step c.in-Two.first c.in-Two.second c.requires here in
    (omega (arith, deep), rw c.from-in-Two.ensures tree)

pub value-requires-in-Two-2 : goal.value-requires-in-Two-2
value-requires-in-Two-2 t c =
    let nodes = c.args.nodes.now in
    let step = c.in-Two.step in
    let here = stands-at nodes c.args.place (form.Two step c.in-Two.first c.in-Two.second) _ c.node_at.ensures c.in-Two.ensures in
    let deep = tree-deep nodes c.args.depth c.args.place c.requires in
    let tree = operand-second nodes c.args.depth c.args.place step c.in-Two.first c.in-Two.second c.requires here in
    (omega (arith, deep), rw c.from-in-Two-2.ensures tree)

pub returns-in-Number : goal.returns-in-Number
returns-in-Number t c =
    let nodes = c.args.nodes.now in
    let here = stands-at nodes c.args.place (form.Number c.in-Number.number) _ c.node_at.ensures c.in-Number.ensures in
    let deep = tree-deep nodes c.args.depth c.args.place c.requires in
    let fits : FitsSigned w64 c.in-Number.number = search rules in
    rw (to_z-of_z fits)
    (value-number (map bound c.args.held.now) nodes c.args.depth c.args.place c.in-Number.number deep here)

pub returns-in-Handle : goal.returns-in-Handle
returns-in-Handle t c =
    let nodes = c.args.nodes.now in
    let here = stands-at nodes c.args.place (form.Handle c.in-Handle.handle) _ c.node_at.ensures c.in-Handle.ensures in
    let deep = tree-deep nodes c.args.depth c.args.place c.requires in
    c.found_in.ensures
    ∙ value-handle (map bound c.args.held.now) nodes c.args.depth c.args.place c.in-Handle.handle deep here

pub returns-in_ok-operand-in-One : goal.returns-in_ok-operand-in-One
returns-in_ok-operand-in-One t c =
    let nodes = c.args.nodes.now in
    let held = map bound c.args.held.now in
    let here = stands-at nodes c.args.place (form.One c.in-One.step c.in-One.only) _ c.node_at.ensures c.in-One.ensures in
    let deep = tree-deep nodes c.args.depth c.args.place c.requires in
    let operand = c.in_ok-operand-in-One.ensures ∙ ap (value_within held (c.args.depth - 1) nodes) c.from.ensures in
    c.apply_one.ensures
    ∙ value-one held nodes c.args.depth c.args.place c.in-One.step c.in-One.only _ deep here operand

pub returns-in_ok-apply_two-in-Two : goal.returns-in_ok-apply_two-in-Two
returns-in_ok-apply_two-in-Two t c =
    let nodes = c.args.nodes.now in
    let held = map bound c.args.held.now in
    let step = c.in-Two.step in
    let here = stands-at nodes c.args.place (form.Two step c.in-Two.first c.in-Two.second) _ c.node_at.ensures c.in-Two.ensures in
    let left = c.in_ok-left-in-Two.ensures ∙ ap (value_within held (c.args.depth - 1) nodes) c.from-in-Two.ensures in
    let right = c.in_ok-right-in-Two.ensures ∙ ap (value_within held (c.args.depth - 1) nodes) c.from-in-Two-2.ensures in
    c.in_ok-apply_two-in-Two.ensures
    ∙ value-two held nodes c.args.depth c.args.place step c.in-Two.first c.in-Two.second _ _ c.requires here left right
