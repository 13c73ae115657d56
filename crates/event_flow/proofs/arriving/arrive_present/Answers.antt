use Rattle.std.proofs.Common.{sym, ◌∙◌}
use Rattle.event_flow.proofs.Arrivals.{cell-read, present-kept, present-new, present-next, present-none, present-within}
use Rattle.event_flow.proofs.arriving.arrive_present.Goals as goal
use Rattle.event_flow.proofs.arriving.arrive_present.Goals.{then-is_some, else-is_some}

pub loop-handle-init : goal.loop-handle-init
loop-handle-init c = present-none c.args.states.now c.args.cells.now c.requires.none

pub arrive-requires-clause-within : goal.arrive-requires-clause-within
arrive-requires-clause-within c =
    present-within c.args.states.now c.loop-handle.states c.loop-handle.handle c.args.cells.now c.loop-handle.invariant
    c.loop-handle-test.true c.requires.within

pub arrive-requires-clause-new : goal.arrive-requires-clause-new
arrive-requires-clause-new c =
    present-new c.args.states.now c.loop-handle.states c.loop-handle.handle c.args.cells.now c.loop-handle.invariant

pub loop-handle-preserved : goal.loop-handle-preserved
loop-handle-preserved c =
    let cells = c.args.cells.now in
    let i = c.loop-handle.handle in
    let seen = cell-read cells i c.index-cells-handle.result c.loop-handle-test.true c.index-cells-handle.is in
    elim c.if-is_some.branch [
      | then-is_some w ↦
          w.states-is
          ∙ present-next c.args.states.now c.loop-handle.states w.arrive.new.self i cells c.loop-handle.invariant c.loop-handle-test.true
          c.requires.within (seen ∙ sym c.is_some.ensures ∙ w.if-is_some.true) w.arrive.ensures
      | else-is_some w ↦
          w.states-is
          ∙ present-kept c.args.states.now c.loop-handle.states i cells c.loop-handle.invariant c.loop-handle-test.true
          (seen ∙ sym c.is_some.ensures ∙ w.if-is_some.false)
    ]
