use Rattle.std.proofs.Common.{map, ◌∙◌}
use Rattle.std.specs.Arc.{arc_value}
use Rattle.event_slots.proofs.Beginnings.{slots-founded}
use Rattle.event_slots.proofs.slots.Slots.new.Goals as goal

pub returns : goal.returns
returns c =
    slots-founded c.args.job.now c.args.slots c.handles.result (map arc_value c.in_ok-bodies.bodies.items)
    c.in_ok-seats.seats.items
    c.in_ok-board.board c.in_ok-pools.pools c.new-3.result.items c.requires.few (c.in_ok-bodies.ensures
    ∙ c.algorithms.ensures)
    c.in_ok-seats.ensures.count c.in_ok-seats.ensures.seats c.in_ok-board.ensures.slots
    c.in_ok-board.ensures.handles c.handles.ensures
    c.in_ok-pools.ensures c.new-3.ensures.items
