use Rattle.std.proofs.Common.{◌≡◌, ◌∙◌, sym}
use Rattle.graph_parts.proofs.Ranking.{ranked-never}
use Rattle.graph_parts.proofs.order.is_ordered.Goals as goal

pub returns-in_default : goal.returns-in_default
returns-in_default c = λ e steps n inside.
    ranked-never c.args.next.now c.loop-turn.ranks.items c.loop-turn.turn c.loop-turn.invariant
    (rw (← c.as_slice.ensures.value) (sym c.are_all_placed.ensures ∙ e)) steps n inside
