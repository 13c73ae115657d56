use Rattle.std.proofs.Common.{◌≡◌, ◌∙◌, ap, sym}
use Rattle.std.specs.List.{list_all}
use Rattle.graph_parts.proofs.Ranking.{ranked-at}
use Rattle.graph_parts.specs.Ranks.{is_placed}
use Rattle.graph_parts.proofs.order.place.Goals as goal

pub returns : goal.returns
returns c = λ e.
    ranked-at c.args.next.now c.args.ranks.now.items c.args.turn c.args.number c.in-Some.targets.now c.requires.ranked
    c.in-Some.ensures.lookup.3.0 (c.in-Some.ensures.lookup.3.1 c.in-Some.targets.now)
    (rw (← c.as_slice.ensures.value) (sym c.is_placed.ensures ∙ c.if-is_placed.false))
    (rw (← c.as_slice-3.ensures.value, ← c.as_slice-2.ensures.value) (sym c.are_placed.ensures ∙ c.if-not-are_placed.false))
