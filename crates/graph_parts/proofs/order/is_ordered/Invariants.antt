use Rattle.graph_parts.specs.Ranks.{AreRanked}
use Rattle.graph_parts.proofs.order.is_ordered.Given as goal

abbrev pub invariant-loop-turn : goal.invariant-loop-turn
invariant-loop-turn l = AreRanked l.next l.ranks.items l.turn
