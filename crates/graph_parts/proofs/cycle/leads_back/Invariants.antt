use Rattle.graph_parts.proofs.Searching.{IsSearched}
use Rattle.graph_parts.proofs.cycle.leads_back.Given as goal

abbrev pub invariant-loop-at : goal.invariant-loop-at
invariant-loop-at l = IsSearched l.next l.from l.seen.items l.found.items l.at
