use Rattle.std.proofs.Common.{◌≡◌, ◌<◌, ℕ, false}
use Rattle.text_model.specs.Walks.{leads_within}
use Rattle.graph_parts.specs.Links.{links}
use Rattle.graph_parts.proofs.cycle.first_on_cycle.Given as goal

abbrev pub invariant-loop-number : goal.invariant-loop-number
invariant-loop-number l = (steps n : ℕ) → n < l.number → leads_within (links l.next) steps n n ≡ false
