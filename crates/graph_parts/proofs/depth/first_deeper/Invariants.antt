use Rattle.std.proofs.Common.{length}
use Rattle.text_model.specs.Walks.{is_deeper_than}
use Rattle.graph_parts.proofs.Deeper.{Tell}
use Rattle.graph_parts.specs.Links.{links}
use Rattle.graph_parts.proofs.depth.first_deeper.Given as goal

abbrev pub invariant-loop-round : goal.invariant-loop-round
invariant-loop-round l = Tell l.deeper.items (length l.next) (is_deeper_than (links l.next) l._round)
