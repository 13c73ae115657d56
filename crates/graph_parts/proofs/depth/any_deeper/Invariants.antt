use Rattle.std.proofs.Common.{◌≡◌, drop}
use Rattle.graph_parts.specs.Links.{deeper_by}
use Rattle.graph_parts.proofs.depth.any_deeper.Given as goal

abbrev pub invariant-loop-number : goal.invariant-loop-number
invariant-loop-number l = deeper_by l.deeper (drop l.number-index l.below) ≡ deeper_by l.deeper l.below
