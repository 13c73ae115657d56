use Rattle.std.proofs.Common.{◌≡◌, None, replicate}
use Rattle.decision_nodes.proofs.founding.no_outcomes.Given as goal

abbrev pub invariant-loop-number : goal.invariant-loop-number
invariant-loop-number l = l.outcomes.items ≡ replicate l._number None
