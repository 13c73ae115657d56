use Rattle.std.proofs.Common.{◌≤◌, ◌-◌}
use Rattle.hive_model.specs.declared.limits.TheConstants.{MOST_ALGORITHMS}
use Rattle.event_flow.specs.Claims.{IsLeastBelow}
use Rattle.event_flow.proofs.claims.least_claim.Given as goal

abbrev pub invariant-loop-number : goal.invariant-loop-number
invariant-loop-number l = record {
  least : IsLeastBelow l.claims l.from l.least;
  low : l.from ≤ MOST_ALGORITHMS;
}

abbrev pub decreases-loop-number : goal.decreases-loop-number
decreases-loop-number l = MOST_ALGORITHMS - l.from
