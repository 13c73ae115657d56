use Rattle.std.proofs.Common.{◌≡◌, ◌≤◌, ◌-◌, ◌||◌, ◌&&◌, ℕ, nat_lt, length}
use Rattle.algo_states.specs.States.{holds}
use Rattle.hive_model.specs.declared.limits.TheConstants.{MOST_ALGORITHMS}
use Rattle.number_set.specs.Numbers.{has}
use Rattle.event_flow.proofs.arriving.reach_all.Given as goal

abbrev pub invariant-loop-number : goal.invariant-loop-number
invariant-loop-number l = record {
  rest : l.states ≡ record l.fn.states { reached = l.states.reached };
  size : length l.states.reached ≡ length l.fn.states.reached;
  reached_are : (n : ℕ) → holds l.states.reached n ≡ (holds l.fn.states.reached n || (has l.newly n && nat_lt n l.from));
  low : l.from ≤ MOST_ALGORITHMS;
}

abbrev pub decreases-loop-number : goal.decreases-loop-number
decreases-loop-number l = MOST_ALGORITHMS - l.from
