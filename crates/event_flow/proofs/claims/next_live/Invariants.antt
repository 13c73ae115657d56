use Rattle.std.proofs.Common.{◌≡◌, ◌≤◌, ◌<◌, ◌-◌, ℕ, false, length}
use Rattle.event_flow.specs.Claims.{is_live_ready}
use Rattle.event_flow.proofs.claims.next_live.Given as goal

abbrev pub invariant-loop-number : goal.invariant-loop-number
invariant-loop-number l = record {
  low : l.from ≤ l.at;
  none : (n : ℕ) → l.from ≤ n → n < l.at → is_live_ready l.tree l.states n ≡ false;
}

abbrev pub decreases-loop-number : goal.decreases-loop-number
decreases-loop-number l = length l.states.needs - l.at
