-- What a flow keeps beside what contracts see of it: two tables that agree, the set of the claimed algorithms,
-- and counts.
use Rattle.std.specs.Prelude.{◌≡◌, ◌<◌, ◌≤◌, ℕ, is_some, true, List, length, Option}
use Rattle.std.specs.List.{count_by}
use Rattle.algo_states.specs.States.{States, holds}
use Rattle.decision_nodes.specs.Tree.{Tree, is_reached_in}
use Rattle.hive_model.specs.declared.limits.TheConstants.{MOST_ALGORITHMS, MOST_HANDLES}
use Rattle.hive_model.specs.declared.outcome.Outcome.{Outcome}
use Rattle.number_set.specs.Numbers.{has}
use Rattle.number_set.specs.declared.NumberSet.{NumberSet}
use Rattle.event_flow.specs.Claims.{claim_among}
use Rattle.event_flow.specs.declared.held.Held.{Held}

pub record AreSizes (tree : Tree) (states : States) (claims : List (Option Held)) (nodes : ℕ) : Type 0 where
  pub few : length states.needs ≤ MOST_ALGORITHMS
  pub few_handles : length states.arrived ≤ MOST_HANDLES
  pub nodes_are : nodes ≡ length tree.sequences
  pub reach : length states.reached ≡ length states.needs
  pub schedule : length states.scheduled ≡ length states.needs
  pub outcome : length states.outcomes ≡ length states.needs
  pub claim : length claims ≡ length states.needs

-- only algorithms of the job are reached, whatever has run
abbrev pub ReachesWithin : Tree → ℕ → Type 0
ReachesWithin tree count =
    (ran : List (Option Outcome)) (n : ℕ) → is_reached_in (record tree { outcomes = ran }) n ≡ true →
    n < count

pub record IsTied (tree : Tree) (states : States) (claims : List (Option Held)) (claimed : NumberSet)
    (outstanding nodes : ℕ) : Type 0 where
  pub sizes : AreSizes tree states claims nodes
  pub within : ReachesWithin tree (length states.needs)
  pub outcomes_are : tree.outcomes ≡ states.outcomes
  pub reached_are : (n : ℕ) → holds states.reached n ≡ is_reached_in tree n
  pub scheduled_are : (n : ℕ) → holds states.scheduled n ≡ is_some (claim_among claims n)
  pub claimed_are : (n : ℕ) → has claimed n ≡ is_some (claim_among claims n)
  pub counted : outstanding ≡ count_by is_some claims
