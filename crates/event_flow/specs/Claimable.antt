-- Which algorithms can be claimed: those that are reached, not run, with all their inputs, not withdrawn and not
-- claimed. An event is settled where nothing is claimed and nothing can be.
use Rattle.std.specs.Prelude.{ℕ, ◌≤◌, ◌<◌, ◌≡◌, ◌&&◌, not, is_some, Bool, true, false, length, Option, Some, None, MatchOption}
use Rattle.std.specs.List.{list_any, range_with_len}
use Rattle.decision_nodes.specs.Tree.{is_reached_in, is_withdrawn_in}
use Rattle.hive_model.specs.Results.{outcome_at}
use Rattle.event_flow.specs.Flow.{Flow, tree_of, claim_in, have_arrived}
use Rattle.event_flow.specs.declared.held.Held.{Held}

unfoldable pub can_claim_in : Flow → ℕ → Bool
can_claim_in f number =
    ((is_reached_in (tree_of f) number
    && (not (is_some (outcome_at f.outcomes number)) && have_arrived f number))
    && not (is_withdrawn_in (tree_of f) number))
    && not (is_some (claim_in f number))

-- the least one from a number on that can be claimed, and none where there is none
abbrev pub IsNextClaimable : Flow → ℕ → Option ℕ → Type 0
IsNextClaimable f from it =
    MatchOption it ((n : ℕ) → from ≤ n → can_claim_in f n ≡ false)
    (λ number. (from ≤ number) × (number < length f.needs) × (can_claim_in f number ≡ true)
    × ((n : ℕ) → from ≤ n → n < number → can_claim_in f n ≡ false))

unfoldable pub is_settled_in : Flow → Bool
is_settled_in f =
    not (list_any is_some f.claims) && not (list_any (can_claim_in f) (range_with_len 0 (length f.needs)))

-- a claim that is outstanding, with its algorithm, and no other has a smaller ticket
pub record IsLeastClaim (f : Flow) (number : ℕ) (held : Held) : Type 0 where
  pub there : claim_in f number ≡ Some held
  pub least : (n : ℕ) (other : Held) → claim_in f n ≡ Some other → held.ticket ≤ other.ticket

-- none exactly where nothing is claimed
abbrev pub IsFirstClaim : Flow → Option (ℕ × Held) → Type 0
IsFirstClaim f it = MatchOption it ((n : ℕ) → claim_in f n ≡ None) (λ found. IsLeastClaim f found.0 found.1)
