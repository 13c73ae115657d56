-- What a table keeps beside what it was told: an index from each handle to the algorithms that take it, the
-- number of inputs that each algorithm is missing, and the set of those that can run.
use Rattle.std.specs.Prelude.{ℕ, ◌≤◌, ◌<◌, ◌≡◌, ◌&&◌, nat_eq, not, is_some, Bool, List, [], length, map, slice_index, slice_index_or, Option}
use Rattle.std.specs.List.{count_by}
use Rattle.hive_model.specs.Many.{Many}
use Rattle.hive_model.specs.Results.{outcome_at}
use Rattle.hive_model.specs.declared.limits.TheConstants.{MOST_ALGORITHMS}
use Rattle.hive_model.specs.declared.outcome.Outcome.{Outcome}
use Rattle.number_set.specs.Numbers.{has}
use Rattle.number_set.specs.declared.NumberSet.{NumberSet}
use Rattle.algo_states.specs.States.{holds}

-- the lists inside
abbrev pub lists_of : List (Many ℕ) → List (List ℕ)
lists_of many = map (λ (it : Many ℕ). it.items) many

abbrev pub is_missing : List Bool → ℕ → Bool
is_missing arrived handle = not (holds arrived handle)

-- not handed out, not run, and nothing is missing
abbrev pub waits : Bool → Bool → ℕ → Bool
waits scheduled has_run missing = not scheduled && (not has_run && nat_eq missing 0)

unfoldable pub is_waiting : List Bool → List Bool → List (Option Outcome) → List ℕ → ℕ → Bool
is_waiting reached scheduled outcomes missing number =
    holds reached number
    && waits (holds scheduled number) (is_some (outcome_at outcomes number)) (slice_index missing number)

-- the set has those that can run
abbrev pub IsReadySet : List Bool → List Bool → List (Option Outcome) → List ℕ → NumberSet → Type 0
IsReadySet reached scheduled outcomes missing ready =
    (n : ℕ) → has ready n ≡ is_waiting reached scheduled outcomes missing n

abbrev pub mentions : ℕ → List ℕ → ℕ
mentions number numbers = count_by (nat_eq number) numbers

pub record AreSizes (count handles : ℕ) (consumers : List (List ℕ)) (missing : List ℕ)
    (reached scheduled : List Bool) (outcomes : List (Option Outcome)) : Type 0 where
  pub few : count ≤ MOST_ALGORITHMS
  pub indexed : length consumers ≡ handles
  pub counted : length missing ≡ count
  pub reach : length reached ≡ count
  pub schedule : length scheduled ≡ count
  pub outcome : length outcomes ≡ count

-- a handle's list names an algorithm as often as the algorithm's inputs name the handle
abbrev pub IsIndex : List (List ℕ) → List (List ℕ) → Type 0
IsIndex needs consumers =
    (a h : ℕ) → h < length consumers →
    mentions a (slice_index_or consumers h []) ≡ mentions h (slice_index_or needs a [])

abbrev pub AreMissing : List (List ℕ) → List Bool → List ℕ → Type 0
AreMissing needs arrived missing =
    (a : ℕ) → slice_index missing a ≡ count_by (is_missing arrived) (slice_index_or needs a [])

pub record IsTable (needs consumers : List (List ℕ)) (missing : List ℕ) (reached scheduled : List Bool)
    (outcomes : List (Option Outcome)) (arrived : List Bool) (ready : NumberSet) : Type 0 where
  pub sizes : AreSizes (length needs) (length arrived) consumers missing reached scheduled outcomes
  pub index : IsIndex needs consumers
  pub counts : AreMissing needs arrived missing
  pub set : IsReadySet reached scheduled outcomes missing ready
