-- What a table of states was told of an event, and the state of each algorithm that follows from it.
use Rattle.std.specs.Prelude.{ℕ, ◌≤◌, ◌<◌, ◌≡◌, ◌&&◌, not, is_some, Bool, true, false, List, [], length, map, replicate, slice_set, slice_index_or, Option, Some, None, MatchOption}
use Rattle.std.specs.List.{list_all}
use Rattle.hive_model.specs.Algorithm.{Algorithm}
use Rattle.hive_model.specs.Handles.{handle_count}
use Rattle.hive_model.specs.Job.{Job}
use Rattle.hive_model.specs.Results.{outcome_at}
use Rattle.hive_model.specs.declared.outcome.Outcome.{Outcome}
use Rattle.hive_model.specs.declared.outcome.Outcome.TheVariants as outcomes
use Rattle.algo_states.specs.declared.state.State.{State}
use Rattle.algo_states.specs.declared.state.State.TheVariants.{Initial, ControlReady, DataReady, Scheduled, Accepted, Rejected, Error}

pub record States : Type 0 where
  -- the inputs of each algorithm
  pub needs : List (List ℕ)
  -- by algorithm
  pub reached : List Bool
  pub scheduled : List Bool
  pub outcomes : List (Option Outcome)
  -- by handle
  pub arrived : List Bool

-- whether the flag of that number is set
abbrev pub holds : List Bool → ℕ → Bool
holds flags number = slice_index_or flags number false

abbrev pub needs_of : States → ℕ → List ℕ
needs_of t number = slice_index_or t.needs number []

-- all inputs have arrived
abbrev pub is_complete : States → ℕ → Bool
is_complete t number = list_all (holds t.arrived) (needs_of t number)

-- reached, not scheduled, not run, and all inputs have arrived
unfoldable pub is_data_ready : States → ℕ → Bool
is_data_ready t number =
    holds t.reached number
    && (not (holds t.scheduled number) && (not (is_some (outcome_at t.outcomes number)) && is_complete t number))

-- by how it ended, whether it is scheduled, whether it is reached, and whether its inputs have arrived
abbrev pub state_by : Option Outcome → Bool → Bool → Bool → State
state_by (Some outcomes.Accepted) scheduled reached complete = Accepted
state_by (Some outcomes.Rejected) scheduled reached complete = Rejected
state_by (Some (outcomes.Failed at fault)) scheduled reached complete = Error
state_by None true reached complete = Scheduled
state_by None false true true = DataReady
state_by None false true false = ControlReady
state_by None false false complete = Initial

unfoldable pub state_of : States → ℕ → State
state_of t number =
    state_by (outcome_at t.outcomes number) (holds t.scheduled number) (holds t.reached number) (is_complete t number)

-- nothing was told yet
abbrev pub opening : List (List ℕ) → ℕ → States
opening needs handles = record {
  needs = needs;
  reached = replicate (length needs) false;
  scheduled = replicate (length needs) false;
  outcomes = replicate (length needs) None;
  arrived = replicate handles false;
}

abbrev pub inputs_of : List Algorithm → List (List ℕ)
inputs_of algorithms = map (λ (a : Algorithm). a.inputs) algorithms

abbrev pub opening_of : Job → States
opening_of job = opening (inputs_of job.algorithms) (handle_count job)

-- what is told

abbrev pub with_reached : States → ℕ → States
with_reached t number = record t { reached = slice_set t.reached number true }

abbrev pub with_arrived : States → ℕ → States
with_arrived t handle = record t { arrived = slice_set t.arrived handle true }

abbrev pub with_scheduled : States → ℕ → Bool → States
with_scheduled t number scheduled = record t { scheduled = slice_set t.scheduled number scheduled }

abbrev pub with_outcome : States → ℕ → Outcome → States
with_outcome t number outcome =
    record (with_scheduled t number false) { outcomes = slice_set t.outcomes number (Some outcome) }

-- the least one from a number on that can run, and none where there is none
abbrev pub IsNextReady : States → ℕ → Option ℕ → Type 0
IsNextReady t from it =
    MatchOption it ((n : ℕ) → from ≤ n → is_data_ready t n ≡ false)
    (λ number. (from ≤ number) × (number < length t.needs) × (is_data_ready t number ≡ true)
    × ((n : ℕ) → from ≤ n → n < number → is_data_ready t n ≡ false))
