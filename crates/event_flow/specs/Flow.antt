-- What one event in flight knows of itself: the forest and the inputs of its job, how each algorithm ended,
-- which handles have arrived, and which algorithms are claimed.
use Rattle.std.specs.Prelude.{ℕ, Bool, false, List, [], length, replicate, Option, None, slice_get, slice_index_or}
use Rattle.std.specs.List.{list_all}
use Rattle.std.specs.Option.{option_flatten}
use Rattle.algo_states.specs.States.{holds, inputs_of}
use Rattle.decision_nodes.specs.Tree.{Tree}
use Rattle.hive_model.specs.Handles.{handle_count}
use Rattle.hive_model.specs.Job.{Job}
use Rattle.hive_model.specs.Sequence.{Sequence}
use Rattle.hive_model.specs.declared.outcome.Outcome.{Outcome}
use Rattle.event_flow.specs.declared.held.Held.{Held}

pub record Flow : Type 0 where
  pub sequences : List Sequence
  pub top : ℕ
  -- by algorithm: its inputs, how it ended, and the claim of it that is outstanding
  pub needs : List (List ℕ)
  pub outcomes : List (Option Outcome)
  pub claims : List (Option Held)
  -- by handle
  pub arrived : List Bool

-- the part that decisions read
abbrev pub tree_of : Flow → Tree
tree_of f = record { sequences = f.sequences; top = f.top; outcomes = f.outcomes }

-- the claim of an algorithm that is outstanding
abbrev pub claim_in : Flow → ℕ → Option Held
claim_in f number = option_flatten (slice_get f.claims number)

-- all inputs of the algorithm have arrived
abbrev pub have_arrived : Flow → ℕ → Bool
have_arrived f number = list_all (holds f.arrived) (slice_index_or f.needs number [])

-- nothing was told of an event yet
abbrev pub opening_of : Job → Flow
opening_of job = record {
  sequences = job.sequences;
  top = job.top;
  needs = inputs_of job.algorithms;
  outcomes = replicate (length job.algorithms) None;
  claims = replicate (length job.algorithms) None;
  arrived = replicate (handle_count job) false;
}
