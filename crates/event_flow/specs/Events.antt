-- The flow of an event of the scheduler, and what every flow shares with its job, whichever event it is of.
use Rattle.std.specs.Prelude.{◌≡◌, is_some, length, map}
use Rattle.std.specs.Option.{option_map}
use Rattle.algo_states.specs.States.{inputs_of}
use Rattle.hive_model.specs.Handles.{handle_count}
use Rattle.hive_model.specs.Job.{Job}
use Rattle.hive_model.specs.Machine.{Busy, Outstanding}
use Rattle.hive_model.specs.Results.{outcomes}
use Rattle.event_flow.specs.Flow.{Flow}
use Rattle.event_flow.specs.declared.held.Held.{Held}

-- a claim without the inputs that it was given
abbrev pub bare : Outstanding → Held
bare c = record { ticket = c.ticket; clone = c.clone }

unfoldable pub flow_of : Job → Busy → Flow
flow_of job b = record {
  sequences = job.sequences;
  top = job.top;
  needs = inputs_of job.algorithms;
  outcomes = outcomes b.ran;
  claims = map (option_map bare) b.claims;
  arrived = map is_some b.store;
}

pub record IsFlowFor (job : Job) (f : Flow) : Type 0 where
  pub sequences_are : f.sequences ≡ job.sequences
  pub top_is : f.top ≡ job.top
  pub needs_are : f.needs ≡ inputs_of job.algorithms
  pub all_outcomes : length f.outcomes ≡ length job.algorithms
  pub all_claims : length f.claims ≡ length job.algorithms
  pub all_handles : length f.arrived ≡ handle_count job
