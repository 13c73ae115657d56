-- What may come back, what may be booked, and the result of an event that has settled.
use Rattle.std.specs.Prelude.{◌≡◌, ℕ, ◌+◌, ◌<◌, ◌≤◌, List, length, Option, Some, None, slice_get, IsSomeAnd}
use Rattle.hive_model.specs.Algorithm.{Algorithm}
use Rattle.hive_model.specs.Event.{decisions_of, ends_of, status_of}
use Rattle.hive_model.specs.EventResult.{EventResult}
use Rattle.hive_model.specs.Execution.{Execution}
use Rattle.hive_model.specs.Job.{Job}
use Rattle.hive_model.specs.Machine.{Busy, claim_at}
use Rattle.hive_model.specs.Results.{kept, outcomes, ran_at}
use Rattle.hive_model.specs.Scratch.{IsMadeFor}
use Rattle.hive_model.specs.declared.lent.Lent.{Lent}
use Rattle.event_slots.specs.Slots.{busy_in}

-- the instance is that of an outstanding claim of the slot's event
abbrev pub CanReturn : Job → List (Option Busy) → ℕ → Lent → Type 0
CanReturn job slots slot lent =
    IsSomeAnd (busy_in slots slot) (λ b. IsSomeAnd (claim_at b lent.algorithm) (λ c. c.clone ≡ lent.clone))
    × IsSomeAnd (slice_get job.algorithms lent.algorithm) (λ a. IsMadeFor a lent.scratch)

-- the algorithm has not run, and the places of what it left are empty
pub record CanBook (job : Job) (b : Busy) (number : ℕ) (a : Algorithm) (it : Execution) : Type 0 where
  pub unrun : ran_at b.ran number ≡ None
  pub kept_whole : kept (Some it) ≡ it.outputs
  pub few : length it.outputs ≤ length a.outputs
  pub free : (i : ℕ) → i < length it.outputs → slice_get b.store (a.first_output + i) ≡ Some None

abbrev pub CanComplete : Job → List (Option Busy) → ℕ → ℕ → Execution → Type 0
CanComplete job slots slot number it =
    IsSomeAnd (busy_in slots slot) (λ b. IsSomeAnd (slice_get job.algorithms number)
    (λ a. CanBook job b number a it))

-- the result of an event, by what its slot has
abbrev pub result_in : Job → Busy → ℕ → EventResult
result_in job b number = record {
  event = number;
  status = status_of (ends_of job (outcomes b.ran));
  decisions = decisions_of job (outcomes b.ran);
  ends = ends_of job (outcomes b.ran);
  store = b.store;
}
