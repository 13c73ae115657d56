-- The state of the scheduler. A slot is empty or busy with one event: its place in the input, its results and its store so far,
-- and for each algorithm the claim that is outstanding, if there is one. There is no pool: an instance is free where no
-- outstanding claim names it.
use Rattle.std.specs.Prelude.{ℕ, Bool, false, List, [], length, replicate, Option, None, slice_get}
use Rattle.std.specs.Option.{option_and_then, option_flatten}
use Rattle.hive_model.specs.EventRecord.{EventRecord}
use Rattle.hive_model.specs.EventResult.{EventResult}
use Rattle.hive_model.specs.Job.{Job}
use Rattle.hive_model.specs.Results.{Results, none_ran, store}
use Rattle.hive_model.specs.declared.product.Product.{Product}

-- a claim that was neither done nor put back; its ticket is the index, from 0, of its entry in the journal
pub record Outstanding : Type 0 where
  pub ticket : ℕ
  pub clone : Option ℕ
  pub inputs : List Product

pub record Busy : Type 0 where
  pub place : ℕ
  pub ran : Results
  pub store : List (Option Product)
  pub claims : List (Option Outstanding)

-- an event that ended
pub record Finished : Type 0 where
  pub place : ℕ
  pub result : EventResult

pub record Machine : Type 0 where
  -- how many records were admitted
  pub admitted : ℕ
  pub slots : List (Option Busy)
  -- in the order in which they ended
  pub finished : List Finished
  -- whether it was said that no further event comes
  pub closed : Bool

abbrev pub opening : ℕ → Machine
opening slots = record { admitted = 0; slots = replicate slots None; finished = []; closed = false }

-- an event with this record takes a slot: nothing has run, and the store holds the record's products alone
unfoldable pub begun : Job → ℕ → EventRecord → Busy
begun job place event = record {
  place = place;
  ran = none_ran job;
  store = store job event (none_ran job);
  claims = replicate (length job.algorithms) None;
}

-- the outstanding claim of an algorithm
abbrev pub claim_at : Busy → ℕ → Option Outstanding
claim_at b number = option_flatten (slice_get b.claims number)

abbrev pub claim_in : ℕ → Option Busy → Option Outstanding
claim_in number slot = option_and_then (λ b. claim_at b number) slot
