-- The events in flight, as their slots keep them, and the scheduler's slots that this stands for. A seat
-- has the flow of its event and its place in the input, the whiteboard its products, and the pools what all
-- events have on loan.
use Rattle.std.specs.Prelude.{◌≡◌, ℕ, ◌≤◌, is_some, List, length, map, Option, Some, None, IsSome, slice_get}
use Rattle.std.specs.List.{count_by, sum_by}
use Rattle.std.specs.Option.{option_flatten, option_map, option_map_or}
use Rattle.clone_pools.specs.Loans.{Pools}
use Rattle.event_flow.specs.Events.{IsFlowFor, flow_of}
use Rattle.event_flow.specs.Flow.{Flow}
use Rattle.hive_model.specs.Algorithm.{Algorithm}
use Rattle.hive_model.specs.Handles.{handle_count}
use Rattle.hive_model.specs.Job.{Job}
use Rattle.hive_model.specs.Machine.{Busy}
use Rattle.hive_model.specs.declared.limits.TheConstants.{MOST_SLOTS}
use Rattle.loan_laws.specs.Loans.{ArePoolsOf}
use Rattle.whiteboard.specs.Slots.{Slots as Board}

pub record Seat : Type 0 where
  pub flow : Flow
  -- none where the slot is empty
  pub place : Option ℕ

pub record Slots : Type 0 where
  pub bodies : List Algorithm
  pub seats : List Seat
  pub board : Board
  pub pools : Pools
  -- the slots of the events in flight, oldest first
  pub order : List ℕ

-- the event in a slot

abbrev pub busy_in : List (Option Busy) → ℕ → Option Busy
busy_in slots slot = option_flatten (slice_get slots slot)

-- how many claims are outstanding

abbrev pub claims_of : Option Busy → ℕ
claims_of s = option_map_or (λ (b : Busy). count_by is_some b.claims) s 0

abbrev pub claims_out : List (Option Busy) → ℕ
claims_out slots = sum_by claims_of slots

-- the event's lists are as long as the job asks
pub record IsSized (job : Job) (b : Busy) : Type 0 where
  pub ran : length b.ran ≡ length job.algorithms
  pub store : length b.store ≡ handle_count job
  pub claims : length b.claims ≡ length job.algorithms

-- the seat of an empty slot keeps some flow of the job
abbrev pub IsSeatOf : Job → Option Busy → Seat → Type 0
IsSeatOf job None seat = (seat.place ≡ None) × IsFlowFor job seat.flow
IsSeatOf job (Some b) seat =
    (seat.place ≡ Some b.place) × (seat.flow ≡ flow_of job b) × IsSized job b × IsFlowFor job seat.flow

-- the stores of the events, by slot
abbrev pub board_of : Job → List (Option Busy) → Board
board_of job slots =
    record { slots = map (option_map (λ (b : Busy). b.store)) slots; handles = handle_count job }

-- the slot has a place in that order
abbrev pub StandsIn : List ℕ → ℕ → Type 0
StandsIn order slot = (at : ℕ) × (slice_get order at ≡ Some slot)

-- no slot has two places in it
abbrev pub IsOnce : List ℕ → Type 0
IsOnce order =
    (one other slot : ℕ) → slice_get order one ≡ Some slot → slice_get order other ≡ Some slot → one ≡ other

-- each event in flight has one place in it, and nobody else has one
pub record IsOrderOf (slots : List (Option Busy)) (order : List ℕ) : Type 0 where
  pub all : (slot : ℕ) (b : Busy) → busy_in slots slot ≡ Some b → StandsIn order slot
  pub only : (at slot : ℕ) → slice_get order at ≡ Some slot → IsSome (busy_in slots slot)
  pub once : IsOnce order

pub record AreSlotsOf (job : Job) (slots : List (Option Busy)) (it : Slots) : Type 0 where
  pub bodies : it.bodies ≡ job.algorithms
  pub as_many : length it.seats ≡ length slots
  pub few : length slots ≤ MOST_SLOTS
  pub seats : (slot : ℕ) (busy : Option Busy) (seat : Seat) →
      slice_get slots slot ≡ Some busy → slice_get it.seats slot ≡ Some seat → IsSeatOf job busy seat
  pub board : it.board ≡ board_of job slots
  pub pools : ArePoolsOf job slots it.pools
  pub order : IsOrderOf slots it.order
