-- A guest of a seat has room for all that its result tells, so that the result takes no memory.
use Rattle.std.specs.Prelude.{◌≡◌, ℕ, ◌+◌, ◌<◌, ◌≤◌, Bool, false, if◌then◌else◌, is_some, [], length, Option, Some, None, IsSome, slice_get}
use Rattle.std.specs.List.{count_by}
use Rattle.event_flow.specs.Events.{IsFlowFor}
use Rattle.event_flow.specs.Flow.{Flow, claim_in}
use Rattle.event_flow.specs.declared.held.Held.{Held}
use Rattle.hive_model.specs.Job.{Job}
use Rattle.hive_model.specs.Results.{outcome_at}
use Rattle.event_slots.specs.Slots.{Seat}
use Rattle.event_slots.specs.declared.guest.Guest.{Guest}

-- nothing is told yet, and there is room for so many decisions and ends
pub record HasRoomFor (sequences algorithms : ℕ) (guest : Guest) : Type 0 where
  pub no_decisions : guest.decisions.items ≡ []
  pub no_ends : guest.ends.items ≡ []
  pub decisions : sequences ≤ guest.decisions.spare
  pub ends : algorithms ≤ guest.ends.spare

abbrev pub IsHostOf : Flow → Option Guest → Type 0
IsHostOf flow None = Unit {0}
IsHostOf flow (Some guest) = HasRoomFor (length flow.sequences) (length flow.needs) guest

-- the seat has an event
abbrev pub is_seated : Seat → Bool
is_seated seat = is_some seat.place

abbrev pub place_in : Seat → Option ℕ
place_in seat = seat.place

-- the claim of an algorithm in its event
abbrev pub seated_claim : ℕ → Seat → Option Held
seated_claim algorithm seat = if is_seated seat then claim_in seat.flow algorithm else None

-- how many claims of its event are outstanding
abbrev pub seated_claims : Seat → ℕ
seated_claims seat = if is_seated seat then count_by is_some seat.flow.claims else 0

-- the algorithm is claimed and has not run, and so many places from its first output on are missing
pub record CanFinish (flow : Flow) (algorithm first count : ℕ) : Type 0 where
  pub within : algorithm < length flow.needs
  pub held : IsSome (claim_in flow algorithm)
  pub unrun : outcome_at flow.outcomes algorithm ≡ None
  pub missing : (i : ℕ) → i < count → slice_get flow.arrived (first + i) ≡ Some false

-- it is empty, and its flow is one of the job
abbrev pub IsVacantFor : Job → Seat → Type 0
IsVacantFor job seat = (seat.place ≡ None) × IsFlowFor job seat.flow
