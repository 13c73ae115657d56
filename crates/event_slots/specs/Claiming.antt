-- What a claim hands out. An algorithm may be claimed with an instance where it is enabled and not claimed
-- in its event, and the instance and its resources' units are free.
use Rattle.std.specs.Prelude.{◌≡◌, ℕ, Bool, true, false, ◌&&◌, List, Option, Some, slice_get, slice_set, IsSomeAnd}
use Rattle.expr_code.specs.Claim.{Claim}
use Rattle.hive_model.specs.Algorithm.{Algorithm}
use Rattle.hive_model.specs.Enabled.{inputs_in}
use Rattle.hive_model.specs.Job.{Job}
use Rattle.hive_model.specs.Lending.{is_free, has_units}
use Rattle.hive_model.specs.Machine.{Busy, claim_at}
use Rattle.hive_model.specs.Step.{can_claim, claimed}
use Rattle.hive_model.specs.declared.product.Product.{Product}
use Rattle.event_slots.specs.Slots.{AreSlotsOf, Slots, busy_in}
use Rattle.event_slots.specs.declared.taken.Taken.{Taken}
use Rattle.event_slots.specs.declared.taken.Taken.TheVariants.{Job as Taking, Nothing, NoMemory}

abbrev pub may_claim : Job → List (Option Busy) → Busy → ℕ → Algorithm → Option ℕ → Bool
may_claim job slots b number a clone =
    can_claim job b number && (is_free slots number a clone && has_units job slots a)

-- the claim that is handed out
abbrev pub claim_with : ℕ → Busy → Algorithm → ℕ → Option ℕ → Claim
claim_with ticket b a number clone = record {
  ticket = ticket;
  place = b.place;
  algorithm = number;
  clone = clone;
  body = a;
  inputs = inputs_in b.store a.inputs;
}

-- the event in the slot has that claim more, which it could make
abbrev pub IsTaken : Job → List (Option Busy) → ℕ → ℕ → Claim → Slots → Type 0
IsTaken job slots ticket slot v new =
    IsSomeAnd (busy_in slots slot) (λ b. IsSomeAnd (slice_get job.algorithms v.algorithm)
    (λ a. (may_claim job slots b v.algorithm a v.clone ≡ true)
    × (v ≡ claim_with ticket b a v.algorithm v.clone)
    × AreSlotsOf job (slice_set slots slot (Some (claimed b v.algorithm a ticket v.clone))) new))

abbrev pub NoneMayBeClaimed : Job → List (Option Busy) → Type 0
NoneMayBeClaimed job slots =
    (slot number : ℕ) (b : Busy) (a : Algorithm) (clone : Option ℕ) →
    busy_in slots slot ≡ Some b → slice_get job.algorithms number ≡ Some a →
    may_claim job slots b number a clone ≡ false

pub record OneMayBeClaimed (job : Job) (slots : List (Option Busy)) : Type 0 where
  pub slot : ℕ
  pub busy : Busy
  pub there : busy_in slots slot ≡ Some busy
  pub number : ℕ
  pub algorithm : Algorithm
  pub of_job : slice_get job.algorithms number ≡ Some algorithm
  pub clone : Option ℕ
  pub may : may_claim job slots busy number algorithm clone ≡ true

abbrev pub TakenFrom : Job → List (Option Busy) → ℕ → Taken → Slots → Type 0
TakenFrom job slots ticket (Taking slot v) new = IsTaken job slots ticket slot v new
TakenFrom job slots ticket Nothing new = AreSlotsOf job slots new × NoneMayBeClaimed job slots
TakenFrom job slots ticket NoMemory new = AreSlotsOf job slots new × OneMayBeClaimed job slots

-- the event in the slot has that claim outstanding
abbrev pub IsHeld : Job → List (Option Busy) → ℕ → ℕ → ℕ → Option ℕ → List Product → Type 0
IsHeld job slots slot ticket number clone inputs =
    IsSomeAnd (busy_in slots slot) (λ b. IsSomeAnd (claim_at b number)
    (λ c. (c.ticket ≡ ticket) × (c.clone ≡ clone)
    × IsSomeAnd (slice_get job.algorithms number) (λ a. inputs ≡ inputs_in b.store a.inputs)))
