-- Claims that are outstanding in a state of the scheduler, and the work that was handed out for them.
use Rattle.std.specs.Prelude.{◌≡◌, ℕ, true, List, All, Contains, Option, Some}
use Rattle.expr_code.specs.Claim.{Claim as Work}
use Rattle.hive_hall.specs.Pass.{job_of, slots_of}
use Rattle.hive_hall.specs.declared.hall.Hall.{Hall}
use Rattle.hive_model.specs.History.{journal_of, records_of}
use Rattle.hive_model.specs.Machine.{Busy, Machine, Outstanding, claim_at}
use Rattle.hive_model.specs.Replay.{replay}
use Rattle.hive_model.specs.Step.{busy_at}
use Rattle.hive_model.specs.declared.item.Item.{Item}
use Rattle.hive_workers.specs.Items.{is_claim, stands_at, ticket_at}

-- the state to which a history of the hall has led
abbrev pub state_after : Hall → List Item → Option Machine
state_after hall items = replay (job_of hall) (slots_of hall) (records_of items) (journal_of items)

-- the claim of that algorithm is outstanding, for the event of that slot
abbrev pub IsOutAt : Machine → ℕ → ℕ → Outstanding → Type 0
IsOutAt m slot number c = (b : Busy) × (busy_at m slot ≡ Some b) × (claim_at b number ≡ Some c)

-- the work has the claim's ticket, algorithm, instance and inputs
pub record IsWorkFor (v : Work) (number : ℕ) (c : Outstanding) : Type 0 where
  pub ticket : v.ticket ≡ c.ticket
  pub algorithm : v.algorithm ≡ number
  pub clone : v.clone ≡ c.clone
  pub inputs : v.inputs ≡ c.inputs

-- no claim of this ticket is outstanding, or its work is among these
abbrev pub IsAccounted : Machine → List Work → ℕ → Type 0
IsAccounted m works ticket = (slot number : ℕ) (c : Outstanding) → IsOutAt m slot number c → c.ticket ≡ ticket →
    (v : Work) × Contains works v × IsWorkFor v number c

-- so it is with each claim that stands at one of the positions
abbrev pub AreAccounted : List Item → List ℕ → List Work → Machine → Type 0
AreAccounted items positions works m =
    All (λ n. stands_at is_claim items n ≡ true → IsAccounted m works (ticket_at items n)) positions
