-- A claim's ticket is the index, from 0, of its own entry in the journal.
use Rattle.std.specs.Prelude.{◌≡◌, ℕ, List, Some, slice_get}
use Rattle.hive_model.specs.Machine.{Busy, Machine, Outstanding, claim_at}
use Rattle.hive_model.specs.Step.{busy_at}
use Rattle.hive_model.specs.declared.entry.Entry.{Entry}
use Rattle.hive_model.specs.declared.entry.Entry.TheVariants.{Claim}

pub record HasEntry (past : List Entry) (slot number : ℕ) (claim : Outstanding) : Type 0 where
  pub worker : ℕ
  pub there : slice_get past claim.ticket ≡ Some (Claim slot number claim.clone worker)

abbrev pub HaveEntries : List Entry → Machine → Type 0
HaveEntries past m =
    (slot : ℕ) (b : Busy) (number : ℕ) (claim : Outstanding) → busy_at m slot ≡ Some b →
    claim_at b number ≡ Some claim →
    HasEntry past slot number claim
