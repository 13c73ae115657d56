-- What was read of a source: some bytes, the first records of what they say, and how the input ended, where it did.
use Rattle.std.specs.Prelude.{◌≡◌, ℕ, Bool, true, false, List, ◌++◌, Option, Some, None}
use Rattle.std.specs.Io.KnownBytes.{Consumes, IsAtEnd}
use Rattle.event_records.specs.Reading.{IsFuture, IsRefused, just, told}
use Rattle.hive_model.specs.EventRecord.{EventRecord}
use Rattle.hive_model.specs.Job.{Job}
use Rattle.text_model.specs.Records.{records_of, so_far}
use Rattle.text_model.specs.Whole.{Ending, ReadToEnd, RefusedAt, SourceFailed}

-- the records are the first ones of all
abbrev pub Begins : List EventRecord → List EventRecord → Type 0
Begins given all = (later : List EventRecord) × (all ≡ given ++ later)

-- What a text says of which so much was read, whatever still comes of it: these are its first records, or all of them with how the
-- input ended.
abbrev pub Says : Job → List ℕ → Bool → List EventRecord → Option Ending → Type 0
Says job text ended given None =
    (more : List ℕ) (over : Bool) → IsFuture ended more over → Begins given (told over job (text ++ more)).records
Says job text ended given (Some ReadToEnd) = (ended ≡ true) × (records_of job text ≡ just given None)
Says job text ended given (Some (RefusedAt refusal)) = IsRefused job text given ended refusal
Says job text ended given (Some SourceFailed) = (ended ≡ false) × (so_far job text ≡ just given None)

pub record IsRead (job : Job) (before now : Option (List ℕ)) (given : List EventRecord) (last : Option Ending) : Type 0 where
  -- the bytes that were taken from the source
  pub text : List ℕ
  -- whether its end was met
  pub ended : Bool
  pub taken : Consumes before now text
  pub at_end : ended ≡ true → IsAtEnd now
  pub says : Says job text ended given last
