-- The next line of a text, of which some bytes are there: whatever comes behind them, the text is read as this line and then the rest.
use Rattle.std.specs.Prelude.{◌≡◌, ◌≢◌, ℕ, ◌+◌, ◌<◌, ◌≤◌, Bool, List, [], ◌∷◌, ◌++◌, Option, Some, None, Result, Ok, Err}
use Rattle.hive_model.specs.EventRecord.{EventRecord}
use Rattle.hive_model.specs.declared.algorithm.Raw.{Raw}
use Rattle.text_model.specs.Lines.{lines}
use Rattle.text_model.specs.Records.{Known, read_lines}
use Rattle.text_model.specs.declared.limits.TheConstants.{MOST_LINES, MOST_LINE_BYTES, MOST_RECORDS_BYTES}
use Rattle.text_model.specs.declared.line.Progress.{Progress}
use Rattle.event_records.specs.Reading.{IsFuture, after, just}
use Rattle.event_records.specs.declared.stop.Stop.{Stop}
use Rattle.event_records.specs.declared.stop.Stop.TheVariants.{Refused, NoMemory}

abbrev pub HasNo : ℕ → List ℕ → Type 0
HasNo byte [] = Unit {0}
HasNo byte (b ∷ bs) = (b ≢ byte) × HasNo byte bs

pub record Heads (ended : Bool) (pending line rest : List ℕ) : Type 0 where
  pub read : (raws : List Raw) (most : ℕ) (before : Progress) (more : List ℕ) (over : Bool) → IsFuture ended more over →
      read_lines over raws most before (lines over (pending ++ more)) ≡ read_lines over raws most before (line ∷ lines over (rest ++ more))
  pub some : lines ended pending ≢ []

-- Whatever comes behind them, the bytes are read as told.
pub record Reads (raws : List Raw) (most : ℕ) (ended : Bool) (pending : List ℕ) (before : Progress) (said : Bool → List ℕ → Known) : Type 0 where
  pub read : (more : List ℕ) (over : Bool) → IsFuture ended more over →
      read_lines over raws most before (lines over (pending ++ more)) ≡ said over more

-- what is read of the rest, after these records
abbrev pub further : List Raw → ℕ → List EventRecord → Progress → List ℕ → Bool → List ℕ → Known
further raws most given before rest over more = after given (read_lines over raws most before (lines over (rest ++ more)))

-- Where reading has come: at a record, at the end of what can be read, or at a refused line.
abbrev pub Reaches : List Raw → ℕ → Bool → List ℕ → Progress → Result (Option EventRecord) Stop → Progress → List ℕ → Type 0
Reaches raws most ended pending before (Ok (Some it)) now rest = Reads raws most ended pending before (further raws most (it ∷ []) now rest)
Reaches raws most ended pending before (Ok None) now rest =
    Reads raws most ended pending before (further raws most [] now rest) × (lines ended rest ≡ [])
Reaches raws most ended pending before (Err (Refused why)) now rest =
    Reads raws most ended pending before (λ over more. just [] (Some (record { line = now.lines + 1; cause = why })))
Reaches raws most ended pending before (Err NoMemory) now rest = Unit {0}

-- The numbers of a progress stay far below the ends of their types.
pub record IsLow (at : Progress) : Type 0 where
  pub lines : at.lines ≤ MOST_LINES
  pub bytes : at.bytes ≤ MOST_RECORDS_BYTES + MOST_LINE_BYTES + 2
  pub events : at.events ≤ at.lines

-- A line of such a length may follow.
pub record HasRoom (before : Progress) (length_of_line : ℕ) : Type 0 where
  pub lines : before.lines < MOST_LINES
  pub bytes : before.bytes < MOST_RECORDS_BYTES
  pub short : length_of_line ≤ MOST_LINE_BYTES + 1
