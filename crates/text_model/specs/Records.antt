-- The records of a text, line by line: those before the first refused line, and its number and cause. The first line that isn't
-- blank is the header, and each later one a record. `records_of` reads a text that has ended; `so_far` what is known of one that
-- may go on.
use Rattle.std.specs.Prelude.{codes, ℕ, ◌+◌, ◌==◌, nat_le, nat_lt, Bool, true, false, not, ◌||◌, if◌then◌else◌, List, [], ◌∷◌, length, map, Option, Some, None, Result, Ok, Err}
use Rattle.std.specs.Cmp.Lexicographic.{pointwise}
use Rattle.hive_model.specs.EventRecord.{EventRecord}
use Rattle.hive_model.specs.Job.{Job}
use Rattle.hive_model.specs.Same.{same_text}
use Rattle.hive_model.specs.declared.algorithm.Raw.{Raw}
use Rattle.text_model.specs.Cells.{cells_of}
use Rattle.text_model.specs.Lines.{content, is_text, lines}
use Rattle.text_model.specs.Numerals.{unsigned}
use Rattle.text_model.specs.Products.{products}
use Rattle.text_model.specs.Steps.{◌>>=◌, or_refuse, refuse_if}
use Rattle.text_model.specs.declared.limits.TheConstants.{MOST_ALGORITHMS_OF_VERSION_1, MOST_EVENTS, MOST_EVENTS_OF_A_LARGE_JOB, MOST_LINES, MOST_LINE_BYTES, MOST_RECORDS_BYTES}
use Rattle.text_model.specs.declared.line.Line.{Line}
use Rattle.text_model.specs.declared.line.Line.TheVariants.{Blank, Header, Record}
use Rattle.text_model.specs.declared.line.Progress.{Progress}
use Rattle.text_model.specs.declared.record_refusal.RecordCause.{RecordCause}
use Rattle.text_model.specs.declared.record_refusal.RecordCause.TheVariants as cause
use Rattle.text_model.specs.declared.record_refusal.RecordRefusal.{RecordRefusal}

pub record Known : Type 0 where
  pub records : List EventRecord
  pub refusal : Option RecordRefusal

-- one line

abbrev pub header_cells : List Raw → List (List ℕ)
header_cells raws = codes "event" ∷ map (λ (r : Raw). r.name) raws

abbrev pub header_of : List Raw → List (List ℕ) → Result Line RecordCause
header_of raws cells = if pointwise same_text (header_cells raws) cells then Ok Header else Err cause.Header

-- the first cell is the event's number
abbrev pub event_of : List Raw → List (List ℕ) → Result Line RecordCause
event_of raws [] = Err cause.Fields
event_of raws (first ∷ others) = do
  number ← or_refuse cause.Event (unsigned first)
  cells ← products raws others
  Ok (Record (record { event = number; cells = cells }))

-- a record after so many of at most so many
unfoldable pub record_of : List Raw → ℕ → ℕ → List (List ℕ) → Result Line RecordCause
record_of raws most events cells = do
  complete ← refuse_if (not (length cells == length (header_cells raws))) cause.Fields
  further ← refuse_if (nat_le most events) cause.TooManyEvents
  event_of raws cells

abbrev pub line_with : List Raw → ℕ → Progress → List (List ℕ) → Result Line RecordCause
line_with raws most before cells = if before.header then record_of raws most before.events cells else header_of raws cells

-- what a line says after those before it, or the first cause that applies
unfoldable pub line_of : List Raw → ℕ → Progress → List ℕ → Result Line RecordCause
line_of raws most before line = do
  counted ← refuse_if (nat_lt MOST_LINES (before.lines + 1)) cause.TooManyLines
  begun ← refuse_if (nat_le MOST_RECORDS_BYTES before.bytes) cause.TooMuch
  short ← refuse_if (nat_lt MOST_LINE_BYTES (length (content line))) cause.LineTooLong
  text ← refuse_if (not (is_text (content line))) cause.Text
  if length (content line) == 0 then Ok Blank else line_with raws most before (cells_of (content line))

-- all lines

abbrev pub opening : Progress
opening = record { lines = 0; bytes = 0; events = 0; header = false }

abbrev pub records_in : Result Line RecordCause → ℕ
records_in (Ok (Record it)) = 1
records_in said = 0

abbrev pub is_header : Result Line RecordCause → Bool
is_header (Ok Header) = true
is_header said = false

-- after one more line, with the byte that ends it
unfoldable pub after_line : Progress → List ℕ → Result Line RecordCause → Progress
after_line before line said = record {
  lines = before.lines + 1;
  bytes = before.bytes + length line + 1;
  events = before.events + records_in said;
  header = before.header || is_header said;
}

abbrev pub refused_at : ℕ → RecordCause → Known
refused_at number why = record { records = []; refusal = Some (record { line = number; cause = why }) }

-- one line, of that number, before what the later ones say
unfoldable pub joined : ℕ → Result Line RecordCause → Known → Known
joined number (Ok Blank) later = later
joined number (Ok Header) later = later
joined number (Ok (Record it)) later = record { records = it ∷ later.records; refusal = later.refusal }
joined number (Err why) later = refused_at number why

-- a text that has ended lacks its header where no line is one
abbrev pub at_end : Bool → Progress → Known
at_end true before = if before.header then record { records = []; refusal = None } else refused_at (before.lines + 1) cause.Header
at_end false before = record { records = []; refusal = None }

unfoldable pub read_lines : Bool → List Raw → ℕ → Progress → List (List ℕ) → Known
read_lines ended raws most before [] = at_end ended before
read_lines ended raws most before (line ∷ others) =
    joined (before.lines + 1) (line_of raws most before line)
    (read_lines ended raws most (after_line before line (line_of raws most before line)) others)

unfoldable pub known : Bool → List Raw → ℕ → List ℕ → Known
known ended raws most text = read_lines ended raws most opening (lines ended text)

-- of a job

abbrev pub most_events : Job → ℕ
most_events job = if nat_lt MOST_ALGORITHMS_OF_VERSION_1 (length job.algorithms) then MOST_EVENTS_OF_A_LARGE_JOB else MOST_EVENTS

abbrev pub records_of : Job → List ℕ → Known
records_of job text = known true job.raws (most_events job) text

abbrev pub so_far : Job → List ℕ → Known
so_far job text = known false job.raws (most_events job) text
