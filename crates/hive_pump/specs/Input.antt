-- The input of a run: what was taken from the source, the records that it gave, and how much is left to be read.
use Rattle.std.specs.Prelude.{◌≡◌, ◌⊎◌, ℕ, ◌+◌, ◌-◌, ◌*◌, ◌<◌, Bool, true, false, if◌then◌else◌, List, [], ◌∷◌, ◌++◌, length, vec_len, Option, Some, Result, Ok, Err}
use Rattle.std.specs.Io.KnownBytes.{Consumes, IsAtEnd, Keeps}
use Rattle.event_records.specs.Reading.{HasRead, Reading}
use Rattle.hive_edge.specs.Fault.{Rose}
use Rattle.hive_model.specs.EventRecord.{EventRecord}
use Rattle.hive_model.specs.Fits.{Fits}
use Rattle.hive_model.specs.Job.{Job}
use Rattle.text_model.specs.Whole.{Ending as Last}
use Rattle.text_model.specs.declared.limits.TheConstants.{MOST_LINES, MOST_LINE_BYTES, MOST_RECORDS_BYTES}
use Rattle.hive_pump.specs.Pumped.{CountsSource, EndsBy}
use Rattle.hive_pump.specs.Reading.{IsRead}
use Rattle.hive_pump.specs.Written.{MayWrite, written}
use Rattle.hive_pump.specs.declared.ending.Ending.{Ending}
use Rattle.hive_pump.specs.declared.ending.Ending.TheVariants as ending
use Rattle.hive_pump.specs.declared.input.Came.{Came}
use Rattle.hive_pump.specs.declared.input.Came.TheVariants.{Event, Piece, Ended}
use Rattle.hive_pump.specs.declared.input.Input.{Input}
use Rattle.hive_pump.specs.declared.input.TheConstants.{PIECE}

-- nothing was read yet
pub record IsUnread (job : Job) (it : Input) : Type 0 where
  pub reads : HasRead job [] [] it.reader
  pub goes_on : it.reader.ended ≡ false
  pub none : it.taken ≡ 0
  pub room : vec_len it.buffer ≡ PIECE

-- these records were given of what was taken from the source
pub record IsInput {S : Type 0} (rest : S → Option (List ℕ)) (faults : S → ℕ) (job : Job) (source source_now : S)
    (given : List EventRecord) (it : Input) : Type 0 where
  -- the bytes that were taken
  pub fed : List ℕ
  pub reads : HasRead job fed given it.reader
  pub bytes : Consumes (rest source) (rest source_now) fed
  pub at_end : it.reader.ended ≡ true → IsAtEnd (rest source_now)
  pub calm : faults source_now ≡ faults source
  pub total : it.taken ≡ length fed
  pub room : vec_len it.buffer ≡ PIECE

-- Some bytes, or the end of the input, went from the source to the reader.
pub record IsFed {S : Type 0} (rest : S → Option (List ℕ)) (faults : S → ℕ) (before now : S) (reader reader_now : Reading) (taken taken_now : ℕ) : Type 0 where
  pub piece : List ℕ
  pub bytes : Consumes (rest before) (rest now) piece
  pub calm : faults now ≡ faults before
  pub reads : (job : Job) (fed : List ℕ) (given : List EventRecord) → HasRead job fed given reader → HasRead job (fed ++ piece) given reader_now
  pub at_end : reader_now.ended ≡ true → IsAtEnd (rest now)
  pub total : taken_now ≡ taken + length piece
  pub goes_on : (0 < length piece) ⊎ (reader_now.ended ≡ true)

-- Bytes left the source, and there was no memory for them.
pub record IsDropped {S : Type 0} (rest : S → Option (List ℕ)) (faults : S → ℕ) (before now : S) : Type 0 where
  pub piece : List ℕ
  pub bytes : Consumes (rest before) (rest now) piece
  pub calm : faults now ≡ faults before

abbrev pub FeedsOn : {S : Type 0} → (S → Option (List ℕ)) → (S → ℕ) → S → S → Reading → Reading → ℕ → ℕ → Result (Unit {0}) Ending → Type 0
FeedsOn rest faults before now reader reader_now taken taken_now (Ok it) = IsFed rest faults before now reader reader_now taken taken_now
FeedsOn rest faults before now reader reader_now taken taken_now (Err ending.Source) =
    Keeps (rest before) (rest now) × Rose (faults before) (faults now)
FeedsOn rest faults before now reader reader_now taken taken_now (Err ending.NoMemory) = IsDropped rest faults before now
FeedsOn rest faults before now reader reader_now taken taken_now (Err other) = ⊥

-- more bytes than a text can have that may go on and has no refused line
abbrev pub most_read : ℕ
most_read = MOST_RECORDS_BYTES + 2 * (MOST_LINE_BYTES + 2)

-- how much is left to be read, at most; the end of the input counts as one more
abbrev pub left_to_read : ℕ → ℕ → Bool → ℕ
left_to_read taken events ended = (most_read + 1 - taken) + (MOST_LINES - events) + (if ended then 0 else 1)

abbrev pub unread : List EventRecord → Input → ℕ
unread given it = left_to_read it.taken (length given) it.reader.ended

-- so much was read of the source, and how the input ended, by how reading stopped
pub record HasEnded {S : Type 0} (rest : S → Option (List ℕ)) (faults : S → ℕ) (job : Job) (source source_now : S)
    (given : List EventRecord) (ended : Ending) : Type 0 where
  pub last : Option Last
  pub read : IsRead job (rest source) (rest source_now) given last
  pub ends : EndsBy ended last
  pub count : CountsSource last (faults source) (faults source_now)
  -- the whole text may be written
  pub may : (brief : Bool) (line : Last) → last ≡ Some line →
      MayWrite job brief (rest source) (written job brief given (Some line))

-- the records that were given now are these, and less is left to be read
pub record IsReadOn {S : Type 0} (rest : S → Option (List ℕ)) (faults : S → ℕ) (job : Job) (source source_now : S)
    (given given_now : List EventRecord) (old new : Input) : Type 0 where
  pub input : IsInput rest faults job source source_now given_now new
  pub less : unread given_now new < unread given old

-- the same, but the sink has no part in it
abbrev pub EndsInput : {S : Type 0} → (S → Option (List ℕ)) → (S → ℕ) → Job → S → S → List EventRecord → Ending → Type 0
EndsInput rest faults job source source_now given ending.Sink = ⊥
EndsInput rest faults job source source_now given ended = HasEnded rest faults job source source_now given ended

-- what came of the input
abbrev pub InputSays : {S : Type 0} → (S → Option (List ℕ)) → (S → ℕ) → Job → S → S → List EventRecord → Input → Input →
    Came → Type 0
InputSays rest faults job source source_now given old new (Event it) =
    Fits job it × IsReadOn rest faults job source source_now given (given ++ it ∷ []) old new
InputSays rest faults job source source_now given old new Piece =
    IsReadOn rest faults job source source_now given given old new
InputSays rest faults job source source_now given old new (Ended ended) =
    EndsInput rest faults job source source_now given ended
