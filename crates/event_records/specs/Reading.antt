-- What a reader of records stands for. It was fed a text, and has given the first of its records. What is still ahead, for each text
-- that may yet come, is told by the bytes that it keeps, by how far the lines before them lead, and by the refusal where there is one.
use Rattle.std.specs.Prelude.{◌≡◌, ℕ, Bool, true, false, List, [], ◌∷◌, ◌++◌, Option, Some, None, IfSome}
use Rattle.hive_model.specs.EventRecord.{EventRecord}
use Rattle.hive_model.specs.Fits.{Fits}
use Rattle.hive_model.specs.Job.{Job}
use Rattle.text_model.specs.Lines.{lines}
use Rattle.text_model.specs.Records.{Known, most_events, read_lines, records_of, so_far}
use Rattle.text_model.specs.declared.line.Progress.{Progress}
use Rattle.text_model.specs.declared.record_refusal.RecordRefusal.{RecordRefusal}
use Rattle.event_records.specs.declared.next.Next.{Next}
use Rattle.event_records.specs.declared.next.Next.TheVariants as next

pub record Reading : Type 0 where
  pub job : Job
  -- the bytes of the lines that weren't taken
  pub pending : List ℕ
  -- what stands before them
  pub before : Progress
  pub refusal : Option RecordRefusal
  -- whether the text is over
  pub ended : Bool
  -- how many bytes it holds, with those of lines that were taken and weren't let go yet
  pub held : ℕ

-- the same but for the bytes that it holds
abbrev pub IsAsBefore : Reading → Reading → Type 0
IsAsBefore old now = now ≡ record old { held = now.held }

-- what may still come: anything while the text goes on, and nothing once it has ended
abbrev pub IsFuture : Bool → List ℕ → Bool → Type 0
IsFuture true more over = (more ≡ []) × (over ≡ true)
IsFuture false more over = Unit {0}

-- these records, and then the end or the refusal
abbrev pub just : List EventRecord → Option RecordRefusal → Known
just given refusal = record { records = given; refusal = refusal }

-- these records before what is known of the rest
abbrev pub after : List EventRecord → Known → Known
after given later = record { records = given ++ later.records; refusal = later.refusal }

-- what is ahead of a reader where these bytes still come, and then the end or not
abbrev pub ahead_of : Option RecordRefusal → Bool → Job → Progress → List ℕ → Known
ahead_of (Some refusal) over job before text = just [] (Some refusal)
ahead_of None over job before text = read_lines over job.raws (most_events job) before (lines over text)

abbrev pub ahead : Reading → List ℕ → Bool → Known
ahead r more over = ahead_of r.refusal over r.job r.before (r.pending ++ more)

-- what a text says of the records of a job, whether it has ended or may go on
abbrev pub told : Bool → Job → List ℕ → Known
told true job text = records_of job text
told false job text = so_far job text

-- The reader was made for this job, was fed this text, and has given these records: whatever still comes, the whole text's records
-- are those and then the ones ahead.
pub record HasRead (job : Job) (fed : List ℕ) (given : List EventRecord) (r : Reading) : Type 0 where
  pub same_job : r.job ≡ job
  pub rest : (more : List ℕ) (over : Bool) → IsFuture r.ended more over → told over job (fed ++ more) ≡ after given (ahead r more over)

-- whatever it was fed and has given before, it has read this piece more
abbrev pub Feeds : List ℕ → Reading → Reading → Type 0
Feeds piece old now =
    (job : Job) (fed : List ℕ) (given : List EventRecord) → HasRead job fed given old → HasRead job (fed ++ piece) given now

-- whatever it was fed and has given before, that stays
abbrev pub StillHasRead : Reading → Reading → Type 0
StillHasRead old now =
    (job : Job) (fed : List ℕ) (given : List EventRecord) → HasRead job fed given old → HasRead job fed given now

-- Whatever still comes, the whole text has just these records and this refusal.
abbrev pub IsRefused : Job → List ℕ → List EventRecord → Bool → RecordRefusal → Type 0
IsRefused job fed given ended refusal =
    (more : List ℕ) (over : Bool) → IsFuture ended more over → told over job (fed ++ more) ≡ just given (Some refusal)

-- what an answer says of the text fed so far, after these records were given
abbrev pub Tells : Job → List ℕ → List EventRecord → Bool → Next → Reading → Type 0
Tells job fed given ended (next.Event it) now = HasRead job fed (given ++ it ∷ []) now × Fits job it
Tells job fed given ended next.More now = HasRead job fed given now × (ended ≡ false) × (so_far job fed ≡ just given None)
Tells job fed given ended (next.Refused refusal) now = HasRead job fed given now × IsRefused job fed given ended refusal
Tells job fed given ended next.Finished now = HasRead job fed given now × (ended ≡ true) × (records_of job fed ≡ just given None)
Tells job fed given ended next.NoMemory now = HasRead job fed given now

-- whatever it was fed and has given before, the answer tells what comes behind that
abbrev pub Answers : Reading → Next → Reading → Type 0
Answers old answer now =
    (job : Job) (fed : List ℕ) (given : List EventRecord) → HasRead job fed given old → Tells job fed given old.ended answer now

-- The answer that stands fast, where there is one: a refusal, and where no line is left to be taken, the wait for more or the end.
-- A text that has ended without a header isn't finished.
abbrev pub standing_at_rest : Bool → Bool → List (List ℕ) → Option Next
standing_at_rest false header [] = Some next.More
standing_at_rest true true [] = Some next.Finished
standing_at_rest ended header lines = None

abbrev pub standing_by : Option RecordRefusal → Reading → Option Next
standing_by (Some refusal) r = Some (next.Refused refusal)
standing_by None r = standing_at_rest r.ended r.before.header (lines r.ended r.pending)

abbrev pub standing : Reading → Option Next
standing r = standing_by r.refusal r

-- where an answer stands fast, it is the one that comes, and nothing changes
abbrev pub Stands : Reading → Next → Reading → Type 0
Stands old answer now = IfSome (standing old) (λ it. (answer ≡ it) × (now ≡ old))

-- how an answer leaves the reader: an answer that isn't a record stands fast from now on, and after want of memory all is as before
abbrev pub Leaves : Next → Reading → Reading → Type 0
Leaves (next.Event it) old now = Unit {0}
Leaves next.NoMemory old now = now ≡ old
Leaves next.More old now = standing now ≡ Some next.More
Leaves (next.Refused refusal) old now = standing now ≡ Some (next.Refused refusal)
Leaves next.Finished old now = standing now ≡ Some next.Finished
