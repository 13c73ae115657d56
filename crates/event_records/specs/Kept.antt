-- What a reader of records keeps beside what it stands for: some of its bytes were searched, and its numbers stay low.
use Rattle.std.specs.Prelude.{◌≡◌, ℕ, ◌+◌, ◌≤◌, List, ◌++◌, [], length, take, drop, Option, Some, IsSome, Result}
use Rattle.text_model.specs.declared.bytes.TheConstants.{LINE_FEED}
use Rattle.text_model.specs.declared.line.Progress.{Progress}
use Rattle.text_model.specs.declared.record_refusal.RecordCause.{RecordCause}
use Rattle.text_model.specs.declared.record_refusal.RecordRefusal.{RecordRefusal}
use Rattle.event_records.specs.Cutting.{HasNo, IsLow, Reaches}
use Rattle.event_records.specs.declared.stop.Stop.{Stop}
use Rattle.hive_model.specs.EventRecord.{EventRecord}
use Rattle.text_model.specs.Records.{most_events}
use Rattle.event_records.specs.Reading.{Reading}
use Rattle.event_records.specs.declared.next.Next.{Next}
use Rattle.event_records.specs.declared.next.Next.TheVariants as next

pub record IsKept (bytes : List ℕ) (start searched : ℕ) (before : Progress) (refusal : Option RecordRefusal) : Type 0 where
  pub within : start + searched ≤ length bytes
  pub searched_none : HasNo LINE_FEED (take searched (drop start bytes))
  pub low : IsLow before
  pub refused : IsSome refusal → length bytes ≡ 0

-- the next line is refused for this cause, from now on, and no byte is held any more
pub record Refuses (cause : RecordCause) (old : Reading) (answer : Next) (now : Reading) : Type 0 where
  pub answer_is : answer ≡ next.Refused (record { line = old.before.lines + 1; cause = cause })
  pub now_is : now ≡ record old { refusal = Some (record { line = old.before.lines + 1; cause = cause }); pending = []; held = 0 }

-- a piece behind the bytes that are there
abbrev pub HasAppended : List ℕ → Reading → Reading → Type 0
HasAppended piece old now = now ≡ record old { pending = old.pending ++ piece; held = old.held + length piece }

-- without the bytes of some lines, which lead so far
abbrev pub has_taken : ℕ → Progress → Reading → Reading
has_taken taken before old = record old { pending = drop taken old.pending; before = before }

-- where reading comes from there, so many bytes on
abbrev pub ReachesFrom : Reading → Result (Option EventRecord) Stop → Progress → ℕ → Type 0
ReachesFrom old found before taken =
    Reaches old.job.raws (most_events old.job) old.ended old.pending old.before found before (drop taken old.pending)
