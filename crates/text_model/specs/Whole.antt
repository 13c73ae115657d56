-- The whole text of a run: the reports of the results in order, unless it is brief, and a last line by how the input ended. Where
-- it was read to its end, that line counts the results.
use Rattle.std.specs.Prelude.{codes, decimal, ℕ, ◌+◌, Bool, true, false, if◌then◌else◌, List, [], ◌∷◌, ◌++◌, length}
use Rattle.std.specs.List.{flat_map}
use Rattle.std.specs.Option.{option_map_or}
use Rattle.hive_model.specs.EventResult.{EventResult}
use Rattle.hive_model.specs.Job.{Job}
use Rattle.hive_model.specs.declared.decision.EventStatus.{EventStatus}
use Rattle.hive_model.specs.declared.decision.EventStatus.TheVariants as status
use Rattle.text_model.specs.Records.{Known}
use Rattle.text_model.specs.Report.{line, report}
use Rattle.text_model.specs.Stops.{stop_record, stop_source}
use Rattle.text_model.specs.declared.record_refusal.RecordRefusal.{RecordRefusal}

-- how the input ended
pub data Ending : Type 0 where
  ReadToEnd : Ending
  RefusedAt : RecordRefusal → Ending
  SourceFailed : Ending

-- that of a text whose records are known
abbrev pub ending_of : Known → Ending
ending_of known = option_map_or RefusedAt known.refusal ReadToEnd

abbrev pub is_ok : EventStatus → Bool
is_ok status.Ok = true
is_ok status.Failed = false
is_ok status.Stalled = false

abbrev pub is_failed : EventStatus → Bool
is_failed status.Ok = false
is_failed status.Failed = true
is_failed status.Stalled = false

abbrev pub is_stalled : EventStatus → Bool
is_stalled status.Ok = false
is_stalled status.Failed = false
is_stalled status.Stalled = true

-- how many results have a status that passes the test
abbrev pub tally : (EventStatus → Bool) → List EventResult → ℕ
tally test [] = 0
tally test (r ∷ rs) = (if test r.status then 1 else 0) + tally test rs

abbrev pub done_line : ℕ → ℕ → ℕ → ℕ → List ℕ
done_line events ok failed stalled =
    line (codes "done" ∷ decimal events ∷ codes "ok" ∷ decimal ok ∷ codes "failed" ∷ decimal failed ∷ codes "stalled" ∷ decimal stalled ∷ [])

abbrev pub last_line : List EventResult → Ending → List ℕ
last_line results ReadToEnd = done_line (length results) (tally is_ok results) (tally is_failed results) (tally is_stalled results)
last_line results (RefusedAt refusal) = stop_record refusal
last_line results SourceFailed = stop_source

abbrev pub reports : Job → Bool → List EventResult → List ℕ
reports job true results = []
reports job false results = flat_map (report job) results

unfoldable pub whole : Job → List EventResult → Ending → Bool → List ℕ
whole job results ending brief = reports job brief results ++ last_line results ending
