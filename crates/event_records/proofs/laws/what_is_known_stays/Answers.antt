use Rattle.std.proofs.Common.{Bool, true, false, ℕ, List, ◌++◌, ap}
use Rattle.hive_model.specs.Job.{Job}
use Rattle.text_model.specs.Records.{Known, most_events, so_far}
use Rattle.event_records.specs.Reading.{told}
use Rattle.event_records.proofs.Growing.{GoesOn, known-on}
use Rattle.event_records.proofs.laws.what_is_known_stays.Goals as goal

on : (over : Bool) (job : Job) (text more : List ℕ) → GoesOn (so_far job text) (told over job (text ++ more))
on true job text more = known-on true job.raws (most_events job) text more
on false job text more = known-on false job.raws (most_events job) text more

pub returns-clause-refusal : goal.returns-clause-refusal
returns-clause-refusal c = λ over job text more refusal e. (on over job text more).refused refusal e

pub returns-clause-records : goal.returns-clause-records
returns-clause-records c = λ over job text more. let it = on over job text more in (it.later.records, ap (λ (k : Known). k.records) it.is)
