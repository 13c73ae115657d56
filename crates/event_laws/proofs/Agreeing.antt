-- Agreement. The event's result agrees with its record, and where no node is cut, nothing else does: what the closure has beyond
-- results that agree would be cut off.
use Rattle.std.proofs.Common.{◌≡◌, Option, Some, None, refl, sym, ◌∙◌}
use Rattle.std.proofs.lemmas.Bool.{both_ways}
use Rattle.std.proofs.lemmas.Option.{none-some}
use Rattle.event_laws.proofs.Meaning.{result-same}
use Rattle.event_laws.proofs.Uncut.{uncut-live}
use Rattle.event_laws.proofs.Within.{within-same, within-both}
use Rattle.event_laws.specs.Uncut.{HasNoCut}
use Rattle.hive_model.specs.Agreement.{AreWithin, Agrees}
use Rattle.hive_model.specs.Closure.{closure}
use Rattle.hive_model.specs.Event.{event_result}
use Rattle.hive_model.specs.EventRecord.{EventRecord}
use Rattle.hive_model.specs.EventResult.{EventResult}
use Rattle.hive_model.specs.Execution.{Execution}
use Rattle.hive_model.specs.Job.{Job}
use Rattle.hive_model.specs.Live.{is_live}
use Rattle.hive_model.specs.Results.{outcomes, ran_at}

pub result-agrees : (job : Job) (event : EventRecord) → Agrees job event (event_result job event)
unfolding event_result
result-agrees job event = record {
  ran = closure job event;
  told = refl;
  within = within-same (closure job event);
  missing = λ number it has none. absurd (none-some it (sym none ∙ has));
  decided = λ s made. refl;
  outside = λ s there live. refl;
}

-- without cut nodes they lack nothing
lack-nothing : (job : Job) (event : EventRecord) (result : EventResult) → HasNoCut job → (agrees : Agrees job event result) →
    AreWithin (closure job event) agrees.ran
lack-nothing job event result uncut agrees number it has = go (ran_at agrees.ran number) refl
  where
    go : (o : Option Execution) → ran_at agrees.ran number ≡ o → ran_at agrees.ran number ≡ Some it
    go None none =
        absurd (both_ways (is_live job (outcomes agrees.ran) number) (agrees.missing number it has none) (uncut-live job (outcomes agrees.ran) number uncut))
    go (Some x) own = own ∙ sym (agrees.within number x own) ∙ has

pub uncut-agreement : (job : Job) (event : EventRecord) (result : EventResult) → HasNoCut job → Agrees job event result → result ≡ event_result job event
unfolding event_result
uncut-agreement job event result uncut agrees =
    agrees.told
    ∙ result-same job event agrees.ran (closure job event)
    (within-both agrees.ran (closure job event) agrees.within (lack-nothing job event result uncut agrees))
