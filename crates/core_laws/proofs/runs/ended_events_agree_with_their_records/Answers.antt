use Rattle.std.proofs.Common.{sym, subst}
use Rattle.core_laws.proofs.CutOff.{settled-agrees}
use Rattle.hive_model.specs.Agreement.{Agrees}
use Rattle.hive_model.specs.EventResult.{EventResult}
use Rattle.core_laws.proofs.runs.ended_events_agree_with_their_records.Goals as goal

pub returns : goal.returns
returns c = λ job records admitted f it valid.
    subst (λ (r : EventResult). Agrees job it.event r) (sym it.told)
    (settled-agrees job it.event it.ran valid it.within it.rests)
