use Rattle.std.proofs.Common.{slice_get, sym, ap, ◌∙◌, subst}
use Rattle.core_laws.proofs.Ends.{TellsStatus, failed-status, result-tells}
use Rattle.core_laws.proofs.Waiting.{fault-of}
use Rattle.hive_model.specs.EventResult.{EventResult}
use Rattle.core_laws.proofs.statuses.failed_events.Goals as goal

pub returns : goal.returns
returns c = record {
  status = λ job records admitted f it. failed-status f.result
      (subst TellsStatus (sym it.told) (result-tells job it.event it.ran));
  execution = λ job records admitted f it number at fault h.
      fault-of job it.event it.ran number at fault it.within
      (ap (λ (r : EventResult). slice_get r.ends number) (sym it.told) ∙ h);
}
