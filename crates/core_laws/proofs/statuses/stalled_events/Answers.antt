use Rattle.std.proofs.Common.{sym, ap, ◌∙◌, subst}
use Rattle.core_laws.proofs.Ends.{TellsStatus, result-tells, stalled-status}
use Rattle.core_laws.proofs.Waiting.{lacks-input}
use Rattle.core_laws.specs.Statuses.{IsWaiting, LacksInput}
use Rattle.hive_model.specs.Event.{result_of}
use Rattle.hive_model.specs.EventResult.{EventResult}
use Rattle.core_laws.proofs.statuses.stalled_events.Goals as goal

pub returns : goal.returns
returns c = record {
  status = λ job records admitted f it. stalled-status f.result
      (subst TellsStatus (sym it.told) (result-tells job it.event it.ran));
  lacks = λ job records admitted f it number valid stalled waits.
      let own = result_of job it.event it.ran in
      let both = (stalled-status own (result-tells job it.event it.ran)).0
      (ap (λ (r : EventResult). r.status) (sym it.told) ∙ stalled) in
      subst (λ (r : EventResult). LacksInput job it.event r number) (sym it.told)
      (lacks-input job it.event it.ran number valid it.within it.rests both.0
      (subst (λ (r : EventResult). IsWaiting r number) it.told waits));
}
