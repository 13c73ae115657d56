use Rattle.std.proofs.Common.{sym, ap, ◌∙◌, subst}
use Rattle.core_laws.proofs.Decided.{ok-decided}
use Rattle.core_laws.proofs.Ends.{ok-none, result-tells}
use Rattle.core_laws.specs.Statuses.{IsDecided}
use Rattle.hive_model.specs.Event.{result_of}
use Rattle.hive_model.specs.EventResult.{EventResult}
use Rattle.core_laws.proofs.statuses.ok_events.Goals as goal

pub returns : goal.returns
returns c = λ job records admitted f it valid ok.
    let own = result_of job it.event it.ran in
    let both = ok-none own (result-tells job it.event it.ran)
    (ap (λ (r : EventResult). r.status) (sym it.told) ∙ ok) in
    subst (λ (r : EventResult). IsDecided r job.top) (sym it.told)
    (ok-decided job it.event it.ran valid both.0 both.1)
