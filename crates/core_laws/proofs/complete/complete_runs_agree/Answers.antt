use Rattle.std.proofs.Common.{sym, ◌∙◌}
use Rattle.core_laws.proofs.CompleteRuns.{complete-results}
use Rattle.core_laws.proofs.complete.complete_runs_agree.Goals as goal

pub returns : goal.returns
returns c = λ job slots others records journal other m n valid uncut run done also ended.
    complete-results job slots records journal m valid uncut run done
    ∙ sym (complete-results job others records other n valid uncut also ended)
