use Rattle.core_laws.proofs.CompleteRuns.{complete-agrees, complete-results, many-ended, once-ended}
use Rattle.core_laws.proofs.OncePlaces.{run-once}
use Rattle.core_laws.proofs.complete.complete_runs_have_all_results.Goals as goal

pub returns : goal.returns
returns c = record {
  once = λ job slots records journal m place run done.
      once-ended records m (run-once job slots records journal m run) done place;
  no_other = λ job slots records journal m run done.
      many-ended records m (run-once job slots records journal m run) done;
  results = complete-results;
  agree = complete-agrees;
}
