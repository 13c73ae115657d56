use Rattle.hive_workers.proofs.Totals.{given-accounted}
use Rattle.hive_workers.proofs.laws.given_results_are_accounted.Goals as goal

pub returns : goal.returns
returns c hall runs others left all kept conserved = given-accounted hall runs others left all kept conserved
