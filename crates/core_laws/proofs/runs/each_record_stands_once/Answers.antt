use Rattle.core_laws.proofs.OncePlaces.{run-once}
use Rattle.core_laws.proofs.runs.each_record_stands_once.Goals as goal

pub returns : goal.returns
returns c = run-once
