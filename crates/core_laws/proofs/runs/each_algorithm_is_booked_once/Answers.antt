use Rattle.core_laws.proofs.Booked.{booked-once}
use Rattle.core_laws.proofs.runs.each_algorithm_is_booked_once.Goals as goal

pub returns : goal.returns
returns c = booked-once
