use Rattle.event_records.proofs.Fitting.{told-fit}
use Rattle.event_records.proofs.laws.records_fit.Goals as goal

pub returns : goal.returns
returns c = told-fit
