use Rattle.event_laws.proofs.ClosedCuts.{uncut-closed}
use Rattle.event_laws.proofs.valid_jobs.uncut_is_closed.Goals as goal

pub returns : goal.returns
returns c = uncut-closed
