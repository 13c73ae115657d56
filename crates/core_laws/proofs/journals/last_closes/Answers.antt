use Rattle.core_laws.proofs.LastEntry.{last-closes, none-admitted, said-once}
use Rattle.core_laws.proofs.journals.last_closes.Goals as goal

pub returns : goal.returns
returns c = record { closed = last-closes; no_admission = none-admitted; said_once = said-once }
