use Rattle.core_laws.proofs.OwnEntries.{own-entries}
use Rattle.core_laws.proofs.journals.tickets_name_their_entries.Goals as goal

pub returns : goal.returns
returns c = own-entries
