use Rattle.core_laws.proofs.LongerJournals.{one-more-entry}
use Rattle.core_laws.proofs.journals.one_entry_more.Goals as goal

pub returns : goal.returns
returns c = one-more-entry
