use Rattle.core_laws.proofs.LongerJournals.{more-records}
use Rattle.core_laws.proofs.journals.more_records_change_no_run.Goals as goal

pub returns : goal.returns
returns c = more-records
