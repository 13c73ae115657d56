use Rattle.top_laws.proofs.Complete.{bulk-complete}
use Rattle.top_laws.proofs.bulk_is_complete.Goals as goal

pub returns : goal.returns
returns c =
    bulk-complete c.options_are_read.ensures c.records_are_read.ensures.read c.statuses_are_known.ensures.failed
    c.statuses_are_known.ensures.stalled c.statuses_are_known.ensures.ok
