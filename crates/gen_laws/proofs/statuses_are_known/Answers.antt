use Rattle.gen_laws.proofs.Counting.{failed-count, ok-count, stalled-count, status-is}
use Rattle.gen_laws.proofs.statuses_are_known.Goals as goal

pub returns-clause-each : goal.returns-clause-each
returns-clause-each c = status-is

pub returns-clause-failed : goal.returns-clause-failed
returns-clause-failed c = failed-count

pub returns-clause-stalled : goal.returns-clause-stalled
returns-clause-stalled c = stalled-count

pub returns-clause-ok : goal.returns-clause-ok
returns-clause-ok c = ok-count
