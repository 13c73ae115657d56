use Rattle.event_laws.proofs.Meaning.{result-same}
use Rattle.event_laws.proofs.closure.executions_give_the_result.Goals as goal

pub returns : goal.returns
returns c = result-same
