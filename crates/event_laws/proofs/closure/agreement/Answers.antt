use Rattle.event_laws.proofs.Agreeing.{result-agrees, uncut-agreement}
use Rattle.event_laws.proofs.closure.agreement.Goals as goal

pub returns : goal.returns
returns c = record { of_the_result = result-agrees; without_cut_nodes = uncut-agreement }
