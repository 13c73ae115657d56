use Rattle.event_laws.proofs.Validity.{valid-performs, performs-executes}
use Rattle.expr_code.proofs.laws.valid_can_be_claimed.Goals as goal

pub returns-clause-claimed : goal.returns-clause-claimed
returns-clause-claimed c = valid-performs

pub returns-clause-executed : goal.returns-clause-executed
returns-clause-executed c = performs-executes
