use Rattle.event_laws.proofs.Same.{outcomes, outcomes-by_test}
use Rattle.event_laws.proofs.equality.equal_outcomes.Goals as goal

pub returns-clause-value : goal.returns-clause-value
returns-clause-value c = outcomes

pub returns-clause-test : goal.returns-clause-test
returns-clause-test c = outcomes-by_test
