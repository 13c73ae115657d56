use Rattle.std.proofs.Common.{refl}
use Rattle.hive_model.specs.Decision.{node_decision}
use Rattle.event_laws.proofs.nodes.node_flags.Goals as goal

pub returns-clause-ignores_last : goal.returns-clause-ignores_last
unfolding node_decision
returns-clause-ignores_last c = λ q decisions inverts ignores value. rw (ignores, inverts, value) refl
