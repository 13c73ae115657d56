use Rattle.event_laws.proofs.Depths.{nested-members, nested-no_cycle, nested-deep}
use Rattle.event_laws.proofs.paths.nested_sequences.Goals as goal

pub returns-clause-members : goal.returns-clause-members
returns-clause-members c = nested-members

pub returns-clause-acyclic : goal.returns-clause-acyclic
returns-clause-acyclic c = nested-no_cycle

pub returns-clause-depth : goal.returns-clause-depth
returns-clause-depth c = nested-deep
