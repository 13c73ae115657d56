use Rattle.std.proofs.Common.{refl}
use Rattle.text_model.proofs.OnLiterals.{text_on_literals}
use Rattle.text_model.proofs.examples.records_are_read.Goals as goal

pub returns-clause-stopped : goal.returns-clause-stopped
unfolding text_on_literals
returns-clause-stopped c = refl

pub returns-clause-absent : goal.returns-clause-absent
unfolding text_on_literals
returns-clause-absent c = refl

pub returns-clause-quoted : goal.returns-clause-quoted
unfolding text_on_literals
returns-clause-quoted c = refl

pub returns-clause-empty : goal.returns-clause-empty
unfolding text_on_literals
returns-clause-empty c = refl
