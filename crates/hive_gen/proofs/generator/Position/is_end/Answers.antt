use Rattle.hive_gen.proofs.Lines.{end_before, end_behind}
use Rattle.hive_gen.proofs.generator.Position.is_end.Goals as goal

pub returns-then-self : goal.returns-then-self
returns-then-self c = end_behind c.args.self.now c.if-self.true

pub returns-else-self : goal.returns-else-self
returns-else-self c = end_before c.args.self.now c.if-self.false
