use Rattle.job_options.proofs.Shapes.{given-shaped}
use Rattle.job_options.proofs.WithoutCut.{given-uncut}
use Rattle.job_options.proofs.options.read.Goals as goal

pub returns-clause-shape : goal.returns-clause-shape
returns-clause-shape c = given-shaped c.args.bytes.now c.read_text.result c.read_text.ensures

pub returns-clause-uncut : goal.returns-clause-uncut
returns-clause-uncut c = given-uncut c.args.bytes.now c.read_text.result c.read_text.ensures
