use Rattle.timeline.proofs.Exact.{read_exactly, refused_exactly}
use Rattle.timeline.proofs.reading.parse.Goals as goal

pub returns-clause-printed : goal.returns-clause-printed
returns-clause-printed c = read_exactly c.args.bytes.now c.read_lines.result c.read_lines.ensures

pub returns-clause-unprinted : goal.returns-clause-unprinted
returns-clause-unprinted c = refused_exactly c.args.bytes.now c.read_lines.result c.read_lines.ensures
