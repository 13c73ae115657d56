use Rattle.std.proofs.Common.{length}
use Rattle.gen_rows.proofs.pieces.pieces_of.Given as goal

abbrev pub decreases-loop-generator : goal.decreases-loop-generator
decreases-loop-generator l = length l.generator
