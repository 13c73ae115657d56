use Rattle.std.proofs.Common.{length}
use Rattle.gen_bench.proofs.pieces.bytes_in_pieces.Given as goal

abbrev pub decreases-loop-generator : goal.decreases-loop-generator
decreases-loop-generator l = length l.generator
