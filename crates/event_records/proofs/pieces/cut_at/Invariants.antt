use Rattle.std.proofs.Common.{◌≡◌, ◌++◌, length}
use Rattle.hive_model.specs.Same.{texts}
use Rattle.text_model.specs.Pieces.{cut}
use Rattle.event_records.proofs.pieces.cut_at.Given as goal

abbrev pub invariant-loop-piece : goal.invariant-loop-piece
invariant-loop-piece l = texts l.pieces.items ++ cut l.separator l.rest ≡ cut l.separator l.text

abbrev pub decreases-loop-piece : goal.decreases-loop-piece
decreases-loop-piece l = length l.rest
