use Rattle.std.proofs.Common.{◌<◌, IfSome, length}
use Rattle.core_rows.proofs.steps.oldest.Given as goal

abbrev pub invariant-loop-index : goal.invariant-loop-index
invariant-loop-index l = IfSome l.found (λ index. index < length l.held)
