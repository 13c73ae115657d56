use Rattle.std.proofs.Common.{◌≡◌, false, take}
use Rattle.std.specs.List.{list_any}
use Rattle.decision_nodes.proofs.table.has_cuts.Given as goal

abbrev pub invariant-loop-sequence : goal.invariant-loop-sequence
invariant-loop-sequence l = list_any (λ q. q.cut) (take l.sequence-index l.sequences) ≡ false
