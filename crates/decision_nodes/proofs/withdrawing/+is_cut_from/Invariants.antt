use Rattle.std.proofs.Common.{◌≡◌, ◌-◌, false, take}
use Rattle.std.specs.List.{list_any}
use Rattle.decision_nodes.specs.Cutting.{is_cut_at}
use Rattle.decision_nodes.proofs.withdrawing.+is_cut_from.Given as goal

abbrev pub decreases-is_cut_from : goal.decreases-is_cut_from
decreases-is_cut_from l = l.depth

abbrev pub invariant-loop-edge : goal.invariant-loop-edge
invariant-loop-edge l = list_any (is_cut_at l.nodes l.parents (l.depth - 1)) (take l.edge-index l.edges) ≡ false
