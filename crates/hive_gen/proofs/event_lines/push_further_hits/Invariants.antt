use Rattle.std.proofs.Common.{◌≡◌, ◌+◌, ◌*◌, ◌≤◌, ◌++◌, length}
use Rattle.std.specs.List.{flat_map}
use Rattle.hive_gen.specs.Draws.{state_after}
use Rattle.hive_gen.specs.Events.{hits_from}
use Rattle.text_model.specs.Report.{spaced}
use Rattle.hive_gen.proofs.event_lines.push_further_hits.Given as goal

abbrev pub invariant-loop-left : goal.invariant-loop-left
invariant-loop-left l =
    (l.out.items ++ flat_map spaced (hits_from l.left l.latest)
    ≡ l.fn.out.items ++ flat_map spaced (hits_from l.count l.state))
    × (state_after l.left l.latest ≡ state_after l.count l.state)
    × (length l.out.items + 41 * l.left ≤ length l.fn.out.items + 41 * l.count)

abbrev pub decreases-loop-left : goal.decreases-loop-left
decreases-loop-left l = l.left
