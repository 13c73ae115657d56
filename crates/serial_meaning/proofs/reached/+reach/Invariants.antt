use Rattle.std.proofs.Common.{◌≡◌, ◌-◌, ◌++◌, ◌∷◌, take}
use Rattle.std.specs.List.{flat_map}
use Rattle.hive_model.specs.Decision.{decision}
use Rattle.hive_model.specs.Reached.{reached_within}
use Rattle.hive_model.specs.declared.sequence.Member.TheVariants.{Seq}
use Rattle.serial_meaning.proofs.reached.+reach.Given as goal

abbrev pub decreases-reach : goal.decreases-reach
decreases-reach l = l.depth

abbrev pub invariant-loop-member : goal.invariant-loop-member
invariant-loop-member l =
    l.members.items
    ≡ l.fn.members.items ++ (Seq l.number ∷ flat_map (reached_within (l.depth - 1) l.job.sequences (decision l.job l.outcomes)) (take l.member-index l.member-items))
