use Rattle.std.proofs.Common.{length}
use Rattle.hive_hall.proofs.Gathering.{IsGathered}
use Rattle.hive_hall.proofs.hall.Hall.close.Given as goal

-- some passes have come back, and the others are still to come
abbrev pub invariant-loop-pass : goal.invariant-loop-pass
invariant-loop-pass l = IsGathered l.turn l.queue l.fn.passes.items l.passes.items l.all l.room

abbrev pub decreases-loop-pass : goal.decreases-loop-pass
decreases-loop-pass l = length l.passes.items
