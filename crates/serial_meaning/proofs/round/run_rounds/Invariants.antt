use Rattle.std.proofs.Common.{◌-◌}
use Rattle.serial_meaning.proofs.Rounds.{AreLeft}
use Rattle.serial_meaning.proofs.round.run_rounds.Given as goal

abbrev pub invariant-loop-round : goal.invariant-loop-round
invariant-loop-round l = AreLeft l.job l.event l.ran.items (l.count - l._round)
