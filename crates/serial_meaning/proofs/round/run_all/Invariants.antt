use Rattle.serial_meaning.proofs.Turns.{IsAfterTurns}
use Rattle.serial_meaning.proofs.round.run_all.Given as goal

abbrev pub invariant-loop-number : goal.invariant-loop-number
invariant-loop-number l = IsAfterTurns l.members l.store l.algorithms l.fn.ran.items l.ran.items l.number l.added
