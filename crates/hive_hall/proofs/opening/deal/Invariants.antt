use Rattle.hive_hall.proofs.Dealing.{IsDealt}
use Rattle.hive_hall.proofs.opening.deal.Given as goal

abbrev pub invariant-loop-number : goal.invariant-loop-number
invariant-loop-number l = IsDealt l.turn l.queue l.passes l.number l.first l.dealt l.made
