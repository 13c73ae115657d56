use Rattle.core_rows.proofs.hand.Hand.put_away.Given as goal

abbrev pub decreases-loop-claimed : goal.decreases-loop-claimed
decreases-loop-claimed l = goal.left-loop-claimed l
