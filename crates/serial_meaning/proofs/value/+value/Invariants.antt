use Rattle.serial_meaning.proofs.value.+value.Given as goal

abbrev pub decreases-value : goal.decreases-value
decreases-value l = l.depth
