use Rattle.std.proofs.Common.{◌≡◌, take}
use Rattle.algo_states.specs.States.{inputs_of}
use Rattle.algo_states.specs.Table.{lists_of}
use Rattle.algo_states.proofs.founding.needs_of.Given as goal

abbrev pub invariant-loop-algorithm : goal.invariant-loop-algorithm
invariant-loop-algorithm l = lists_of l.needs.items ≡ inputs_of (take l.algorithm-index l.algorithms)
