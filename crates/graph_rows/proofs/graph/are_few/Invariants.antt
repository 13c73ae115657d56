use Rattle.std.proofs.Common.{◌≡◌, ◌+◌, length, take}
use Rattle.hive_model.specs.declared.limits.TheConstants.{MOST_HANDLES}
use Rattle.text_model.specs.Producers.{handles_of}
use Rattle.graph_rows.proofs.graph.are_few.Given as goal

abbrev pub invariant-loop-need : goal.invariant-loop-need
invariant-loop-need l = l.left + length (handles_of l.raws (take l.need-index l.needs)) ≡ MOST_HANDLES
