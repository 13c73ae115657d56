-- The parts from here on give what all parts give.
use Rattle.std.proofs.Common.{◌≡◌, drop, [], vec_len}
use Rattle.expr_text.specs.Assembly.{run}
use Rattle.expr_text.proofs.assembly.assemble.Given as goal

abbrev pub invariant-loop-part : goal.invariant-loop-part
invariant-loop-part l =
    (run l.text l.names (drop l.part-index l.parts) l.nodes.items l.slots.items ≡ run l.text l.names l.parts [] []) × (vec_len l.nodes ≡ l.part-index)
