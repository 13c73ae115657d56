use Rattle.std.proofs.Common.{Ok, sym, ap, ◌∙◌, arith}
use Rattle.hive_model.specs.Tree.{tree_of}
use Rattle.hive_model.specs.Value.{value_of}
use Rattle.serial_meaning.specs.Evaluation.{said, value_within}
use Rattle.serial_meaning.proofs.Values.{tree-some}
use Rattle.serial_meaning.proofs.value.evaluate.Goals as goal

pub overflow_sub-last : goal.overflow_sub-last
overflow_sub-last c = let some = tree-some c.args.nodes.now c.requires in omega (arith, some)

pub value-requires : goal.value-requires
unfolding tree_of
value-requires c = c.requires

pub returns-in_ok-copy-in-Held : goal.returns-in_ok-copy-in-Held
unfolding value_of value_within tree_of
returns-in_ok-copy-in-Held c = ap Ok c.in_ok-copy-in-Held.ensures ∙ ap said (sym c.in-Held.is) ∙ c.in_ok-product.ensures

pub returns-in-Made : goal.returns-in-Made
unfolding value_of value_within tree_of
returns-in-Made c = ap said (sym c.in-Made.is) ∙ c.in_ok-product.ensures
