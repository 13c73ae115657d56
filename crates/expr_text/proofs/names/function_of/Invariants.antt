-- The functions so far have other names.
use Rattle.std.proofs.Common.{◌≡◌, drop, find}
use Rattle.hive_model.specs.Function.{function_name}
use Rattle.hive_model.specs.Same.{same_text}
use Rattle.text_model.specs.ExprText.{function_of}
use Rattle.expr_text.proofs.names.function_of.Given as goal

abbrev pub invariant-loop-function : goal.invariant-loop-function
invariant-loop-function l =
    find (λ f. same_text (function_name f) l.name) (drop l.function-index l.function-items) ≡ function_of l.name
