-- The functions of expressions: the word of each, and what it takes and gives. The first operand is a list; some have a second.
use Rattle.std.specs.Prelude.{codes, ℕ, List, Some, None}
use Rattle.hive_model.specs.declared.expr.Function.{Function}
use Rattle.hive_model.specs.declared.expr.Function.TheVariants.{Len, Sum, Min, Max, At, Above, Scale, Shift, Cat, First}
use Rattle.hive_model.specs.declared.expr.Signature.{Signature}
use Rattle.hive_model.specs.declared.product.Kind.{Kind}
use Rattle.hive_model.specs.declared.product.Kind.TheVariants as kinds

abbrev pub function_name : Function → List ℕ
function_name Len = codes "len"
function_name Sum = codes "sum"
function_name Min = codes "min"
function_name Max = codes "max"
function_name At = codes "at"
function_name Above = codes "above"
function_name Scale = codes "scale"
function_name Shift = codes "shift"
function_name Cat = codes "cat"
function_name First = codes "first"

abbrev pub of_one : Kind → Signature
of_one result = record { second = None; result = result }

abbrev pub of_two : Kind → Kind → Signature
of_two second result = record { second = Some second; result = result }

abbrev pub signature : Function → Signature
signature Len = of_one kinds.Num
signature Sum = of_one kinds.Num
signature Min = of_one kinds.Num
signature Max = of_one kinds.Num
signature At = of_two kinds.Num kinds.Num
signature Above = of_two kinds.Num kinds.List
signature Scale = of_two kinds.Num kinds.List
signature Shift = of_two kinds.Num kinds.List
signature Cat = of_two kinds.List kinds.List
signature First = of_two kinds.Num kinds.List
