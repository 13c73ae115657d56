use Rattle.std.proofs.Common.{◌≡◌, ℤ, Option, Some, None, Ok, Err, FitsSigned, of_z, to_z, sym, subst, ◌∙◌}
use Rattle.std.specs.Int.{w64}
use Rattle.std.specs.Option.{SomeIff}
use Rattle.hive_model.proofs.Numbers.{num-word, num-outside}
use Rattle.hive_model.specs.Number.{num}
use Rattle.hive_model.specs.declared.outcome.Fault.TheVariants.{Overflow}
use Rattle.hive_model.specs.declared.product.Product.TheVariants as product
use Rattle.hive_model.proofs.operator.checked.Goals as goal

in_range : (o : Option ℤ) (n z : ℤ) → o ≡ Some n → SomeIff o (FitsSigned w64 z) z → Ok (product.Num (to_z w64 (of_z w64 n))) ≡ num z
in_range None n z e h = cc
in_range (Some m) n z e h =
    let here_is : n ≡ m = cc in
    let same : n ≡ z = here_is ∙ h.1 in
    let fits : FitsSigned w64 n = subst (FitsSigned w64) (sym same) h.0 in
    num-word n z fits same

out_of_range : (o : Option ℤ) (z : ℤ) → o ≡ None → SomeIff o (FitsSigned w64 z) z → Err Overflow ≡ num z
out_of_range None z e h = sym (num-outside z h)
out_of_range (Some m) z e h = cc

pub returns-in-Some : goal.returns-in-Some
returns-in-Some c = λ z h. in_range c.args.number c.in-Some.number z c.in-Some.is h

pub returns-in-None : goal.returns-in-None
returns-in-None c = λ z h. out_of_range c.args.number z c.in-None.is h
