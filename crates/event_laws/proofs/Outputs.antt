-- How many outputs an execution leaves: as many as the algorithm has, and none where it failed.
use Rattle.std.proofs.Common.{◌≡◌, ℕ, suc, ◌+◌, true, false, if◌then◌else◌, List, [], ◌∷◌, ◌++◌, length, Some, None, Ok, Err, refl, sym, subst, add-zero, arith}
use Rattle.std.specs.Option.{option_map_or}
use Rattle.std.proofs.lemmas.List.{length_push}
use Rattle.hive_model.specs.Algorithm.{Algorithm}
use Rattle.hive_model.specs.Execution.{Execution, seen, failed, passed, either, is_zero, filtered, outputs_from, execution}
use Rattle.hive_model.specs.Number.{Worth}
use Rattle.hive_model.specs.Value.{value_of}
use Rattle.hive_model.specs.declared.algorithm.Output.{Output}
use Rattle.hive_model.specs.declared.outcome.Outcome.{Outcome}
use Rattle.hive_model.specs.declared.outcome.Outcome.TheVariants.{Accepted, Rejected, Failed}
use Rattle.hive_model.specs.declared.outcome.Place.{Place}
use Rattle.hive_model.specs.declared.outcome.Place.TheVariants as place
use Rattle.hive_model.specs.declared.product.Product.{Product}

-- with this outcome as many outputs are left, or none
abbrev pub AreLeft : ℕ → Outcome → List Product → Type 0
AreLeft n Accepted outputs = length outputs ≡ n
AreLeft n Rejected outputs = length outputs ≡ n
AreLeft n (Failed at fault) outputs = outputs ≡ []

abbrev pub HasLeft : ℕ → Execution → Type 0
HasLeft n it = AreLeft n it.outcome it.outputs

passed-leaves : (outputs : List Product) (p : Product) → HasLeft (length outputs) (passed outputs p)
passed-leaves outputs p = elim (is_zero p) as (λ b. AreLeft (length outputs) (if b then Rejected else Accepted) outputs) [ true ↦ refl | false ↦ refl ]

either-leaves : (n : ℕ) (next : Product → Execution) (at : Place) (w : Worth) → ((p : Product) → HasLeft n (next p)) → HasLeft n (either next (failed at) w)
either-leaves n next at (Ok p) h = h p
either-leaves n next at (Err f) h = refl

filtered-leaves : (a : Algorithm) (inputs outputs : List Product) → HasLeft (length outputs) (filtered a inputs outputs)
unfolding filtered
filtered-leaves a inputs outputs =
    elim a.filter
    as (λ o.
    HasLeft (length outputs)
    (option_map_or (λ x. either (passed outputs) (failed place.Filter) (value_of (seen a inputs outputs) x)) o (record { outcome = Accepted; outputs = outputs }))) [
      | None ↦ refl
      | Some x ↦ either-leaves (length outputs) (passed outputs) place.Filter (value_of (seen a inputs outputs) x) (passed-leaves outputs)
    ]

outputs_from-leaves : (a : Algorithm) (inputs above : List Product) (os : List Output) → HasLeft (length above + length os) (outputs_from a inputs above os)
unfolding outputs_from
outputs_from-leaves a inputs above [] =
    subst (λ n. HasLeft n (filtered a inputs above)) (sym (add-zero (length above))) (filtered-leaves a inputs above)
outputs_from-leaves a inputs above (o ∷ os) =
    either-leaves (length above + suc (length os)) (λ p. outputs_from a inputs (above ++ p ∷ []) os) (place.Output (length above))
    (value_of (seen a inputs above) o.value) (λ p.
    let more : length (above ++ p ∷ []) + length os ≡ length above + suc (length os) = omega (arith, length_push above p) in
    subst (λ n. HasLeft n (outputs_from a inputs (above ++ p ∷ []) os)) more (outputs_from-leaves a inputs (above ++ p ∷ []) os))

pub execution-leaves : (a : Algorithm) (inputs : List Product) → HasLeft (length a.outputs) (execution a inputs)
unfolding execution
execution-leaves a inputs = subst (λ n. HasLeft n (outputs_from a inputs [] a.outputs)) (omega arith) (outputs_from-leaves a inputs [] a.outputs)

pub leaves-with : (a : Algorithm) (inputs : List Product) (o : Outcome) → (execution a inputs).outcome ≡ o →
    AreLeft (length a.outputs) o (execution a inputs).outputs
leaves-with a inputs o e = subst (λ it. AreLeft (length a.outputs) it (execution a inputs).outputs) e (execution-leaves a inputs)
