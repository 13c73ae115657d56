-- An execution, output by output, and then its filter.
use Rattle.std.proofs.Common.{◌≡◌, ℕ, ◌<◌, ◌≤◌, ◌+◌, zero, suc, List, [], ◌∷◌, ◌++◌, Some, None, Ok, Err, length, get_or, drop, refl, sym, ap, subst, ◌∙◌, append_assoc, arith}
use Rattle.std.specs.List.{AllByRecursion, zip, enumerate_from}
use Rattle.std.proofs.lemmas.List.{drop_more, at_drop_all, length_push}
use Rattle.hive_model.specs.Algorithm.{Algorithm}
use Rattle.hive_model.specs.Execution.{seen, failed, passed, either, filtered, outputs_from, execution}
use Rattle.hive_model.specs.Value.{value_of}
use Rattle.hive_model.specs.declared.algorithm.Output.{Output}
use Rattle.hive_model.specs.declared.expr.Node.{Node}
use Rattle.hive_model.specs.declared.outcome.Fault.{Fault}
use Rattle.hive_model.specs.declared.outcome.Outcome.TheVariants.{Accepted}
use Rattle.hive_model.specs.declared.outcome.Place.TheVariants as place
use Rattle.hive_model.specs.declared.product.Product.{Product}
use Rattle.std.proofs.lemmas.List.{append-nil}

-- the filter

pub filtered-none : (a : Algorithm) (inputs outputs : List Product) → a.filter ≡ None →
    record { outcome = Accepted; outputs = outputs } ≡ filtered a inputs outputs
unfolding filtered
filtered-none a inputs outputs e = rw e refl

pub filtered-ok : (a : Algorithm) (inputs outputs : List Product) (held : List (ℕ × Product)) (x : List Node) (p : Product) → a.filter ≡ Some x →
    held ≡ seen a inputs outputs → value_of held x ≡ Ok p → passed outputs p ≡ filtered a inputs outputs
unfolding filtered
filtered-ok a inputs outputs held x p e h v =
    let worth : value_of (seen a inputs outputs) x ≡ Ok p = ap (λ them. value_of them x) (sym h) ∙ v in
    rw (e, worth) refl

pub filtered-err : (a : Algorithm) (inputs outputs : List Product) (held : List (ℕ × Product)) (x : List Node) (f : Fault) → a.filter ≡ Some x →
    held ≡ seen a inputs outputs → value_of held x ≡ Err f → failed place.Filter f ≡ filtered a inputs outputs
unfolding filtered
filtered-err a inputs outputs held x f e h v =
    let worth : value_of (seen a inputs outputs) x ≡ Err f = ap (λ them. value_of them x) (sym h) ∙ v in
    rw (e, worth) refl

-- the outputs

enumerate_push : {X : Type 0} (n : ℕ) (xs : List X) (y : X) → enumerate_from n (xs ++ y ∷ []) ≡ enumerate_from n xs ++ (n + length xs, y) ∷ []
enumerate_push n [] y = let e : n ≡ n + 0 = omega arith in ap (λ k. (k, y) ∷ []) e
enumerate_push n (x ∷ xs) y =
    let e : n + 1 + length xs ≡ n + suc (length xs) = omega arith in
    ap (λ them. (n, x) ∷ them) (enumerate_push (n + 1) xs y ∙ ap (λ k. enumerate_from (n + 1) xs ++ (k, y) ∷ []) e)

pub seen_more : (a : Algorithm) (inputs above : List Product) (p : Product) →
    seen a inputs (above ++ p ∷ []) ≡ seen a inputs above ++ (a.first_output + length above, p) ∷ []
seen_more a inputs above p =
    ap (λ them. zip a.inputs inputs ++ them) (enumerate_push a.first_output above p)
    ∙ sym (append_assoc (zip a.inputs inputs) (enumerate_from a.first_output above) ((a.first_output + length above, p) ∷ []))

-- so many outputs are computed, and the rest of the execution stands on them
pub record IsComputed (a : Algorithm) (inputs : List Product) (held : List (ℕ × Product)) (above : List Product) (number : ℕ) : Type 0 where
  pub held_is : held ≡ seen a inputs above
  pub count : length above ≡ number
  pub rest : outputs_from a inputs above (drop number a.outputs) ≡ execution a inputs

pub computed-none : (a : Algorithm) (inputs : List Product) → IsComputed a inputs (zip a.inputs inputs) [] 0
unfolding execution
computed-none a inputs = record { held_is = sym (append-nil (zip a.inputs inputs)); count = refl; rest = refl }

ahead : (a : Algorithm) (inputs above : List Product) (number : ℕ) (o : Output) → number < length a.outputs → o ≡ get_or a.outputs number o →
    outputs_from a inputs above (drop number a.outputs)
    ≡ either (λ p. outputs_from a inputs (above ++ p ∷ []) (drop (number + 1) a.outputs)) (failed (place.Output (length above))) (value_of (seen a inputs above) o.value)
unfolding outputs_from
ahead a inputs above number o h e =
    ap (outputs_from a inputs above) (drop_more a.outputs number o h ∙ ap (λ it. it ∷ drop (number + 1) a.outputs) (sym e))

pub computed-more : (a : Algorithm) (inputs : List Product) (held after : List (ℕ × Product)) (above outputs : List Product) (number : ℕ) (o : Output) (p : Product) →
    number < length a.outputs → o ≡ get_or a.outputs number o → value_of held o.value ≡ Ok p →
    after ≡ held ++ (a.first_output + number, p) ∷ [] → outputs ≡ above ++ p ∷ [] →
    IsComputed a inputs held above number → IsComputed a inputs after outputs (number + 1)
computed-more a inputs held after above outputs number o p h e v after_is outputs_is c =
    let worth : value_of (seen a inputs above) o.value ≡ Ok p = ap (λ them. value_of them o.value) (sym c.held_is) ∙ v in
    let step = ahead a inputs above number o h e in
    let further : outputs_from a inputs (above ++ p ∷ []) (drop (number + 1) a.outputs) ≡ execution a inputs =
    ap (either (λ it. outputs_from a inputs (above ++ it ∷ []) (drop (number + 1) a.outputs)) (failed (place.Output (length above)))) (sym worth)
    ∙ sym step ∙ c.rest
    in
    record {
      held_is =
          after_is ∙ ap (λ them. them ++ (a.first_output + number, p) ∷ []) c.held_is
          ∙ ap (λ n. seen a inputs above ++ (a.first_output + n, p) ∷ []) (sym c.count)
          ∙ sym (seen_more a inputs above p) ∙ ap (seen a inputs) (sym outputs_is);
      count = ap length outputs_is ∙ length_push above p ∙ ap (λ n. n + 1) c.count;
      rest = ap (λ them. outputs_from a inputs them (drop (number + 1) a.outputs)) outputs_is ∙ further;
    }

pub computed-fault : (a : Algorithm) (inputs : List Product) (held : List (ℕ × Product)) (above : List Product) (number : ℕ) (o : Output) (f : Fault) →
    number < length a.outputs → o ≡ get_or a.outputs number o → value_of held o.value ≡ Err f →
    IsComputed a inputs held above number → failed (place.Output number) f ≡ execution a inputs
computed-fault a inputs held above number o f h e v c =
    let worth : value_of (seen a inputs above) o.value ≡ Err f = ap (λ them. value_of them o.value) (sym c.held_is) ∙ v in
    ap (λ n. failed (place.Output n) f) (sym c.count)
    ∙ ap (either (λ it. outputs_from a inputs (above ++ it ∷ []) (drop (number + 1) a.outputs)) (failed (place.Output (length above)))) (sym worth)
    ∙ sym (ahead a inputs above number o h e) ∙ c.rest

pub computed-all : (a : Algorithm) (inputs : List Product) (held : List (ℕ × Product)) (above : List Product) (number : ℕ) →
    length a.outputs ≤ number → IsComputed a inputs held above number → filtered a inputs above ≡ execution a inputs
unfolding outputs_from
computed-all a inputs held above number h c = sym (at_drop_all (outputs_from a inputs above) a.outputs number h) ∙ c.rest

-- an element of a list of which all have a property
pub all_at : {X : Type 0} (P : X → Type 0) (xs : List X) (i : ℕ) (x : X) → AllByRecursion P xs → i < length xs → x ≡ get_or xs i x → P x
all_at P [] i x all h e = absurd (omega arith)
all_at P (y ∷ xs) zero x all h e = subst P (sym e) all.0
all_at P (y ∷ xs) (suc i) x all h e = all_at P xs i x all.1 (omega arith) e
