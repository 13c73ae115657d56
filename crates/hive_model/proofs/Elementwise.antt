-- A list of numbers that is made element by element, each in range.
use Rattle.std.proofs.Common.{◌≡◌, ◌<◌, ◌≤◌, ◌+◌, ℕ, ℤ, pos, true, false, List, [], ◌∷◌, ◌++◌, Ok, Err, length, get_or, take, map, FitsSigned, refl, sym, ap, ◌∙◌}
use Rattle.std.specs.Int.{w64}
use Rattle.std.specs.List.{list_all}
use Rattle.std.proofs.lemmas.List.{take_more, take_all, map-append}
use Rattle.std.proofs.lemmas.List.Folds.{list_all-map, list_all-append, list_all_at}
use Rattle.hive_model.proofs.Numbers.{fits_signed, fits-from_signed, refuted}
use Rattle.hive_model.specs.Number.{fits, list}
use Rattle.hive_model.specs.declared.outcome.Fault.TheVariants.{Overflow}
use Rattle.hive_model.specs.declared.product.Product.TheVariants as product

-- so far, every number is in range
pub record IsMade (f : ℤ → ℤ) (xs : List ℤ) (i : ℕ) (made : List ℤ) : Type 0 where
  pub numbers : made ≡ map f (take i xs)
  pub in_range : list_all (λ x. fits (f x)) (take i xs) ≡ true

pub made-overflow : (f : ℤ → ℤ) (xs : List ℤ) (i : ℕ) → i < length xs → (FitsSigned w64 (f (get_or xs i (pos 0))) → ⊥) → Err Overflow ≡ list (map f xs)
unfolding list
made-overflow f xs i h out =
    let all : list_all fits (map f xs) ≡ false =
    list_all-map fits f xs
    ∙ list_all_at (λ x. fits (f x)) xs i (pos 0) h (refuted (fits (f (get_or xs i (pos 0)))) (λ e. out (fits_signed _ e)))
    in
    rw all refl

pub made-more : (f : ℤ → ℤ) (xs made : List ℤ) (i : ℕ) (y : ℤ) → i < length xs → IsMade f xs i made → y ≡ f (get_or xs i (pos 0)) → FitsSigned w64 (f (get_or xs i (pos 0))) → IsMade f xs (i + 1) (made ++ y ∷ [])
made-more f xs made i y h m e fit = record {
  numbers =
      ap (λ ys. ys ++ y ∷ []) m.numbers ∙ ap (λ z. map f (take i xs) ++ z ∷ []) e
      ∙ sym (ap (map f) (take_more xs i (pos 0) h) ∙ map-append f (take i xs) (get_or xs i (pos 0) ∷ []));
  in_range =
      ap (list_all (λ x. fits (f x))) (take_more xs i (pos 0) h)
      ∙ list_all-append (λ x. fits (f x)) (take i xs) (get_or xs i (pos 0) ∷ [])
      ∙ rw (m.in_range, fits-from_signed (f (get_or xs i (pos 0))) fit) refl;
}

pub made-all : (f : ℤ → ℤ) (xs made : List ℤ) (i : ℕ) → length xs ≤ i → IsMade f xs i made → Ok (product.List made) ≡ list (map f xs)
unfolding list
made-all f xs made i h m =
    let whole : take i xs ≡ xs = take_all i xs h in
    let all : list_all fits (map f xs) ≡ true =
    list_all-map fits f xs ∙ ap (list_all (λ x. fits (f x))) (sym whole) ∙ m.in_range
    in
    let same : made ≡ map f xs = m.numbers ∙ ap (map f) whole in
    rw (all, same) refl
