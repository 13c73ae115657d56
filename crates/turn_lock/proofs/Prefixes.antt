-- Prefixes of histories.
use Rattle.std.proofs.Common.{◌≡◌, ◌≤◌, List, [], ◌∷◌, ◌++◌, length, refl, sym, ap, ◌∙◌, ⊎_elim, arith, append_assoc, append-nil, length-append}
use mathlib.Core.List.{IsPrefix}
use Rattle.turn_lock.specs.History.{MayFollow}

module _ {A : Type 0} where
  pub prefix_refl : (xs : List A) → IsPrefix xs xs
  prefix_refl xs = ([], append-nil xs)

  pub prefix_trans : (xs ys zs : List A) → IsPrefix xs ys → IsPrefix ys zs → IsPrefix xs zs
  prefix_trans xs ys zs a b = (a.0 ++ b.0, sym (append_assoc xs a.0 b.0) ∙ (ap (λ l. l ++ b.0) a.1 ∙ b.1))

  pub prefix-length : (xs ys : List A) → IsPrefix xs ys → length xs ≤ length ys
  prefix-length xs ys a = omega (arith, length-append xs a.0, ap length a.1)

  pub follows_prefix : (xs ys : List A) → MayFollow xs ys → IsPrefix xs ys
  follows_prefix xs ys = ⊎_elim
      (λ (same : ys ≡ xs). ([], append-nil xs ∙ sym same))
      (λ (more : (x : A) × (ys ≡ xs ++ x ∷ [])). (more.0 ∷ [], sym more.1))

  with_rests : (xs ys s t : List A) → xs ++ s ≡ ys ++ t → length xs ≤ length ys → IsPrefix xs ys
  with_rests [] ys s t same short = (ys, refl)
  with_rests (x ∷ xs) [] s t same short = absurd (omega arith)
  with_rests (x ∷ xs) (y ∷ ys) s t same short =
      let tails : xs ++ s ≡ ys ++ t = cc in
      let head : x ≡ y = cc in
      let r = with_rests xs ys s t tails (omega arith) in
      (r.0, λ i. head i ∷ r.1 i)

  -- of two prefixes of one list the shorter is a prefix of the longer
  pub both_prefixes : (xs ys zs : List A) → IsPrefix xs zs → IsPrefix ys zs → length xs ≤ length ys → IsPrefix xs ys
  both_prefixes xs ys zs a b = with_rests xs ys a.0 b.0 (a.1 ∙ sym b.1)
