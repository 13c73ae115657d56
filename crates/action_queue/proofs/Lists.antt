-- Elements of a list by their numbers, and the lists of all elements together, in some order, after one of them changed.
use Rattle.std.proofs.Common.{◌≡◌, ◌≢◌, ℕ, zero, suc, List, [], ◌∷◌, ◌++◌, set, refl, sym, ap, ◌∙◌, subst, ⊎_elim, append_assoc, append-nil, arith}
use Rattle.std.specs.List.{flat_map}
use Rattle.std.specs.List.Sorted.{IsPermutation}
use Rattle.std.proofs.lemmas.List.Sorted.{IsPermutation-refl, IsPermutation-sym, IsPermutation-trans, IsPermutation-append_left, IsPermutation-append_right, IsPermutation-append_comm}
use mathlib.Core.Option.{some, some-injective, some-ne-none}
use lib.ListN.{get_elem?}
use Rattle.crossbeam_queue.proofs.Lists.{at_set, at_snoc}

module _ {A : Type 0} where
  pub set_there : (xs : List A) (i : ℕ) (v w : A) → get_elem? xs i ≡ some v → get_elem? (set xs i w) i ≡ some w
  set_there [] i v w at = absurd (some-ne-none v (sym at))
  set_there (x ∷ xs) zero v w at = refl
  set_there (x ∷ xs) (suc i) v w at = set_there xs i v w at

  -- P holds of each element
  abbrev pub Each : (A → Type 0) → List A → Type 0
  Each P xs = (j : ℕ) (u : A) → get_elem? xs j ≡ some u → P u

  pub each_set : (P : A → Type 0) (xs : List A) (i : ℕ) (w : A) → P w
      → ((j : ℕ) (u : A) → j ≢ i → get_elem? xs j ≡ some u → P u) → Each P (set xs i w)
  each_set P xs i w mine others j u at = ⊎_elim
      (λ (t : (j ≡ i) × (w ≡ u)). subst P t.1 mine)
      (λ (t : (j ≢ i) × (get_elem? xs j ≡ some u)). others j u t.0 t.1)
      (at_set xs i j w u at)

  pub each_snoc : (P : A → Type 0) (xs : List A) (w : A) → P w → Each P xs → Each P (xs ++ w ∷ [])
  each_snoc P xs w new others j u at = ⊎_elim (others j u) (λ (t : w ≡ u). subst P t new) (at_snoc xs w u j at)

  -- two elements change in either order
  pub set_set : (xs : List A) (i j : ℕ) (v w : A) → j ≢ i → set (set xs i v) j w ≡ set (set xs j w) i v
  set_set [] i j v w apart = refl
  set_set (x ∷ xs) zero zero v w apart = absurd (apart refl)
  set_set (x ∷ xs) zero (suc j) v w apart = refl
  set_set (x ∷ xs) (suc i) zero v w apart = refl
  set_set (x ∷ xs) (suc i) (suc j) v w apart = ap (λ l. x ∷ l) (set_set xs i j v w (λ same. apart (ap suc same)))

module _ {X : Type 0} where
  pub same_order : (xs ys : List X) → ys ≡ xs → IsPermutation xs ys
  same_order xs ys same = subst (IsPermutation xs) (sym same) (IsPermutation-refl xs)

  -- the first two of three lists change places
  pub swapped : (a b c : List X) → IsPermutation (a ++ (b ++ c)) (b ++ (a ++ c))
  swapped a b c =
      let ab = append_assoc a b c in
      let ba = append_assoc b a c in
      let moved = IsPermutation-append_left c (a ++ b) (b ++ a) (IsPermutation-append_comm a b) in
      subst (λ l. IsPermutation l (b ++ (a ++ c))) ab (subst (IsPermutation ((a ++ b) ++ c)) ba moved)

  -- the last two of three lists change places
  pub swapped_last : (a b c : List X) → IsPermutation ((a ++ b) ++ c) ((a ++ c) ++ b)
  swapped_last a b c =
      let moved = IsPermutation-append_right a (b ++ c) (c ++ b) (IsPermutation-append_comm b c) in
      subst (λ l. IsPermutation l ((a ++ c) ++ b)) (sym (append_assoc a b c))
      (subst (IsPermutation (a ++ (b ++ c))) (sym (append_assoc a c b)) moved)

module _ {A X : Type 0} (f : A → List X) where
  -- one element's list and the others, whatever that element becomes
  pub record Pulled (xs : List A) (i : ℕ) (v : A) : Type 0 where
    pub rest : List X
    pub now : IsPermutation (flat_map f xs) (f v ++ rest)
    pub after : (w : A) → IsPermutation (flat_map f (set xs i w)) (f w ++ rest)

  pulled_more : (x : A) (xs : List A) (i : ℕ) (v : A) → Pulled xs i v → Pulled (x ∷ xs) (suc i) v
  pulled_more x xs i v p = record {
    rest = f x ++ p.rest;
    now = IsPermutation-trans (f x ++ flat_map f xs) (f x ++ (f v ++ p.rest)) (f v ++ (f x ++ p.rest))
        (IsPermutation-append_right (f x) (flat_map f xs) (f v ++ p.rest) p.now) (swapped (f x) (f v) p.rest);
    after = λ w. IsPermutation-trans (f x ++ flat_map f (set xs i w)) (f x ++ (f w ++ p.rest)) (f w ++ (f x ++ p.rest))
        (IsPermutation-append_right (f x) (flat_map f (set xs i w)) (f w ++ p.rest) (p.after w))
        (swapped (f x) (f w) p.rest);
  }

  pub pulled : (xs : List A) (i : ℕ) (v : A) → get_elem? xs i ≡ some v → Pulled xs i v
  pulled [] i v at = absurd (some-ne-none v (sym at))
  pulled (x ∷ xs) zero v at = record {
    rest = flat_map f xs;
    now = same_order (f x ++ flat_map f xs) (f v ++ flat_map f xs)
        (ap (λ y. f y ++ flat_map f xs) (sym (some-injective x v at)));
    after = λ w. IsPermutation-refl (f w ++ flat_map f xs);
  }
  pulled (x ∷ xs) (suc i) v at = pulled_more x xs i v (pulled xs i v at)

  -- an element with the same list changes nothing
  pub flat_same : (xs : List A) (i : ℕ) (v w : A) → get_elem? xs i ≡ some v → f w ≡ f v
      → flat_map f (set xs i w) ≡ flat_map f xs
  flat_same [] i v w at same = absurd (some-ne-none v (sym at))
  flat_same (x ∷ xs) zero v w at same = ap (λ l. l ++ flat_map f xs) (same ∙ sym (ap f (some-injective x v at)))
  flat_same (x ∷ xs) (suc i) v w at same = ap (λ l. f x ++ l) (flat_same xs i v w at same)

  -- an element with one item more
  pub flat_more : (xs : List A) (i : ℕ) (v w : A) (x : X) → get_elem? xs i ≡ some v → f w ≡ f v ++ x ∷ []
      → IsPermutation (flat_map f (set xs i w)) (flat_map f xs ++ x ∷ [])
  flat_more xs i v w x at more =
      let p = pulled xs i v at in
      let here = subst (λ l. IsPermutation (flat_map f (set xs i w)) (l ++ p.rest)) more (p.after w) in
      let back = IsPermutation-append_left (x ∷ []) (f v ++ p.rest) (flat_map f xs) (IsPermutation-sym (flat_map f xs) (f v ++ p.rest) p.now) in
      IsPermutation-trans (flat_map f (set xs i w)) ((f v ++ x ∷ []) ++ p.rest) (flat_map f xs ++ x ∷ []) here
      (IsPermutation-trans ((f v ++ x ∷ []) ++ p.rest) ((f v ++ p.rest) ++ x ∷ []) (flat_map f xs ++ x ∷ [])
      (swapped_last (f v) (x ∷ []) p.rest) back)

  -- one element takes in the list of another, which is left with none
  pub flat_join : (xs : List A) (i j : ℕ) (v u both none : A) → get_elem? xs i ≡ some v → get_elem? xs j ≡ some u
      → j ≢ i → get_elem? (set xs j none) i ≡ some v → f both ≡ f v ++ f u → f none ≡ []
      → IsPermutation (flat_map f (set (set xs i both) j none)) (flat_map f xs)
  flat_join xs i j v u both none here there apart still joined empty =
      let others : List A = set xs j none in
      let p = pulled xs j u there in
      let q = pulled others i v still in
      let without : IsPermutation (flat_map f others) p.rest =
      subst (λ l. IsPermutation (flat_map f others) (l ++ p.rest)) empty (p.after none) in
      let front : IsPermutation (flat_map f (set others i both)) ((f v ++ f u) ++ q.rest) =
      subst (λ l. IsPermutation (flat_map f (set others i both)) (l ++ q.rest)) joined (q.after both) in
      let turned : IsPermutation ((f v ++ f u) ++ q.rest) (f u ++ (f v ++ q.rest)) =
      subst (λ l. IsPermutation l (f u ++ (f v ++ q.rest))) (sym (append_assoc (f v) (f u) q.rest)) (swapped (f v) (f u) q.rest) in
      let back : IsPermutation (f u ++ (f v ++ q.rest)) (f u ++ flat_map f others) =
      IsPermutation-append_right (f u) (f v ++ q.rest) (flat_map f others) (IsPermutation-sym (flat_map f others) (f v ++ q.rest) q.now) in
      let rest : IsPermutation (f u ++ flat_map f others) (f u ++ p.rest) =
      IsPermutation-append_right (f u) (flat_map f others) p.rest without in
      let all : IsPermutation (f u ++ p.rest) (flat_map f xs) = IsPermutation-sym (flat_map f xs) (f u ++ p.rest) p.now in
      let chain : IsPermutation (flat_map f (set others i both)) (flat_map f xs) =
      IsPermutation-trans (flat_map f (set others i both)) ((f v ++ f u) ++ q.rest) (flat_map f xs) front
      (IsPermutation-trans ((f v ++ f u) ++ q.rest) (f u ++ (f v ++ q.rest)) (flat_map f xs) turned
      (IsPermutation-trans (f u ++ (f v ++ q.rest)) (f u ++ flat_map f others) (flat_map f xs) back
      (IsPermutation-trans (f u ++ flat_map f others) (f u ++ p.rest) (flat_map f xs) rest all))) in
      subst (λ (l : List A). IsPermutation (flat_map f l) (flat_map f xs)) (sym (set_set xs i j both none apart)) chain

  -- no element has any
  flat_none : (xs : List A) → Each (λ u. f u ≡ []) xs → flat_map f xs ≡ []
  flat_none [] none = refl
  flat_none (x ∷ xs) none =
      ap (λ l. l ++ flat_map f xs) (none 0 x refl) ∙ flat_none xs (λ j u at. none (suc j) u at)

  -- the others have none
  pub flat_lone : (xs : List A) (i : ℕ) (v : A) → get_elem? xs i ≡ some v
      → ((j : ℕ) (u : A) → j ≢ i → get_elem? xs j ≡ some u → f u ≡ []) → flat_map f xs ≡ f v
  flat_lone [] i v at others = absurd (some-ne-none v (sym at))
  flat_lone (x ∷ xs) zero v at others =
      ap (λ l. f x ++ l) (flat_none xs (λ j u there. others (suc j) u (λ same. absurd (omega arith)) there)) ∙ (append-nil (f x) ∙ ap f (some-injective x v at))
  flat_lone (x ∷ xs) (suc i) v at others =
      ap (λ l. l ++ flat_map f xs) (others 0 x (λ same. absurd (omega arith)) refl)
      ∙ flat_lone xs i v at (λ j u apart there. others (suc j) u (λ same. apart (omega arith)) there)
