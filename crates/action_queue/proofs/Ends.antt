-- Passes that come back one by one from the end of their list, and what all of them put and took.
use Rattle.std.proofs.Common.{◌≡◌, ◌+◌, List, [], ◌∷◌, ◌++◌, All, length, Some, sym, ap, ◌∙◌, subst, arith, append_assoc, append-nil, length-append}
use Rattle.std.specs.List.{flat_map}
use Rattle.std.specs.List.Sorted.{IsPermutation}
use Rattle.std.proofs.lemmas.List.Concat.{flat_map-append}
use Rattle.std.proofs.lemmas.List.Elements.{All-pop}
use Rattle.std.proofs.lemmas.List.Sorted.{IsPermutation-sym, IsPermutation-trans, IsPermutation-append_left, IsPermutation-append_right, IsPermutation-append_comm}
use Rattle.action_queue.proofs.Lists.{same_order}

module _ {P : Type 0} (xs ys : List P) (x : P) (split : xs ≡ ys ++ x ∷ []) where
  -- what holds of all holds of the last and of the others
  pub all_off : (Q : P → Type 0) → All Q xs → All Q ys × Q x
  all_off Q all = All-pop Q xs ys (Some x) split all

  pub one_less : length xs ≡ length ys + 1
  one_less = ap length split ∙ length-append ys (x ∷ [])

  flat_off : {D : Type 0} (f : P → List D) → flat_map f xs ≡ flat_map f ys ++ f x
  flat_off f = ap (flat_map f) split ∙ (flat_map-append f ys (x ∷ []) ∙ ap (λ l. flat_map f ys ++ l) (append-nil (f x)))

  pub first_off : {D : Type 0} (f : P → List D) → IsPermutation (flat_map f xs) (flat_map f ys ++ f x)
  first_off f = same_order (flat_map f xs) (flat_map f ys ++ f x) (sym (flat_off f))

  -- the next one's list joins those that came before
  pub next_off : {D : Type 0} (f : P → List D) (all held : List D) → IsPermutation all (flat_map f xs ++ held)
      → IsPermutation all (flat_map f ys ++ (held ++ f x))
  next_off f all held before =
      let moved = IsPermutation-append_right (flat_map f ys) (f x ++ held) (held ++ f x) (IsPermutation-append_comm (f x) held) in
      let is = ap (λ l. l ++ held) (flat_off f) ∙ append_assoc (flat_map f ys) (f x) held in
      IsPermutation-trans all (flat_map f ys ++ (f x ++ held)) (flat_map f ys ++ (held ++ f x))
      (subst (IsPermutation all) is before) moved

module _ {P D : Type 0} (f g : P → List D) where
  -- the only pass has the order
  pub only_first : (xs ys : List P) (x : P) (rest : List D) → xs ≡ ys ++ x ∷ [] → length xs ≡ 1
      → f x ≡ g x ++ rest → flat_map f xs ≡ flat_map g xs ++ rest
  only_first xs [] x rest split one order =
      ap (flat_map f) split ∙ (append-nil (f x) ∙ (order ∙ ap (λ l. l ++ rest) (sym (append-nil (g x)) ∙ sym (ap (flat_map g) split))))
  only_first xs (y ∷ ys) x rest split one order =
      absurd (omega (arith, one_less xs (y ∷ ys) x split))

  -- all have come back
  pub settled : (all ys : List P) (put took rest : List D) → ys ≡ []
      → IsPermutation (flat_map f all) (flat_map f ys ++ put) → IsPermutation (flat_map g all) (flat_map g ys ++ took)
      → IsPermutation put (took ++ rest) → IsPermutation (flat_map f all) (flat_map g all ++ rest)
  settled all ys put took rest none puts tooks balance =
      let puts_are = subst (λ (l : List P). IsPermutation (flat_map f all) (flat_map f l ++ put)) none puts in
      let tooks_are = subst (λ (l : List P). IsPermutation (flat_map g all) (flat_map g l ++ took)) none tooks in
      IsPermutation-trans (flat_map f all) put (flat_map g all ++ rest) puts_are
      (IsPermutation-trans put (took ++ rest) (flat_map g all ++ rest) balance
      (IsPermutation-append_left rest took (flat_map g all) (IsPermutation-sym (flat_map g all) took tooks_are)))
