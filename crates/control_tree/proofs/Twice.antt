-- The search for a number that stands a second time, one number further.
use Rattle.std.proofs.Common.{◌≡◌, ℕ, ◌+◌, ◌<◌, ◌≤◌, nat_eq, Bool, true, false, ◌||◌, if◌then◌else◌, List, [], ◌∷◌, ◌++◌, length, get_or, set, take, drop, Some, None, refl, ap, sym, ◌∙◌, ⊎_elim, arith}
use Rattle.std.proofs.lemmas.Bool.{cases_eq, eq-eqb, ne_eqb, or_right}
use Rattle.std.proofs.lemmas.List.{drop_more, drop_all, take_more, get_or-set_same, get_or-set_other}
use Rattle.std.proofs.lemmas.List.Folds.{list_any-append}
use Rattle.std.specs.List.{list_any}
use Rattle.text_model.specs.Names.{first_repeated, repeated_behind}

pub repeated-here : (xs : List ℕ) (i : ℕ) → i < length xs → list_any (nat_eq (get_or xs i 0)) (take i xs) ≡ true →
    repeated_behind nat_eq (take i xs) (drop i xs) ≡ Some (get_or xs i 0)
unfolding repeated_behind
repeated-here xs i h e = rw (drop_more xs i 0 h, e) refl

pub repeated-later : (xs : List ℕ) (i : ℕ) → i < length xs → list_any (nat_eq (get_or xs i 0)) (take i xs) ≡ false →
    repeated_behind nat_eq (take i xs) (drop i xs) ≡ repeated_behind nat_eq (take (i + 1) xs) (drop (i + 1) xs)
unfolding repeated_behind
repeated-later xs i h e = rw (drop_more xs i 0 h, e, take_more xs i 0 h) refl

pub repeated-none : (xs : List ℕ) (i : ℕ) → length xs ≤ i → repeated_behind nat_eq (take i xs) (drop i xs) ≡ None
unfolding repeated_behind
repeated-none xs i h = rw (drop_all i xs h) refl

-- the flag of a number, after one more number was flagged
pub flag-more : (xs : List ℕ) (seen : List Bool) (i n size : ℕ) → i < length xs → length seen ≡ size → get_or xs i 0 < size → n < size →
    get_or seen n false ≡ list_any (nat_eq n) (take i xs) → get_or (set seen (get_or xs i 0) true) n false ≡ list_any (nat_eq n) (take (i + 1) xs)
flag-more xs seen i n size h is within less told =
    ⊎_elim same other (cases_eq n (get_or xs i 0)) ∙ sym (ap (list_any (nat_eq n)) (take_more xs i 0 h) ∙ list_any-append (nat_eq n) (take i xs) (get_or xs i 0 ∷ []))
  where
    same : n ≡ get_or xs i 0 → get_or (set seen (get_or xs i 0) true) n false ≡ (list_any (nat_eq n) (take i xs) || list_any (nat_eq n) (get_or xs i 0 ∷ []))
    same e =
        let inside : get_or xs i 0 < length seen = omega arith in
        rw e (get_or-set_same seen (get_or xs i 0) true false inside)
        ∙ sym (or_right (list_any (nat_eq n) (take i xs)) (list_any (nat_eq n) (get_or xs i 0 ∷ [])) (rw (eq-eqb n (get_or xs i 0) e) refl))

    either : (b : Bool) → b ≡ (b || false)
    either true = refl
    either false = refl

    other : (n ≡ get_or xs i 0 → ⊥) → get_or (set seen (get_or xs i 0) true) n false ≡ (list_any (nat_eq n) (take i xs) || list_any (nat_eq n) (get_or xs i 0 ∷ []))
    other e =
        get_or-set_other seen (get_or xs i 0) n true false e ∙ told
        ∙ rw (ne_eqb n (get_or xs i 0) e) (either (list_any (nat_eq n) (take i xs)))
