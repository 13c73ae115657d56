-- Handles by number, where no name stands twice: the name of a number has that number, and a number stands among those of some
-- names where its name is one of them.
use Rattle.std.proofs.Common.{◌≡◌, ℕ, zero, suc, ◌+◌, ◌<◌, nat_eq, Bool, true, false, ◌||◌, cond, List, [], ◌∷◌, ◌++◌, length, get_or, Option, Some, None, filter_map, refl, ap, sym, ◌∙◌, arith}
use Rattle.std.proofs.lemmas.Bool.{both_ways, eq-eqb, ne_eqb, or_parts, cases_eq}
use Rattle.std.proofs.lemmas.Iterator.Adapters.{position_from-zero}
use Rattle.std.proofs.lemmas.List.Folds.{list_any-append}
use Rattle.std.proofs.lemmas.Option.{same_Some}
use Rattle.std.specs.Cmp.Lexicographic.{nat_list_eq_equiv}
use Rattle.std.specs.List.{cons_option, list_any, position_from}
use Rattle.std.specs.Option.{option_map_or}
use Rattle.hive_model.specs.Same.{same_text}
use Rattle.text_model.specs.Names.{first_repeated, is_among, number_of, repeated_behind}
use Rattle.producer_graph.specs.Takers.{holds}

none-split : {X : Type 0} (b : Bool) (x : X) (o : Option X) → cond b (Some x) o ≡ None → (b ≡ false) × (o ≡ None)
none-split true x o e = cc
none-split false x o e = (refl, e)

-- a name is none of those before it
apart : (before xs : List (List ℕ)) (h : ℕ) (d : List ℕ) → repeated_behind same_text before xs ≡ None → h < length xs →
    list_any (same_text (get_or xs h d)) before ≡ false
unfolding repeated_behind
apart before [] h d e lt = absurd (omega arith)
apart before (x ∷ xs) zero d e lt = (none-split (list_any (same_text x) before) x (repeated_behind same_text (before ++ x ∷ []) xs) e).0
apart before (x ∷ xs) (suc h) d e lt =
    let later =
    apart (before ++ x ∷ []) xs h d ((none-split (list_any (same_text x) before) x (repeated_behind same_text (before ++ x ∷ []) xs) e).1) (omega arith) in
    (or_parts (list_any (same_text (get_or xs h d)) before) (list_any (same_text (get_or xs h d)) (x ∷ []))
    (sym (list_any-append (same_text (get_or xs h d)) before (x ∷ [])) ∙ later)).0

-- nor the one before it
apart-one : (before xs : List (List ℕ)) (x : List ℕ) (h : ℕ) (d : List ℕ) → repeated_behind same_text (before ++ x ∷ []) xs ≡ None → h < length xs →
    same_text (get_or xs h d) x ≡ false
apart-one before xs x h d e lt =
    let among = apart (before ++ x ∷ []) xs h d e lt in
    let here =
    (or_parts (list_any (same_text (get_or xs h d)) before) (list_any (same_text (get_or xs h d)) (x ∷ []))
    (sym (list_any-append (same_text (get_or xs h d)) before (x ∷ [])) ∙ among)).1 in
    (or_parts (same_text (get_or xs h d) x) false here).0

place-from : (before xs : List (List ℕ)) (from h : ℕ) (d : List ℕ) → repeated_behind same_text before xs ≡ None → h < length xs →
    position_from (same_text (get_or xs h d)) from xs ≡ Some (from + h)
unfolding repeated_behind
place-from before [] from h d e lt = absurd (omega arith)
place-from before (x ∷ xs) from zero d e lt = rw (nat_list_eq_equiv.refl x) (ap Some (omega arith))
place-from before (x ∷ xs) from (suc h) d e lt =
    let later = (none-split (list_any (same_text x) before) x (repeated_behind same_text (before ++ x ∷ []) xs) e).1 in
    rw (apart-one before xs x h d later (omega arith))
    (place-from (before ++ x ∷ []) xs (from + 1) h d later (omega arith) ∙ ap Some (omega arith))

number-from : (names : List (List ℕ)) (name : List ℕ) → number_of names name ≡ position_from (same_text name) 0 names
unfolding number_of
number-from names name = position_from-zero (same_text name) names

pub number-at : (names : List (List ℕ)) (h : ℕ) (d : List ℕ) → first_repeated same_text names ≡ None → h < length names →
    number_of names (get_or names h d) ≡ Some h
number-at names h d e lt = number-from names (get_or names h d) ∙ place-from [] names 0 h d e lt ∙ ap Some (omega arith)

position-same : (x y : List ℕ) (from : ℕ) (names : List (List ℕ)) → same_text y x ≡ true →
    position_from (same_text x) from names ≡ position_from (same_text y) from names
position-same x y from [] e = refl
position-same x y from (z ∷ names) e = rw (nat_list_eq_equiv.congr y x z e, position-same x y (from + 1) names e) refl

number-same : (names : List (List ℕ)) (x y : List ℕ) → same_text y x ≡ true → number_of names x ≡ number_of names y
number-same names x y e = number-from names x ∙ position-same x y 0 names e ∙ sym (number-from names y)

record IsFound (t : List ℕ → Bool) (from : ℕ) (xs : List (List ℕ)) (k : ℕ) (d : List ℕ) : Type 0 where
  at : ℕ
  inside : at < length xs
  same : k ≡ from + at
  passes : t (get_or xs at d) ≡ true

finds-by : (b : Bool) (t : List ℕ → Bool) (from : ℕ) (x : List ℕ) (xs : List (List ℕ)) (k : ℕ) (d : List ℕ) → t x ≡ b →
    cond b (Some from) (position_from t (from + 1) xs) ≡ Some k →
    (position_from t (from + 1) xs ≡ Some k → IsFound t (from + 1) xs k d) → IsFound t from (x ∷ xs) k d
finds-by true t from x xs k d here e later =
    let first : from ≡ k = same_Some from k e in
    record { at = 0; inside = omega arith; same = omega arith; passes = here }
finds-by false t from x xs k d here e later =
    let it = later e in
    let lt = it.inside in
    let eq = it.same in
    record { at = suc it.at; inside = omega (arith, lt); same = omega (arith, eq); passes = it.passes }

finds : (t : List ℕ → Bool) (from : ℕ) (xs : List (List ℕ)) (k : ℕ) (d : List ℕ) → position_from t from xs ≡ Some k → IsFound t from xs k d
finds t from [] k d e = cc
finds t from (x ∷ xs) k d e = finds-by (t x) t from x xs k d refl e (λ later. finds t (from + 1) xs k d later)

-- the name of a found number
pub found-name : (names : List (List ℕ)) (name : List ℕ) (k : ℕ) (d : List ℕ) → number_of names name ≡ Some k →
    (k < length names) × (same_text name (get_or names k d) ≡ true)
found-name names name k d e =
    let it = finds (same_text name) 0 names k d (sym (number-from names name) ∙ e) in
    let lt = it.inside in
    let eq = it.same in
    let same : k ≡ it.at = omega (arith, eq) in
    (omega (arith, lt, same), rw same it.passes)

-- the number of an input is that of a handle where it has the handle's name
told : (names : List (List ℕ)) (h : ℕ) (d x : List ℕ) → first_repeated same_text names ≡ None → h < length names →
    option_map_or (nat_eq h) (number_of names x) false ≡ same_text (get_or names h d) x
told names h d x e lt = by (same_text (get_or names h d) x) (number_of names x) refl refl
  where
    by : (b : Bool) (o : Option ℕ) → same_text (get_or names h d) x ≡ b → number_of names x ≡ o → option_map_or (nat_eq h) o false ≡ b
    by true o same is =
        let found : o ≡ Some h = sym is ∙ number-same names x (get_or names h d) same ∙ number-at names h d e lt in
        rw found (eq-eqb h h refl)
    by false None same is = refl
    by false (Some k) same is =
        ne_eqb h k (λ (equal : h ≡ k). both_ways (same_text (get_or names h d) x) same
        (nat_list_eq_equiv.symm (get_or names h d) x ∙ ap (λ n. same_text x (get_or names n d)) equal ∙ (found-name names x k d is).1))

-- a number stands among the numbers of inputs where its name is one of these
pub holds-taken : (names inputs : List (List ℕ)) (h : ℕ) (d : List ℕ) → first_repeated same_text names ≡ None → h < length names →
    holds h (filter_map (number_of names) inputs) ≡ is_among inputs (get_or names h d)
holds-taken names [] h d e lt = refl
holds-taken names (x ∷ inputs) h d e lt =
    by (number_of names x) (filter_map (number_of names) inputs)
    ∙ rw (told names h d x e lt, holds-taken names inputs h d e lt) refl
  where
    by : (o : Option ℕ) (rest : List ℕ) → holds h (cons_option o rest) ≡ (option_map_or (nat_eq h) o false || holds h rest)
    by None rest = refl
    by (Some k) rest = refl
