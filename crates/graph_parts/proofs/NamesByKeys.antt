-- Names beside the keys of the set that holds them.
use Rattle.std.proofs.Common.{◌≡◌, ℕ, ◌+◌, Bool, true, false, ◌||◌, cond, is_some, Option, List, [], ◌∷◌, map, Some, position, String, Global, string_bytes, refl, ap, sym, ◌∙◌}
use Rattle.std.proofs.lemmas.Iterator.Adapters.{position_from-zero}
use Rattle.std.specs.List.{list_any, position_from}
use Rattle.hive_model.specs.Same.{same_text}
use Rattle.text_model.specs.Names.{is_among, number_of}

list_any-map : {X Y : Type 0} (test : Y → Bool) (f : X → Y) (xs : List X) → list_any test (map f xs) ≡ list_any (λ x. test (f x)) xs
list_any-map test f [] = refl
list_any-map test f (x ∷ xs) = rw (list_any-map test f xs)

position_from-map : {X Y : Type 0} (test : Y → Bool) (f : X → Y) (n : ℕ) (xs : List X) →
    position_from test n (map f xs) ≡ position_from (λ x. test (f x)) n xs
position_from-map test f n [] = refl
position_from-map test f n (x ∷ xs) = ap (cond (test (f x)) (Some n)) (position_from-map test f (n + 1) xs)

position-map : {X Y : Type 0} (test : Y → Bool) (f : X → Y) (xs : List X) → position test (map f xs) ≡ position (λ x. test (f x)) xs
position-map test f xs =
    position_from-zero test (map f xs) ∙ position_from-map test f 0 xs ∙ sym (position_from-zero (λ x. test (f x)) xs)

abbrev pub Key : Type 0
Key = String Global

pub is_among-keys : (name : List ℕ) (keys : List Key) (names : List (List ℕ)) → map string_bytes keys ≡ names →
    list_any (λ k. same_text name (string_bytes k)) keys ≡ is_among names name
is_among-keys name keys names e = sym (list_any-map (same_text name) string_bytes keys) ∙ ap (λ them. is_among them name) e

pub number_of-keys : (name : List ℕ) (keys : List Key) (names : List (List ℕ)) → map string_bytes keys ≡ names →
    position (λ k. same_text name (string_bytes k)) keys ≡ number_of names name
unfolding number_of
number_of-keys name keys names e = sym (position-map (same_text name) string_bytes keys) ∙ ap (λ them. number_of them name) e

either : (b : Bool) (n : ℕ) (o : Option ℕ) (later : Bool) → is_some o ≡ later → is_some (cond b (Some n) o) ≡ (b || later)
either true n o later e = refl
either false n o later e = e

is_some-position_from : {X : Type 0} (test : X → Bool) (n : ℕ) (xs : List X) → is_some (position_from test n xs) ≡ list_any test xs
is_some-position_from test n [] = refl
is_some-position_from test n (x ∷ xs) = either (test x) n (position_from test (n + 1) xs) (list_any test xs) (is_some-position_from test (n + 1) xs)

pub number-known : (names : List (List ℕ)) (name : List ℕ) → is_some (number_of names name) ≡ is_among names name
unfolding number_of
number-known names name = ap is_some (position_from-zero (same_text name) names) ∙ is_some-position_from (same_text name) 0 names
