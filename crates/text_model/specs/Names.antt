-- A name is a letter and at most 63 letters, digits or `_` behind it. Names in a list are numbered from 0.
use Rattle.std.specs.Prelude.{ℕ, nat_le, Bool, false, ◌&&◌, if◌then◌else◌, List, [], ◌∷◌, ◌++◌, length, position, filter_map, slice_get, unwrap_or, Option, Some, None}
use Rattle.std.specs.Char.{is_ascii_alphabetic}
use Rattle.std.specs.List.{enumerate_from, list_all, list_any}
use Rattle.hive_model.specs.Same.{same_text}
use Rattle.text_model.specs.Tokens.{is_word}
use Rattle.text_model.specs.declared.limits.TheConstants.{MOST_NAME_BYTES}

unfoldable pub is_name : List ℕ → Bool
is_name [] = false
is_name (b ∷ bs) = is_ascii_alphabetic b && list_all is_word bs && nat_le (length (b ∷ bs)) MOST_NAME_BYTES

abbrev pub is_among : List (List ℕ) → List ℕ → Bool
is_among names name = list_any (same_text name) names

-- the number of the first that has the name
unfoldable pub number_of : List (List ℕ) → List ℕ → Option ℕ
number_of names name = position (same_text name) names

-- the numbers of the elements that pass the test
abbrev pub numbers_where : {X : Type 0} → (X → Bool) → List X → List ℕ
numbers_where {X} test xs = filter_map (λ (it : ℕ × X). if test it.1 then Some it.0 else None) (enumerate_from 0 xs)

-- the name of that number, and nothing where there is none
abbrev pub name_at : List (List ℕ) → ℕ → List ℕ
name_at names number = unwrap_or (slice_get names number) []

-- the first element that is the same as one before it, where these stand before the list
unfoldable pub repeated_behind : {X : Type 0} → (X → X → Bool) → List X → List X → Option X
repeated_behind same before [] = None
repeated_behind same before (x ∷ xs) =
    if list_any (same x) before then Some x else repeated_behind same (before ++ x ∷ []) xs

-- the first element that is the same as one before it
abbrev pub first_repeated : {X : Type 0} → (X → X → Bool) → List X → Option X
first_repeated same xs = repeated_behind same [] xs
