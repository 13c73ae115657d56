-- Which lists a number stands in, and lists to which numbers are added once.
use Rattle.std.specs.Prelude.{ℕ, ◌-◌, nat_eq, nat_lt, Bool, ◌&&◌, if◌then◌else◌, List, [], ◌∷◌, ◌++◌, length, get_or, set}
use Rattle.std.specs.List.{list_any}
use Rattle.text_model.specs.Names.{numbers_where}

abbrev pub holds : ℕ → List ℕ → Bool
holds n xs = list_any (nat_eq n) xs

-- the numbers of the lists in which it stands
abbrev pub takers_in : List (List ℕ) → ℕ → List ℕ
takers_in each n = numbers_where (holds n) each

abbrev pub last_is : List ℕ → ℕ → Bool
last_is xs n = nat_lt 0 (length xs) && nat_eq (get_or xs (length xs - 1) 0) n

abbrev pub pushed_once : List ℕ → ℕ → List ℕ
pushed_once xs n = if last_is xs n then xs else xs ++ n ∷ []

-- the lists at these numbers, each with the number pushed once, one after another
abbrev pub with_consumer : List (List ℕ) → List ℕ → ℕ → List (List ℕ)
with_consumer each [] n = each
with_consumer each (h ∷ hs) n = with_consumer (set each h (pushed_once (get_or each h []) n)) hs n
