-- A text is read in steps. Each step's value goes to the next one, and the first refusal ends the reading.
use Rattle.std.specs.Prelude.{Bool, List, [], ◌∷◌, Option, Some, None, Result, Ok, Err, if◌then◌else◌}
use Rattle.std.specs.Option.{option_map_or, option_or}

infixl 10 ◌>>=◌
abbrev pub ◌>>=◌ : {A B E : Type 0} → Result A E → (A → Result B E) → Result B E
(Ok x) >>= next = next x
(Err e) >>= next = Err e

-- the value, if there is one
abbrev pub or_refuse : {A E : Type 0} → E → Option A → Result A E
or_refuse e (Some x) = Ok x
or_refuse e None = Err e

-- goes on unless the test says that this refusal applies
abbrev pub refuse_if : {E : Type 0} → Bool → E → Result (Unit {0}) E
refuse_if applies e = if applies then Err e else Ok tt

-- goes on unless there is something to refuse
abbrev pub refuse_some : {A E : Type 0} → (A → E) → Option A → Result (Unit {0}) E
refuse_some refusal found = option_map_or (λ x. Err (refusal x)) found (Ok tt)

-- goes on unless a refusal was found
abbrev pub refuse_found : {E : Type 0} → Option E → Result (Unit {0}) E
refuse_found found = refuse_some (λ e. e) found

-- the refusal of a part, told as one of the whole
abbrev pub map_err : {A E F : Type 0} → (E → F) → Result A E → Result A F
map_err told (Ok x) = Ok x
map_err told (Err e) = Err (told e)

-- the first that an element gives, in the order of the list
abbrev pub find_map : {A B : Type 0} → (A → Option B) → List A → Option B
find_map f [] = None
find_map f (x ∷ xs) = option_or (f x) (find_map f xs)

abbrev pub first_of : {A : Type 0} → List (Option A) → Option A
first_of found = find_map (λ it. it) found

-- what each element gives, or the first refusal in the order of the list
unfoldable pub collect : {A B E : Type 0} → (A → Result B E) → List A → Result (List B) E
collect f [] = Ok []
collect f (x ∷ xs) = f x >>= λ y. collect f xs >>= λ ys. Ok (y ∷ ys)
