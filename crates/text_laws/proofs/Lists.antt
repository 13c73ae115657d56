-- Lists, element by element: where an element stands, and what holds of all of them.
use Rattle.std.proofs.Common.{◌≡◌, ℕ, zero, suc, ◌+◌, ◌<◌, Bool, true, false, cond, List, [], ◌∷◌, ◌++◌, length, map, find, filter_map, slice_get, Option, Some, None, IsSomeAnd, option_map, refl, ap, ◌∙◌, arith}
use Rattle.std.proofs.lemmas.Bool.{or_left, or_right}
use Rattle.std.specs.List.{AllByRecursion, enumerate_from, flat_map, list_any, range_with_len}
use Rattle.text_laws.proofs.Steps.{either-false}

-- all elements

pub all-append : {X : Type 0} (P : X → Type 0) (xs ys : List X) → AllByRecursion P xs → AllByRecursion P ys → AllByRecursion P (xs ++ ys)
all-append P [] ys h g = g
all-append P (x ∷ xs) ys (h, hs) g = (h, all-append P xs ys hs g)

pub all-flat : {X : Type 0} (P : X → Type 0) (xss : List (List X)) → AllByRecursion (AllByRecursion P) xss → AllByRecursion P (flat_map (λ xs. xs) xss)
all-flat P [] h = tt
all-flat P (xs ∷ xss) (h, hs) = all-append P xs (flat_map (λ xs. xs) xss) h (all-flat P xss hs)

pub all-from_get : {X : Type 0} (P : X → Type 0) (xs : List X) → ((n : ℕ) (x : X) → slice_get xs n ≡ Some x → P x) → AllByRecursion P xs
all-from_get P [] h = tt
all-from_get P (x ∷ xs) h = (h 0 x refl, all-from_get P xs (λ n y e. h (suc n) y e))

pub all-get : {X : Type 0} (P : X → Type 0) (xs : List X) (n : ℕ) (x : X) → AllByRecursion P xs → slice_get xs n ≡ Some x → P x
all-get P [] n x h e = cc
all-get P (y ∷ xs) zero x (h, hs) e = let same : y ≡ x = cc in rw (← same) h
all-get P (y ∷ xs) (suc n) x (h, hs) e = all-get P xs n x hs e

pub all-mapped : {X Y : Type 0} (P : Y → Type 0) (f : X → Y) (xs : List X) → AllByRecursion (λ x. P (f x)) xs → AllByRecursion P (map f xs)
all-mapped P f [] h = tt
all-mapped P f (x ∷ xs) (h, hs) = (h, all-mapped P f xs hs)

pub all-unmapped : {X Y : Type 0} (P : Y → Type 0) (f : X → Y) (xs : List X) → AllByRecursion P (map f xs) → AllByRecursion (λ x. P (f x)) xs
all-unmapped P f [] h = tt
all-unmapped P f (x ∷ xs) (h, hs) = (h, all-unmapped P f xs hs)

-- what each element gives, of those that give something
pub all-given : {X Y : Type 0} (P : Y → Type 0) (f : X → Option Y) (xs : List X) → ((x : X) (y : Y) → f x ≡ Some y → P y) → AllByRecursion P (filter_map f xs)
all-given P f [] h = tt
all-given P f (x ∷ xs) h = by (f x) refl (all-given P f xs h)
  where
    by : (o : Option _) → f x ≡ o → AllByRecursion P (filter_map f xs) → AllByRecursion P (filter_map f (x ∷ xs))
    by None e rest = rw e rest
    by (Some y) e rest = rw e (h x y e, rest)

pub mapped-given : {X Y Z : Type 0} (g : Y → Z) (f : X → Option Y) (xs : List X) → map g (filter_map f xs) ≡ filter_map (λ x. option_map g (f x)) xs
mapped-given g f [] = refl
mapped-given g f (x ∷ xs) = by (f x) refl (mapped-given g f xs)
  where
    by : (o : Option _) → f x ≡ o → map g (filter_map f xs) ≡ filter_map (λ x. option_map g (f x)) xs →
        map g (filter_map f (x ∷ xs)) ≡ filter_map (λ x. option_map g (f x)) (x ∷ xs)
    by None e rest = rw e rest
    by (Some y) e rest = rw e (ap (λ ys. g y ∷ ys) rest)

-- some element

pub any-none : {X : Type 0} (p : X → Bool) (xs : List X) → list_any p xs ≡ false → AllByRecursion (λ x. p x ≡ false) xs
any-none p [] e = tt
any-none p (x ∷ xs) e = let (here, later) = either-false (p x) (list_any p xs) e in (here, any-none p xs later)

pub any-at : {X : Type 0} (p : X → Bool) (xs : List X) (n : ℕ) (x : X) → slice_get xs n ≡ Some x → p x ≡ true → list_any p xs ≡ true
any-at p [] n x e h = cc
any-at p (y ∷ xs) zero x e h = let same : y ≡ x = cc in or_left (p y) (list_any p xs) (rw same h)
any-at p (y ∷ xs) (suc n) x e h = or_right (p y) (list_any p xs) (any-at p xs n x e h)

-- nothing was found

pub unfound : {X : Type 0} (p : X → Bool) (xs : List X) (n : ℕ) (x : X) → find p xs ≡ None → slice_get xs n ≡ Some x → p x ≡ false
unfound p [] n x none e = cc
unfound {X = X} p (y ∷ xs) n x none e = by (p y) refl none n e (λ m there h. unfound p xs m x there h)
  where
    by : (t : Bool) → p y ≡ t → cond t (Some y) (find p xs) ≡ None → (m : ℕ) → slice_get (y ∷ xs) m ≡ Some x →
        ((k : ℕ) → find p xs ≡ None → slice_get xs k ≡ Some x → p x ≡ false) → p x ≡ false
    by true test h m at rest = cc
    by false test h zero at rest = let same : y ≡ x = cc in rw (← same) test
    by false test h (suc m) at rest = rest m h at

-- numbers in a row, and the elements beside them

pub get-range : (from size n : ℕ) → n < size → slice_get (range_with_len from size) n ≡ Some (from + n)
get-range from zero n h = absurd (omega arith)
get-range from (suc size) zero h = ap Some (omega arith)
get-range from (suc size) (suc n) h = get-range (from + 1) size n (omega arith) ∙ ap Some (omega arith)

pub get-enumerated : {X : Type 0} (from : ℕ) (xs : List X) (n : ℕ) (x : X) → slice_get xs n ≡ Some x → slice_get (enumerate_from from xs) n ≡ Some (from + n, x)
get-enumerated from [] n x e = cc
get-enumerated {X = X} from (y ∷ xs) zero x e =
    let same : y ≡ x = cc in let place : from ≡ from + 0 = omega arith in rw (same, ← place) refl
get-enumerated {X = X} from (y ∷ xs) (suc n) x e =
    get-enumerated (from + 1) xs n x e ∙ ap (λ (k : ℕ). Some (k, x)) (omega arith)

-- where an element stands

pub get-append_left : {X : Type 0} (xs ys : List X) (n : ℕ) → n < length xs → slice_get (xs ++ ys) n ≡ slice_get xs n
get-append_left [] ys n h = absurd (omega arith)
get-append_left (x ∷ xs) ys zero h = refl
get-append_left (x ∷ xs) ys (suc n) h = get-append_left xs ys n (omega arith)

pub get-append_right : {X : Type 0} (xs ys : List X) (n : ℕ) → slice_get (xs ++ ys) (length xs + n) ≡ slice_get ys n
get-append_right [] ys n = ap (slice_get ys) (omega arith)
get-append_right (x ∷ xs) ys n =
    let place : length (x ∷ xs) + n ≡ suc (length xs + n) = omega arith in rw place (get-append_right xs ys n)

pub got : {X : Type 0} (xs : List X) (n : ℕ) → n < length xs → (x : X) × (slice_get xs n ≡ Some x)
got [] n h = absurd (omega arith)
got (x ∷ xs) zero h = (x, refl)
got (x ∷ xs) (suc n) h = got xs n (omega arith)

-- what was there

pub record IsOf {X : Type 0} (o : Option X) (P : X → Type 0) : Type 0 where
  pub it : X
  pub is : o ≡ Some it
  pub holds : P it

pub opened : {X : Type 0} (o : Option X) (P : X → Type 0) → IsSomeAnd o P → IsOf o P
opened None P h = absurd h
opened (Some x) P h = record { it = x; is = refl; holds = h }
