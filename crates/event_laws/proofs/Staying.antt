-- What stays when more has run: an option that is filled, each option of a list, and a test that holds.
use Rattle.std.proofs.Common.{◌≡◌, ℕ, zero, suc, Bool, true, false, ◌||◌, is_some, List, [], ◌∷◌, ◌++◌, map, slice_get, Option, Some, None, option_map, refl, sym, ap, ◌∙◌, subst₂}
use Rattle.std.specs.List.{AllZip}
use Rattle.std.specs.Option.{option_flatten}
use Rattle.std.proofs.lemmas.Bool.{false≢true, or_left, or_right}
use Rattle.hive_model.specs.Agreement.{AreWithin}
use Rattle.hive_model.specs.Results.{Results, ran_at, outcome_of, outcomes, outcome_at}
use Rattle.hive_model.specs.declared.outcome.Outcome.{Outcome}

-- an option that is filled stays as it is
abbrev pub Stays : {X : Type 0} → Option X → Option X → Type 0
Stays None later = Unit {0}
Stays (Some x) later = later ≡ Some x

pub stays-same : {X : Type 0} (o : Option X) → Stays o o
stays-same None = tt
stays-same (Some x) = refl

pub stays-from : {X : Type 0} (o later : Option X) → ((x : X) → o ≡ Some x → later ≡ Some x) → Stays o later
stays-from None later h = tt
stays-from (Some x) later h = h x refl

pub stays-at : {X : Type 0} (o later : Option X) (x : X) → Stays o later → o ≡ Some x → later ≡ Some x
stays-at None later x h e = cc
stays-at (Some y) later x h e = h ∙ e

pub stays-filled : {X : Type 0} (o later : Option X) → Stays o later → is_some o ≡ true → later ≡ o
stays-filled None later h e = absurd (false≢true e)
stays-filled (Some x) later h e = h

pub stays-map : {X Y : Type 0} (f : X → Y) (o later : Option X) → Stays o later → Stays (option_map f o) (option_map f later)
stays-map f None later h = tt
stays-map f (Some x) later h = ap (option_map f) h

-- lists of options, place by place

abbrev pub AllStay : {X : Type 0} → List (Option X) → List (Option X) → Type 0
AllStay xs later = AllZip Stays xs later

pub all_stay-same : {X : Type 0} (xs : List (Option X)) → AllStay xs xs
all_stay-same [] = tt
all_stay-same (x ∷ xs) = (stays-same x, all_stay-same xs)

pub all_stay-append : {X : Type 0} (xs later ys after : List (Option X)) → AllStay xs later → AllStay ys after → AllStay (xs ++ ys) (later ++ after)
all_stay-append [] [] ys after h k = k
all_stay-append [] (z ∷ later) ys after h k = absurd h
all_stay-append (x ∷ xs) [] ys after h k = absurd h
all_stay-append (x ∷ xs) (z ∷ later) ys after h k = (h.0, all_stay-append xs later ys after h.1 k)

pub all_stay-at : {X : Type 0} (xs later : List (Option X)) (i : ℕ) → AllStay xs later → Stays (option_flatten (slice_get xs i)) (option_flatten (slice_get later i))
all_stay-at [] [] i h = tt
all_stay-at [] (z ∷ later) i h = absurd h
all_stay-at (x ∷ xs) [] i h = absurd h
all_stay-at (x ∷ xs) (z ∷ later) zero h = h.0
all_stay-at (x ∷ xs) (z ∷ later) (suc i) h = all_stay-at xs later i h.1

-- maps over one list, by what holds at each element
pub all_zip-map : {X Y Z : Type 0} (R : Y → Z → Type 0) (f : X → Y) (g : X → Z) → ((x : X) → R (f x) (g x)) → (xs : List X) → AllZip R (map f xs) (map g xs)
all_zip-map R f g h [] = tt
all_zip-map R f g h (x ∷ xs) = (h x, all_zip-map R f g h xs)

-- a test
pub or-stays : (a b c d : Bool) → (a ≡ true → c ≡ true) → (b ≡ true → d ≡ true) → (a || b) ≡ true → (c || d) ≡ true
or-stays true b c d f g e = or_left c d (f refl)
or-stays false b c d f g e = or_right c d (g e)

-- results that lie within others, number by number

pub within-at : (ran others : Results) (number : ℕ) → AreWithin ran others → Stays (ran_at ran number) (ran_at others number)
within-at ran others number h = stays-from (ran_at ran number) (ran_at others number) (h number)

pub outcome_at-outcomes : (ran : Results) (number : ℕ) → outcome_at (outcomes ran) number ≡ outcome_of (ran_at ran number)
outcome_at-outcomes [] number = refl
outcome_at-outcomes (it ∷ ran) zero = refl
outcome_at-outcomes (it ∷ ran) (suc number) = outcome_at-outcomes ran number

-- the same of outcomes alone
abbrev pub AreOutcomesWithin : List (Option Outcome) → List (Option Outcome) → Type 0
AreOutcomesWithin ran others = (number : ℕ) → Stays (outcome_at ran number) (outcome_at others number)

pub outcomes-within : (ran others : Results) → AreWithin ran others → AreOutcomesWithin (outcomes ran) (outcomes others)
outcomes-within ran others h number =
    subst₂ (λ a b. Stays a b) (sym (outcome_at-outcomes ran number)) (sym (outcome_at-outcomes others number))
    (stays-map (λ x. x.outcome) (ran_at ran number) (ran_at others number) (within-at ran others number h))
