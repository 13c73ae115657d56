-- Maps that agree on each element, and what holds of each element of a part.
use Rattle.std.proofs.Common.{◌≡◌, ℕ, suc, zero, List, [], ◌∷◌, map, take, refl}
use Rattle.std.specs.List.{AllByRecursion, flat_map}

-- functions that agree on each element
pub map-agree : {X Y : Type 0} (f g : X → Y) (P : X → Type 0) → ((x : X) → P x → f x ≡ g x) → (xs : List X) → AllByRecursion P xs → map f xs ≡ map g xs
map-agree f g P same [] all = refl
map-agree f g P same (x ∷ xs) all = rw (same x all.0, map-agree f g P same xs all.1) refl

pub flat_map-agree : {X Y : Type 0} (f g : X → List Y) (P : X → Type 0) → ((x : X) → P x → f x ≡ g x) → (xs : List X) → AllByRecursion P xs →
    flat_map f xs ≡ flat_map g xs
flat_map-agree f g P same [] all = refl
flat_map-agree f g P same (x ∷ xs) all = rw (same x all.0, flat_map-agree f g P same xs all.1) refl

pub AllByRecursion-take : {X : Type 0} (P : X → Type 0) (n : ℕ) (xs : List X) → AllByRecursion P xs → AllByRecursion P (take n xs)
AllByRecursion-take P zero xs all = tt
AllByRecursion-take P (suc n) [] all = tt
AllByRecursion-take P (suc n) (x ∷ xs) all = (all.0, AllByRecursion-take P n xs all.1)

pub AllByRecursion-map : {X : Type 0} (P Q : X → Type 0) → ((x : X) → P x → Q x) → (xs : List X) → AllByRecursion P xs → AllByRecursion Q xs
AllByRecursion-map P Q h [] all = tt
AllByRecursion-map P Q h (x ∷ xs) all = (h x all.0, AllByRecursion-map P Q h xs all.1)
