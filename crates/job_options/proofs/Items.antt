-- The elements of arrays, beside the values that they stand for.
use Rattle.std.proofs.Common.{◌≡◌, List, [], ◌∷◌, map, Some, option_map, refl, ap}
use Rattle.toml.specs.Data.{Data, as_array}
use Rattle.toml.specs.View.{items_view, view}
use Rattle.toml.specs.declared.value.Value.{Value}
use Rattle.text_model.specs.Rules.{listed}

pub listed-items_view : (vs : List Value) → listed (items_view vs) ≡ map view vs
listed-items_view [] = refl
listed-items_view (v ∷ vs) = ap (λ ds. view v ∷ ds) (listed-items_view vs)

-- the elements that were found
pub listed-found : (held : Data) (vs xs : List Value) → Some (items_view vs) ≡ as_array held → xs ≡ vs →
    Some (map view xs) ≡ option_map listed (as_array held)
listed-found held vs xs seen same = rw (same, ← seen, listed-items_view vs) refl
