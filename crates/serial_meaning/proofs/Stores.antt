-- The places of the event store, one after another.
use Rattle.std.proofs.Common.{◌≡◌, ℕ, zero, suc, ◌+◌, List, [], ◌∷◌, Option, Some, None, map, slice_get, refl, sym, ap, ◌∙◌, add-one}
use Rattle.std.specs.List.{range_with_len}
use Rattle.hive_model.specs.Enabled.{product_in}
use Rattle.hive_model.specs.Results.{fitted}
use Rattle.hive_model.specs.declared.product.Product.{Product}

map-shifted : {X : Type 0} (f : ℕ → X) (a n : ℕ) →
    map f (range_with_len (a + 1) n) ≡ map (λ k. f (suc k)) (range_with_len a n)
map-shifted f a zero = refl
map-shifted f a (suc n) =
    ap (λ k. f k ∷ map f (range_with_len (a + 1 + 1) n)) (add-one a)
    ∙ ap (λ them. f (suc a) ∷ them) (map-shifted f (a + 1) n)

-- so many places, each by its number
pub fitted-cells : (count : ℕ) (cells : List (Option Product)) →
    fitted count cells ≡ map (product_in cells) (range_with_len 0 count)
fitted-cells zero cells = refl
fitted-cells (suc count) [] =
    ap (λ them. None ∷ them) (fitted-cells count [] ∙ sym (map-shifted (product_in []) 0 count))
fitted-cells (suc count) (cell ∷ cells) =
    ap (λ them. cell ∷ them) (fitted-cells count cells ∙ sym (map-shifted (product_in (cell ∷ cells)) 0 count))

pub fitted-outputs : (count : ℕ) (outputs : List Product) →
    fitted count (map Some outputs) ≡ map (slice_get outputs) (range_with_len 0 count)
fitted-outputs zero outputs = refl
fitted-outputs (suc count) [] =
    ap (λ them. None ∷ them) (fitted-outputs count [] ∙ sym (map-shifted (slice_get []) 0 count))
fitted-outputs (suc count) (p ∷ outputs) =
    ap (λ them. Some p ∷ them) (fitted-outputs count outputs ∙ sym (map-shifted (slice_get (p ∷ outputs)) 0 count))
