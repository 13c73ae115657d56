-- The name of an algorithm by its number.
use Rattle.std.specs.Prelude.{ℕ, List, [], slice_get}
use Rattle.std.specs.Option.{option_map_or}
use Rattle.text_model.specs.Producers.{Need}

abbrev pub name_at : List Need → ℕ → List ℕ
name_at needs number = option_map_or (λ (a : Need). a.name) (slice_get needs number) []
