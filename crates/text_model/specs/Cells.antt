-- The cells of a line, as `csv` reads them: cut at commas, `"` as the quote, doubled inside quotes, and nothing trimmed. The text
-- that is read is what the line holds, so a quote that stands open at its end ends there.
use Rattle.std.specs.Prelude.{ℕ, List, []}
use Rattle.std.specs.Option.{option_map_or}
use Rattle.csv.specs.Machine.{Read, next_record}
use Rattle.csv.specs.Reading.{default_config}
use Rattle.csv.specs.declared.parser.State.TheVariants as state

unfoldable pub cells_of : List ℕ → List (List ℕ)
cells_of content = option_map_or (λ (it : Read). it.0) (next_record default_config state.StartRecord [] [] content) []
