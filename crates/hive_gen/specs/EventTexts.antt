-- The text of generated events: the header, and a line for each event, its number first. Cells stand behind
-- commas: `?` for what is absent, a list's numbers with one space between, a number in decimal.
use Rattle.std.specs.Prelude.{codes, decimal, ℕ, List, [], ◌∷◌, ◌++◌, Option, Some, None}
use Rattle.std.specs.Fmt.{signed_decimal}
use Rattle.std.specs.List.{flat_map}
use Rattle.hive_gen.specs.Events.{events_of}
use Rattle.hive_model.specs.EventRecord.{EventRecord}
use Rattle.hive_model.specs.declared.product.Product.{Product}
use Rattle.hive_model.specs.declared.product.Product.TheVariants as product
use Rattle.text_model.specs.Report.{numbers_text}
use Rattle.text_model.specs.declared.bytes.TheConstants.{COMMA, LINE_FEED, QUESTION_MARK}

abbrev pub cell_text : Option Product → List ℕ
cell_text None = QUESTION_MARK ∷ []
cell_text (Some (product.Num x)) = signed_decimal x
cell_text (Some (product.List xs)) = numbers_text xs

abbrev pub further_cell : Option Product → List ℕ
further_cell cell = COMMA ∷ cell_text cell

unfoldable pub event_line : EventRecord → List ℕ
event_line it = decimal it.event ++ flat_map further_cell it.cells ++ LINE_FEED ∷ []

abbrev pub header : List ℕ
header = codes "event,hits,div\n"

-- `gen records` with a start and a number of events
unfoldable pub records_text : ℕ → ℕ → List ℕ
records_text start events = header ++ flat_map event_line (events_of start events)
