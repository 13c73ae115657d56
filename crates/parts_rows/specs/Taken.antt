-- The slots and what a row keeps beside them: which are taken.
use Rattle.std.specs.Prelude.{◌≡◌, ℕ, Bool, List, is_some, map}
use Rattle.whiteboard.specs.Slots.{Slots}

abbrev pub taken_in : Slots → List Bool
taken_in board = map is_some board.slots

abbrev pub IsBoardOf : ℕ → Slots → List Bool → Type 0
IsBoardOf handles board taken = (board.handles ≡ handles) × (taken ≡ taken_in board)
