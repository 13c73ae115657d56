-- The fields of a line that are left, between single spaces. None are left where the last one was taken.
use Rattle.std.specs.Prelude.{ℕ, List, [], Option, Some, None}
use Rattle.std.specs.Borrow.{Bor}
use Rattle.text_model.specs.Pieces.{cut}
use Rattle.text_model.specs.declared.bytes.TheConstants.{SPACE}

abbrev pub left : Option (Bor (List ℕ)) → List (List ℕ)
left None = []
left (Some text) = cut SPACE text.now
