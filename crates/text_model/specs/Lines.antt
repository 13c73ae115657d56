-- The lines of a records text, and what one holds. A line ends with its line feed. What stands behind the last line feed is a line
-- too, if it has a byte and the text has ended, or if it is longer than any line may be. One carriage return at its end is no
-- part of what a line holds.
use Rattle.std.specs.Prelude.{ℕ, ◌+◌, ◌-◌, ◌%◌, ◌==◌, nat_eq, nat_lt, Bool, true, false, ◌&&◌, ◌||◌, if◌then◌else◌, List, [], ◌∷◌, length, take, count_by}
use Rattle.std.specs.Char.{is_ascii_graphic}
use Rattle.std.specs.List.{ends_with, list_all}
use Rattle.text_model.specs.Pieces.{cut}
use Rattle.text_model.specs.declared.bytes.TheConstants.{CARRIAGE_RETURN, LINE_FEED, QUOTE, SPACE}
use Rattle.text_model.specs.declared.limits.TheConstants.{MOST_LINE_BYTES}

-- Whether what stands behind the last line feed is a line: of a text that has ended, where it has a byte; of one that may go on,
-- where it is longer than any line with its carriage return.
abbrev pub is_last_line : Bool → List ℕ → Bool
is_last_line true rest = nat_lt 0 (length rest)
is_last_line false rest = nat_lt (MOST_LINE_BYTES + 1) (length rest)

unfoldable pub lines_in : Bool → List (List ℕ) → List (List ℕ)
lines_in ended [] = []
lines_in ended (rest ∷ []) = if is_last_line ended rest then rest ∷ [] else []
lines_in ended (line ∷ next ∷ pieces) = line ∷ lines_in ended (next ∷ pieces)

unfoldable pub lines : Bool → List ℕ → List (List ℕ)
lines ended text = lines_in ended (cut LINE_FEED text)

-- without the carriage return of the line end
unfoldable pub content : List ℕ → List ℕ
content line = if ends_with nat_eq line (CARRIAGE_RETURN ∷ []) then take (length line - 1) line else line

abbrev pub is_printable : ℕ → Bool
is_printable b = (b == SPACE) || is_ascii_graphic b

-- printable bytes, and each quote with another one
unfoldable pub is_text : List ℕ → Bool
is_text bytes = list_all is_printable bytes && (count_by (λ b. b == QUOTE) bytes % 2 == 0)
