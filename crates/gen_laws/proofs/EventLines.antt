-- The line of an event: its bytes, its length and its cells.
use Rattle.std.proofs.Common.{◌≡◌, ℕ, zero, suc, ◌+◌, ◌^◌, ◌%◌, ◌<◌, ◌≤◌, ◌==◌, Bool, true, false, if◌then◌else◌, List, [], ◌∷◌, ◌++◌, length, codes, decimal, Option, Some, None, Ok, refl, ap, ◌∙◌, arith, append-nil, length-append}
use Rattle.std.proofs.lemmas.Fmt.{length-decimal-le}
use Rattle.std.specs.List.{AllByRecursion}
use Rattle.event_records.proofs.Cuts.{cut-found, cut-whole}
use Rattle.event_records.specs.Cutting.{HasNo}
use Rattle.gen_laws.proofs.Bytes.{IsOfCell, IsOfLine, IsOfList, IsOfNumber, all_both, all_of, cell_in_line, cell_no_comma, has-no, list_in_cell, number_in_list, of_digits}
use Rattle.gen_laws.proofs.ListCells.{AreWritten, cell-list, list-bytes, list-short}
use Rattle.gen_laws.proofs.Numbers.{decimal-digits}
use Rattle.gen_laws.proofs.Written.{written-hit}
use Rattle.hive_gen.specs.Draws.{drawn, next_state}
use Rattle.hive_gen.specs.EventTexts.{cell_text, event_line}
use Rattle.hive_gen.specs.Events.{divisor_of, event_of, hits_count, hits_drawn, hits_from, hits_of, lacks_hits}
use Rattle.hive_model.specs.declared.algorithm.Raw.{Raw}
use Rattle.hive_model.specs.declared.product.Kind.TheVariants as kinds
use Rattle.hive_model.specs.declared.product.Product.{Product}
use Rattle.hive_model.specs.declared.product.Product.TheVariants as product
use Rattle.text_model.specs.Pieces.{cut}
use Rattle.text_model.specs.Products.{cell_of}
use Rattle.text_model.specs.declared.bytes.TheConstants.{COMMA, LINE_FEED}

-- the hits

hits-written : (count state : ℕ) → AreWritten (hits_from count state)
unfolding hits_from
hits-written zero state = tt
hits-written (suc count) state = (
  written-hit (drawn (next_state state)),
  hits-written count
      (next_state state),
)

hits-length : (count state : ℕ) → length (hits_from count state) ≡ count
unfolding hits_from
hits-length zero state = refl
hits-length (suc count) state = ap suc (hits-length count (next_state state))

abbrev pub hits_raw : Raw
hits_raw = record { name = codes "hits"; kind = kinds.List }

-- what is needed of the cell of the hits
pub record IsHitsCell (cell : Option Product) : Type 0 where
  pub read : cell_of (hits_raw, cell_text cell) ≡ Ok cell
  pub bytes : AllByRecursion IsOfCell (cell_text cell)
  pub short : length (cell_text cell) ≤ 176

absent-cell : IsHitsCell None
unfolding cell_of
absent-cell = record {
  read = refl;
  bytes = ((omega arith, omega arith, omega arith, omega arith), tt);
  short = omega arith;
}

drawn-cell : (state : ℕ) → IsHitsCell (Some (product.List (hits_drawn state)))
drawn-cell state =
    let count = hits_count (drawn (next_state state)) in
    let hits = hits_drawn state in
    let long : length hits ≡ count = hits-length count (next_state state) in
    let low : count ≤ 8 = omega arith in
    let some : 0 < count = omega arith in
    let ws = hits-written count (next_state state) in
    let short = list-short hits ws in
    record {
      read = cell-list (codes "hits") hits (omega (arith, long, some)) (omega (arith, long, low)) ws;
      bytes = all_of IsOfList IsOfCell list_in_cell (cell_text (Some (product.List hits)))
          (list-bytes hits ws);
      short = omega (arith, long, low, short);
    }

pub hits-cell : (number state : ℕ) → IsHitsCell (hits_of number state)
hits-cell number state = by (lacks_hits number)
  where
    by : (t : Bool) → IsHitsCell (if t then None else Some (product.List (hits_drawn state)))
    by true = absent-cell
    by false = drawn-cell state

-- the line

abbrev pub divisor : ℕ → List ℕ
divisor number = decimal (divisor_of number)

-- without its line feed
abbrev pub line_text : ℕ → ℕ → List ℕ
line_text number state = decimal number ++ (COMMA ∷ (cell_text
    (hits_of number state) ++ COMMA ∷ divisor number))

-- and as cells
abbrev pub event_cells : ℕ → ℕ → List (List ℕ)
event_cells number state = decimal number ∷ cell_text (hits_of number state) ∷ divisor number ∷ []

pub event-line : (number state : ℕ) → event_line (event_of number state)
    ≡ line_text number state ++ LINE_FEED ∷ []
unfolding event_line event_of
event-line number state =
    ap (λ text. (decimal number ++ (COMMA ∷ (cell_text
    (hits_of number state) ++ COMMA ∷ text))) ++ LINE_FEED ∷ [])
    (append-nil (divisor number))

pub decimal-in_list : (n : ℕ) → n < 2 ^ 64 → AllByRecursion IsOfList (decimal n)
decimal-in_list n h = all_of IsOfNumber IsOfList number_in_list (decimal n)
    (of_digits (decimal n) (decimal-digits n h))

decimal-bytes : (n : ℕ) → n < 2 ^ 64 → AllByRecursion IsOfCell (decimal n)
decimal-bytes n h = all_of IsOfList IsOfCell list_in_cell (decimal n) (decimal-in_list n h)

divisor-low : (number : ℕ) → divisor_of number ≤ number
divisor-low number = by (number % 25 == 0)
  where
    by : (t : Bool) → (if t then 0 else number) ≤ number
    by true = omega arith
    by false = omega arith

-- three cells with commas between

abbrev three : List ℕ → List ℕ → List ℕ → List ℕ
three front middle back = front ++ (COMMA ∷ (middle ++ COMMA ∷ back))

three-bytes : (front middle back : List ℕ) → AllByRecursion IsOfCell front → AllByRecursion IsOfCell middle →
    AllByRecursion IsOfCell back →
    AllByRecursion IsOfLine (three front middle back)
three-bytes front middle back f m b =
    let comma : IsOfLine COMMA = (omega arith, omega arith, omega arith) in
    let last = all_of IsOfCell IsOfLine cell_in_line back b in
    let later = all_both IsOfLine middle (COMMA ∷ back) (all_of IsOfCell IsOfLine cell_in_line middle m)
    (comma, last) in
    let first = all_of IsOfCell IsOfLine cell_in_line front f in
    all_both IsOfLine front (COMMA ∷ (middle ++ COMMA ∷ back)) first (comma, later)

no_comma : (text : List ℕ) → AllByRecursion IsOfCell text → HasNo COMMA text
no_comma text all = has-no IsOfCell COMMA cell_no_comma text all

three-cells : (front middle back : List ℕ) → AllByRecursion IsOfCell front → AllByRecursion IsOfCell middle →
    AllByRecursion IsOfCell back →
    cut COMMA (three front middle back) ≡ front ∷ middle ∷ back ∷ []
three-cells front middle back f m b =
    cut-found COMMA front (middle ++ COMMA ∷ back) (no_comma front f)
    ∙ ap (λ cells. front ∷ cells) (cut-found COMMA middle back (no_comma middle m)
    ∙ ap (λ cells. middle ∷ cells) (cut-whole COMMA back (no_comma back b)))

three-length : (front middle back : List ℕ) → length (three front middle back)
    ≡ length front + length middle + length back + 2
three-length front middle back =
    let outer : length (three front middle back) ≡ length front + length (COMMA ∷ (middle ++ COMMA ∷ back)) =
    length-append front (COMMA ∷ (middle ++ COMMA ∷ back)) in
    let inner : length (middle ++ COMMA ∷ back) ≡ length middle + length (COMMA ∷ back) =
    length-append middle (COMMA ∷ back) in
    omega (arith, outer, inner)

divisor-wide : (number : ℕ) → number < 2 ^ 63 → divisor_of number < 2 ^ 64
divisor-wide number h = let low = divisor-low number in omega (arith, h, low)

pub line-bytes : (number state : ℕ) → number < 2 ^ 63 → AllByRecursion IsOfLine (line_text number state)
line-bytes number state h =
    three-bytes (decimal number) (cell_text (hits_of number state)) (divisor number)
    (decimal-bytes number (omega arith))
    (hits-cell number state).bytes (decimal-bytes (divisor_of number) (divisor-wide number h))

pub line-cells : (number state : ℕ) → number < 2 ^ 63 →
    cut COMMA (line_text number state) ≡ event_cells number state
line-cells number state h =
    three-cells (decimal number) (cell_text (hits_of number state)) (divisor number)
    (decimal-bytes number (omega arith))
    (hits-cell number state).bytes (decimal-bytes (divisor_of number) (divisor-wide number h))

pub line-short : (number state : ℕ) → number < 2 ^ 63 → length (line_text number state) ≤ 218
line-short number state h =
    let is = three-length (decimal number) (cell_text (hits_of number state)) (divisor number) in
    let front = length-decimal-le 20 number (omega arith) (omega arith) (omega arith) in
    let low = divisor-wide number h in
    let back = length-decimal-le 20 (divisor_of number) (omega arith) (omega (arith, low)) low in
    let middle = (hits-cell number state).short in
    omega (arith, is, front, back, middle)

pub line-some : (number state : ℕ) → 0 < length (line_text number state)
line-some number state =
    let is = three-length (decimal number) (cell_text (hits_of number state)) (divisor number) in
    omega (arith, is)

pub divisor-signed : (number : ℕ) → number < 2 ^ 63 → divisor_of number < 2 ^ 63
divisor-signed number h = let low = divisor-low number in omega (arith, h, low)
