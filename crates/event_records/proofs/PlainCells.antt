-- A line of printable bytes without a quote has as its cells its pieces between commas.
use Rattle.std.proofs.Common.{◌≡◌, ◌≢◌, ℕ, ◌+◌, ◌<◌, ◌==◌, Bool, true, false, cond, not, List, [], ◌∷◌, ◌++◌, length, count_by, Some, refl, ap, sym, ◌∙◌, arith, append_assoc, append-nil}
use Rattle.std.proofs.lemmas.Bool.{and_parts}
use Rattle.std.proofs.lemmas.List.Sums.{sum_by-cons}
use Rattle.std.proofs.lemmas.Bool.Decides.{nat_tests}
use Rattle.std.specs.List.{list_all}
use Rattle.std.specs.Option.{option_map_or}
use Rattle.csv.specs.Machine.{Read, next_record, step}
use Rattle.csv.specs.Reading.{default_config}
use Rattle.csv.specs.declared.parser.State.{State}
use Rattle.csv.specs.declared.parser.State.TheVariants as st
use Rattle.csv.specs.declared.parser.Action.TheVariants as act
use Rattle.text_model.specs.Cells.{cells_of}
use Rattle.text_model.specs.Lines.{is_printable}
use Rattle.text_model.specs.Pieces.{cut}
use Rattle.text_model.specs.declared.bytes.TheConstants.{COMMA, QUOTE}
use Rattle.event_records.proofs.Cuts.{before_first, before_first-nothing, pieces_of}

-- bytes that are neither quotes nor line ends
abbrev pub IsPlain : List ℕ → Type 0
IsPlain [] = Unit {0}
IsPlain (b ∷ bs) = (b ≢ 34) × (b ≢ 13) × (b ≢ 10) × IsPlain bs

printable-no_ends : (b : ℕ) → is_printable b ≡ true → (b ≢ 13) × (b ≢ 10)
printable-no_ends b h = (grind (arith, nat_tests), grind (arith, nat_tests))

no_quote : (b : ℕ) (bs : List ℕ) → count_by (λ b. b == QUOTE) (b ∷ bs) ≡ 0 → (b ≢ 34) × (count_by (λ b. b == QUOTE) bs ≡ 0)
no_quote b bs h = by (b == QUOTE) refl (sym (sum_by-cons (λ b. cond (b == QUOTE) 1 0) b bs) ∙ h)
  where
    by : (t : Bool) → (b == QUOTE) ≡ t → cond t 1 0 + count_by (λ b. b == QUOTE) bs ≡ 0 →
        (b ≢ 34) × (count_by (λ b. b == QUOTE) bs ≡ 0)
    by true e h = absurd (omega arith)
    by false e h = (grind (arith, nat_tests), omega (arith, h))

pub IsPlain-from : (bytes : List ℕ) → list_all is_printable bytes ≡ true → count_by (λ b. b == QUOTE) bytes ≡ 0 → IsPlain bytes
IsPlain-from [] p q = tt
IsPlain-from (b ∷ bs) p q =
    let parts = and_parts (is_printable b) (list_all is_printable bs) p in
    let ends = printable-no_ends b parts.0 in
    let rest = no_quote b bs q in
    (rest.0, ends.0, ends.1, IsPlain-from bs parts.1 rest.1)

-- within a cell, or at the start of a further one
abbrev inside : Bool → State
inside true = st.InField
inside false = st.StartField

comma-step : (within : Bool) → step default_config (inside within) 44 ≡ (st.StartField, act.EndField)
comma-step true = refl
comma-step false = refl

byte-step : (within : Bool) (b : ℕ) → b ≢ 34 → b ≢ 13 → b ≢ 10 → (b == 44) ≡ false → step default_config (inside within) b ≡ (st.InField, act.Copy)
byte-step within b q r f e =
    let q : (b == 34) ≡ false = grind (arith, nat_tests) in
    let r : (b == 13) ≡ false = grind (arith, nat_tests) in
    let f : (b == 10) ≡ false = grind (arith, nat_tests) in
    by within q r f
  where
    by : (within : Bool) → (b == 34) ≡ false → (b == 13) ≡ false → (b == 10) ≡ false → step default_config (inside within) b ≡ (st.InField, act.Copy)
    by true q r f = rw (e, r, f) refl
    by false q r f = rw (q, e, r, f) refl

inside-cells : (within : Bool) (cells : List (List ℕ)) (cell line : List ℕ) → IsPlain line →
    next_record default_config (inside within) cells cell line ≡ Some (cells ++ before_first cell (cut 44 line), st.StartRecord, [])
unfolding next_record cut
inside-cells true cells cell [] plain = rw (append-nil cell) refl
inside-cells false cells cell [] plain = rw (append-nil cell) refl
inside-cells within cells cell (b ∷ bs) plain =
    by (b == 44) refl (inside-cells false (cells ++ cell ∷ []) [] bs plain.3) (inside-cells true cells (cell ++ b ∷ []) bs plain.3)
  where
    by : (t : Bool) → (b == 44) ≡ t →
        next_record default_config st.StartField (cells ++ cell ∷ []) [] bs ≡ Some ((cells ++ cell ∷ []) ++ before_first [] (cut 44 bs), st.StartRecord, []) →
        next_record default_config st.InField cells (cell ++ b ∷ []) bs ≡ Some (cells ++ before_first (cell ++ b ∷ []) (cut 44 bs), st.StartRecord, []) →
        next_record default_config (inside within) cells cell (b ∷ bs) ≡ Some (cells ++ before_first cell (cut 44 (b ∷ bs)), st.StartRecord, [])
    by true e next within_cell =
        let same : b ≡ 44 = grind (arith, nat_tests) in
        let stepped : step default_config (inside within) b ≡ (st.StartField, act.EndField) = rw same (comma-step within) in
        rw (stepped, next, e, before_first-nothing 44 bs, append_assoc cells (cell ∷ []) (cut 44 bs), append-nil cell) refl
    by false e next within_cell =
        let stepped = byte-step within b plain.0 plain.1 plain.2 e in
        let p = pieces_of 44 bs in
        rw (stepped, within_cell, e, p.is, append_assoc cell (b ∷ []) p.head) refl

opening-step : (b : ℕ) → b ≢ 13 → b ≢ 10 → step default_config st.StartRecord b ≡ step default_config st.StartField b
opening-step b r f =
    let r : (b == 13) ≡ false = grind (arith, nat_tests) in
    let f : (b == 10) ≡ false = grind (arith, nat_tests) in
    rw (r, f) refl

pub cells-plain : (line : List ℕ) → 0 < length line → list_all is_printable line ≡ true → count_by (λ b. b == QUOTE) line ≡ 0 →
    cells_of line ≡ cut COMMA line
unfolding cells_of next_record
cells-plain [] some p q = absurd (omega arith)
cells-plain (b ∷ bs) some p q =
    let plain = IsPlain-from (b ∷ bs) p q in
    let stepped = opening-step b plain.1 plain.2 in
    let read = inside-cells false [] [] (b ∷ bs) plain in
    let opened : next_record default_config st.StartRecord [] [] (b ∷ bs) ≡ next_record default_config st.StartField [] [] (b ∷ bs) = rw stepped refl in
    ap (λ o. option_map_or (λ (it : Read). it.0) o []) (opened ∙ read) ∙ before_first-nothing 44 (b ∷ bs)

-- no byte of another kind is no byte that isn't printable
pub none-other : (bytes : List ℕ) → (count_by (λ b. not (is_printable b)) bytes == 0) ≡ list_all is_printable bytes
none-other [] = refl
none-other (b ∷ bs) = by (is_printable b) refl (none-other bs)
  where
    by : (t : Bool) → is_printable b ≡ t → (count_by (λ b. not (is_printable b)) bs == 0) ≡ list_all is_printable bs →
        (count_by (λ b. not (is_printable b)) (b ∷ bs) == 0) ≡ list_all is_printable (b ∷ bs)
    by true e later =
        let n : count_by (λ b. not (is_printable b)) (b ∷ bs) ≡ count_by (λ b. not (is_printable b)) bs =
        sum_by-cons (λ b. cond (not (is_printable b)) 1 0) b bs ∙ rw e (omega arith) in
        rw (n, e) later
    by false e later =
        let n : count_by (λ b. not (is_printable b)) (b ∷ bs) ≡ 1 + count_by (λ b. not (is_printable b)) bs =
        sum_by-cons (λ b. cond (not (is_printable b)) 1 0) b bs ∙ rw e refl in
        let other : (count_by (λ b. not (is_printable b)) (b ∷ bs) == 0) ≡ false = grind (arith, nat_tests) in
        rw (other, e) refl
