-- A text that may go on and has no refused line isn't long, and no text has many records.
use Rattle.std.proofs.Common.{◌≡◌, ℕ, ◌+◌, ◌-◌, ◌*◌, ◌<◌, ◌≤◌, ◌==◌, nat_eq, nat_lt, nat_le, Bool, true, false, List, [], ◌∷◌, length, take, Option, None, Result, Ok, Err, if◌then◌else◌, refl, ap, ◌∙◌, arith}
use Rattle.std.proofs.lemmas.Bool.Decides.{nat_tests}
use Rattle.std.proofs.lemmas.List.{length-take}
use Rattle.std.specs.List.{ends_with}
use Rattle.hive_model.specs.Job.{Job}
use Rattle.hive_model.specs.declared.algorithm.Raw.{Raw}
use Rattle.text_model.specs.Lines.{content, is_last_line, lines, lines_in}
use Rattle.text_model.specs.Pieces.{cut, onto}
use Rattle.text_model.specs.Records.{Known, after_line, at_end, joined, known, line_of, most_events, opening, read_lines, so_far}
use Rattle.text_model.specs.Steps.{◌>>=◌, refuse_if}
use Rattle.text_model.specs.declared.bytes.TheConstants.{CARRIAGE_RETURN, LINE_FEED}
use Rattle.text_model.specs.declared.limits.TheConstants.{MOST_LINES, MOST_LINE_BYTES, MOST_RECORDS_BYTES}
use Rattle.text_model.specs.declared.line.Line.{Line}
use Rattle.text_model.specs.declared.line.Line.TheVariants.{Blank, Header, Record}
use Rattle.text_model.specs.declared.line.Progress.{Progress}
use Rattle.text_model.specs.declared.record_refusal.RecordCause.{RecordCause}
use Rattle.text_model.specs.declared.record_refusal.RecordCause.TheVariants.{LineTooLong, TooManyLines, TooMuch}
use Rattle.event_records.specs.Held.{held_of}
use Rattle.event_records.specs.Reading.{told}
use Rattle.event_records.proofs.Cuts.{pieces_of}
use Rattle.event_records.proofs.LineEnds.{read-too_long}

-- what is known of a line that isn't refused
record Taken (before : Progress) (line : List ℕ) : Type 0 where
  lines : before.lines + 1 ≤ MOST_LINES
  bytes : before.bytes < MOST_RECORDS_BYTES
  short : length line ≤ MOST_LINE_BYTES + 1

content-short : (line : List ℕ) → length line ≤ length (content line) + 1
unfolding content
content-short line = by (ends_with nat_eq line (CARRIAGE_RETURN ∷ []))
  where
    by : (t : Bool) → length line ≤ length (if t then take (length line - 1) line else line) + 1
    by true = let n = length-take (length line - 1) line in grind (arith, nat_tests)
    by false = omega arith

passed : (t u v : Bool) (rest : Unit {0} → Result Line RecordCause) (said : Line) →
    (refuse_if t TooManyLines >>= λ counted. refuse_if u TooMuch >>= λ begun. refuse_if v LineTooLong >>= rest) ≡ Ok said →
    (t ≡ false) × (u ≡ false) × (v ≡ false)
passed true u v rest said h = absurd cc
passed false true v rest said h = absurd cc
passed false false true rest said h = absurd cc
passed false false false rest said h = (refl, refl, refl)

taken : (raws : List Raw) (most : ℕ) (before : Progress) (line : List ℕ) (said : Line) → line_of raws most before line ≡ Ok said →
    Taken before line
unfolding line_of
taken raws most before line said h =
    let p = passed (nat_lt MOST_LINES (before.lines + 1)) (nat_le MOST_RECORDS_BYTES before.bytes)
    (nat_lt MOST_LINE_BYTES (length (content line))) (λ short. held_of raws most before (content line)) said h in
    let few = p.0 in
    let less = p.1 in
    let short = p.2 in
    let n = content-short line in
    record { lines = grind (arith, nat_tests); bytes = grind (arith, nat_tests); short = grind (arith, nat_tests) }

-- records

abbrev FewFrom : ℕ → Known → Type 0
FewFrom lines all = lines + length all.records ≤ MOST_LINES

few-at_end : (over : Bool) (before : Progress) → before.lines ≤ MOST_LINES → FewFrom before.lines (at_end over before)
few-at_end over before h = by over before.header
  where
    by : (t u : Bool) → FewFrom before.lines (at_end t (record before { header = u }))
    by true true = omega (arith, h)
    by true false = omega (arith, h)
    by false u = omega (arith, h)

-- one more line, where the later ones have few
few-more : (lines : ℕ) (said : Result Line RecordCause) (later : Known) → lines ≤ MOST_LINES →
    ((it : Line) → said ≡ Ok it → FewFrom (lines + 1) later) → FewFrom lines (joined (lines + 1) said later)
unfolding joined
few-more lines (Err why) later h more = omega (arith, h)
few-more lines (Ok Blank) later h more = omega (arith, more Blank refl)
few-more lines (Ok Header) later h more = omega (arith, more Header refl)
few-more lines (Ok (Record it)) later h more = omega (arith, more (Record it) refl)

records-few : (over : Bool) (raws : List Raw) (most : ℕ) (before : Progress) (all : List (List ℕ)) → before.lines ≤ MOST_LINES →
    FewFrom before.lines (read_lines over raws most before all)
unfolding read_lines after_line
records-few over raws most before [] h = few-at_end over before h
records-few over raws most before (line ∷ others) h =
    let said = line_of raws most before line in
    few-more before.lines said (read_lines over raws most (after_line before line said) others) h
    (λ it e. records-few over raws most (after_line before line said) others (taken raws most before line it e).lines)

pub told-few : (over : Bool) (job : Job) (text : List ℕ) → length (told over job text).records ≤ MOST_LINES
unfolding known
told-few true job text =
    omega (arith, records-few true job.raws (most_events job) opening (lines true text) (omega arith))
told-few false job text =
    omega (arith, records-few false job.raws (most_events job) opening (lines false text) (omega arith))

-- bytes

-- the bytes of pieces with a separator behind each
abbrev total : List (List ℕ) → ℕ
total [] = 0
total (piece ∷ pieces) = length piece + 1 + total pieces

total-onto : (b : ℕ) (head : List ℕ) (others : List (List ℕ)) → total (onto b (head ∷ others)) ≡ total (head ∷ others) + 1
total-onto b head others = omega arith

total-step : (s b : ℕ) (bs : List ℕ) → total (cut s bs) ≡ length bs + 1 → (t : Bool) →
    total (if t then [] ∷ cut s bs else onto b (cut s bs)) ≡ length (b ∷ bs) + 1
total-step s b bs h true =
    let same : total (if true then [] ∷ cut s bs else onto b (cut s bs)) ≡ total ([] ∷ cut s bs) = refl in
    omega (arith, h, same)
total-step s b bs h false =
    let it = pieces_of s bs in
    let same : total (if false then [] ∷ cut s bs else onto b (cut s bs)) ≡ total (onto b (it.head ∷ it.others)) =
    ap (λ pieces. total (onto b pieces)) it.is in
    let whole : total (cut s bs) ≡ total (it.head ∷ it.others) = ap total it.is in
    let more = total-onto b it.head it.others in
    omega (arith, h, same, whole, more)

total-cut : (s : ℕ) (text : List ℕ) → total (cut s text) ≡ length text + 1
unfolding cut
total-cut s [] = refl
total-cut s (b ∷ bs) = total-step s b bs (total-cut s bs) (b == s)

-- bytes before a line that was not refused, with the line itself
abbrev most_before : ℕ
most_before = MOST_RECORDS_BYTES + MOST_LINE_BYTES + 2

-- all bytes from such a line on stay within this
abbrev Short : ℕ → List (List ℕ) → Type 0
Short bytes pieces = bytes + total pieces ≤ most_before + MOST_LINE_BYTES + 2

short-last : (raws : List Raw) (most : ℕ) (before : Progress) (rest : List ℕ) →
    (read_lines false raws most before (lines_in false (rest ∷ []))).refusal ≡ None → before.bytes ≤ most_before →
    Short before.bytes (rest ∷ [])
unfolding lines_in
short-last raws most before rest h low = by (is_last_line false rest) refl h
  where
    by : (t : Bool) → is_last_line false rest ≡ t →
        (read_lines false raws most before (if t then rest ∷ [] else [])).refusal ≡ None → Short before.bytes (rest ∷ [])
    by true e none =
        let long : MOST_LINE_BYTES + 1 < length rest = grind (arith, nat_tests) in
        let refused = read-too_long false raws most before rest [] long in
        absurd cc
    by false e none =
        let few : length rest ≤ MOST_LINE_BYTES + 1 = grind (arith, nat_tests) in
        omega (arith, few, low)

-- a line before others, where those stay within it
short-more : (raws : List Raw) (most : ℕ) (before : Progress) (line : List ℕ) (others : List (List ℕ)) (said : Result Line RecordCause)
    (later : Known) → line_of raws most before line ≡ said → (joined (before.lines + 1) said later).refusal ≡ None →
    (later.refusal ≡ None → before.bytes + length line + 1 ≤ most_before → Short (before.bytes + length line + 1) others) →
    Short before.bytes (line ∷ others)
unfolding joined
short-more raws most before line others (Err why) later e none more = absurd cc
short-more raws most before line others (Ok Blank) later e none more =
    let it = taken raws most before line Blank e in
    omega (arith, more none (omega (arith, it.bytes, it.short)))
short-more raws most before line others (Ok Header) later e none more =
    let it = taken raws most before line Header e in
    omega (arith, more none (omega (arith, it.bytes, it.short)))
short-more raws most before line others (Ok (Record record_)) later e none more =
    let it = taken raws most before line (Record record_) e in
    omega (arith, more none (omega (arith, it.bytes, it.short)))

pieces-short : (raws : List Raw) (most : ℕ) (before : Progress) (pieces : List (List ℕ)) →
    (read_lines false raws most before (lines_in false pieces)).refusal ≡ None → before.bytes ≤ most_before → Short before.bytes pieces
unfolding lines_in read_lines after_line
pieces-short raws most before [] h low = omega (arith, low)
pieces-short raws most before (rest ∷ []) h low = short-last raws most before rest h low
pieces-short raws most before (line ∷ next ∷ pieces) h low =
    let said = line_of raws most before line in
    short-more raws most before line (next ∷ pieces) said
    (read_lines false raws most (after_line before line said) (lines_in false (next ∷ pieces))) refl h
    (λ none within. pieces-short raws most (after_line before line said) (next ∷ pieces) none within)

pub so_far-short : (job : Job) (text : List ℕ) → (so_far job text).refusal ≡ None →
    length text ≤ MOST_RECORDS_BYTES + 2 * (MOST_LINE_BYTES + 2)
unfolding known lines
so_far-short job text h =
    let within = pieces-short job.raws (most_events job) opening (cut LINE_FEED text) h (omega arith) in
    let all = total-cut LINE_FEED text in
    omega (arith, within, all)
