-- The text of generated records is read, line by line.
use Rattle.std.proofs.Common.{◌≡◌, ℕ, zero, suc, ◌+◌, ◌*◌, ◌^◌, ◌<◌, ◌≤◌, ◌==◌, nat_le, nat_lt, Bool, true, false, if◌then◌else◌, pos, List, [], ◌∷◌, ◌++◌, length, codes, decimal, Some, None, Ok, refl, ap, ◌∙◌, arith, append_assoc}
use Rattle.std.proofs.lemmas.Bool.Decides.{nat_tests}
use Rattle.std.specs.List.{AllByRecursion, flat_map}
use Rattle.csv.proofs.OnLiterals.{csv_on_literals}
use Rattle.event_records.proofs.Cuts.{cut-found, pieces_of}
use Rattle.event_records.proofs.PlainCells.{cells-plain}
use Rattle.gen_laws.proofs.Bytes.{IsOfLine, has-no, line-content, line-no_quote, line-printable, line-text, line_no_feed}
use Rattle.gen_laws.proofs.EventLines.{decimal-in_list, divisor, divisor-signed, event-line, event_cells, hits-cell, line-bytes, line-cells, line-short, line-some, line_text}
use Rattle.gen_laws.proofs.ListCells.{is_there}
use Rattle.gen_laws.proofs.Numbers.{signed-decimal, unsigned-decimal}
use Rattle.gen_laws.specs.GeneratedJob.{generated_job}
use Rattle.hive_gen.specs.EventTexts.{cell_text, event_line, header, records_text}
use Rattle.hive_gen.specs.Events.{divisor_of, event_of, events_from, events_of, hits_of, state_behind}
use Rattle.hive_model.specs.declared.algorithm.Raw.{Raw}
use Rattle.hive_model.specs.declared.product.Kind.TheVariants as kinds
use Rattle.hive_model.specs.declared.product.Product.TheVariants as product
use Rattle.text_model.specs.Cells.{cells_of}
use Rattle.text_model.specs.Lines.{content, is_text, lines, lines_in}
use Rattle.text_model.specs.Pieces.{cut}
use Rattle.text_model.specs.Products.{cell_of, product_of, products}
use Rattle.text_model.specs.Records.{after_line, header_of, line_with, event_of as event_read, joined, known, line_of, opening, read_lines, record_of, records_of}
use Rattle.text_model.specs.Steps.{collect}
use Rattle.text_model.specs.declared.bytes.TheConstants.{COMMA, LINE_FEED}
use Rattle.text_model.specs.declared.limits.TheConstants.{MOST_EVENTS, MOST_LINES, MOST_LINE_BYTES, MOST_RECORDS_BYTES}
use Rattle.text_model.specs.declared.line.Line.TheVariants.{Header, Record}
use Rattle.text_model.specs.declared.line.Progress.{Progress}

abbrev raws : List Raw
raws = generated_job.raws

-- one event

div-read : (d : ℕ) → d < 2 ^ 63 →
    cell_of (record { name = codes "div"; kind = kinds.Num }, decimal d) ≡ Ok (Some (product.Num (pos d)))
unfolding cell_of product_of
div-read d h = let there = is_there (decimal d) (decimal-in_list d (omega arith)) in rw
    (there, signed-decimal d h) refl

cells-read : (number state : ℕ) → number < 2 ^ 63 →
    products raws (cell_text (hits_of number state) ∷ divisor number ∷ []) ≡ Ok (event_of number state).cells
unfolding collect event_of
cells-read number state h = rw (
  (hits-cell number state).read,
  div-read (divisor_of number)
      (divisor-signed number h),
) refl

event-read : (number state : ℕ) → number < 2 ^ 63 →
    event_read raws (event_cells number state) ≡ Ok (Record (event_of number state))
unfolding event_of
event-read number state h = rw (unsigned-decimal number (omega arith), cells-read number state h) refl

record-read : (events : ℕ) (first second third : List ℕ) → events < MOST_EVENTS →
    record_of raws MOST_EVENTS events (first ∷ second ∷ third ∷ [])
    ≡ event_read raws (first ∷ second ∷ third ∷ [])
unfolding record_of
record-read events first second third h =
    let further : nat_le MOST_EVENTS events ≡ false = grind (arith, nat_tests) in
    rw further refl

-- one line

line-checked : (before : Progress) (line : List ℕ) → before.lines < MOST_LINES →
    before.bytes < MOST_RECORDS_BYTES →
    length line ≤ MOST_LINE_BYTES → 0 < length line → AllByRecursion IsOfLine line →
    line_of raws MOST_EVENTS before line ≡ line_with raws MOST_EVENTS before (cut COMMA line)
unfolding line_of
line-checked before line lines bytes short some all =
    let lines : nat_lt MOST_LINES (before.lines + 1) ≡ false = grind (arith, nat_tests) in
    let bytes : nat_le MOST_RECORDS_BYTES before.bytes ≡ false = grind (arith, nat_tests) in
    let short : nat_lt MOST_LINE_BYTES (length line) ≡ false = grind (arith, nat_tests) in
    let byte : (length line == 0) ≡ false = grind (arith, nat_tests) in
    let cells = cells-plain line some (line-printable line all) (line-no_quote line all) in
    rw (line-content line all, lines, bytes, short, line-text line all, byte, cells) refl

-- what stands before the line of an event
record IsBefore (number : ℕ) (before : Progress) : Type 0 where
  header : before.header ≡ true
  lines : before.lines ≡ number
  events : before.events + 1 ≡ number
  bytes : before.bytes ≤ 219 * number

line-read : (number state : ℕ) (before : Progress) → number ≤ MOST_EVENTS → IsBefore number before →
    line_of raws MOST_EVENTS before (line_text number state) ≡ Ok (Record (event_of number state))
line-read number state before few at =
    let low : number < 2 ^ 63 = omega (arith, few) in
    let short = line-short number state low in
    let lines = at.lines in
    let bytes = at.bytes in
    let events = at.events in
    let cells = event_cells number state in
    let checked = line-checked before (line_text number state) (omega (arith, lines, few))
    (omega (arith, bytes, few))
    (omega (arith, short)) (line-some number state) (line-bytes number state low) in
    let cut = ap (line_with raws MOST_EVENTS before) (line-cells number state low) in
    let behind_header =
    ap (λ (t : Bool). if t then record_of raws MOST_EVENTS before.events cells else header_of raws cells)
    at.header in
    let read = record-read before.events (decimal number) (cell_text (hits_of number state)) (divisor number)
    (omega (arith, events, few)) in
    checked ∙ (cut ∙ (behind_header ∙ (read ∙ event-read number state low)))

behind : (number state : ℕ) (before : Progress) → number ≤ MOST_EVENTS → IsBefore number before →
    IsBefore (number + 1) (after_line before (line_text number state) (Ok (Record (event_of number state))))
unfolding after_line
behind number state before few at =
    let short = line-short number state (omega (arith, few)) in
    let lines = at.lines in
    let bytes = at.bytes in
    let events = at.events in
    record {
      header = rw (at.header) refl;
      lines = omega (arith, lines);
      events = omega (arith, events);
      bytes = omega (arith, bytes, short);
    }

-- the pieces of a text between line feeds are at least one
ended : (line : List ℕ) (text : List ℕ) → lines_in true (line ∷ cut LINE_FEED text)
    ≡ line ∷ lines_in true (cut LINE_FEED text)
unfolding lines_in
ended line text = let p = pieces_of LINE_FEED text in rw p.is refl

line-first : (number state : ℕ) (later : List ℕ) → number < 2 ^ 63 →
    lines true (event_line (event_of number state) ++ later) ≡ line_text number state ∷ lines true later
unfolding lines
line-first number state later h =
    ap (λ text. lines_in true (cut LINE_FEED (text ++ later))) (event-line number state)
    ∙ (ap (λ text. lines_in true (cut LINE_FEED text))
    (append_assoc (line_text number state) (LINE_FEED ∷ []) later)
    ∙ (ap (lines_in true) (cut-found LINE_FEED (line_text number state) later
    (has-no IsOfLine LINE_FEED line_no_feed (line_text number state) (line-bytes number state h)))
    ∙ ended (line_text number state) later))

-- all lines

none-left : lines true [] ≡ []
unfolding lines lines_in cut
none-left = refl

rest-read : (count number state : ℕ) (before : Progress) → number + count ≤ MOST_EVENTS + 1 →
    IsBefore number before →
    read_lines true raws MOST_EVENTS before (lines true
    (flat_map event_line (events_from count number state)))
    ≡ record { records = events_from count number state; refusal = None }
unfolding events_from read_lines joined
rest-read zero number state before few at = ap (read_lines true raws MOST_EVENTS before) none-left
    ∙ rw (at.header) refl
rest-read (suc count) number state before few at =
    let low : number ≤ MOST_EVENTS = omega (arith, few) in
    let said = line-read number state before low at in
    let later = rest-read count (number + 1) (state_behind number state)
    (after_line before (line_text number state) (Ok (Record (event_of number state)))) (omega (arith, few))
    (behind number state before low at) in
    let first = line-first number state (flat_map event_line
    (events_from count (number + 1) (state_behind number state))) (omega (arith, low)) in
    rw (first, said, later) refl

-- the header

abbrev header_text : List ℕ
header_text = codes "event,hits,div"

header-first : (later : List ℕ) → lines true (header ++ later) ≡ header_text ∷ lines true later
unfolding lines cut
header-first later = ended header_text later

header-said : line_of raws MOST_EVENTS opening header_text ≡ Ok Header
unfolding line_of content is_text cells_of csv_on_literals
header-said = refl

abbrev headed : Progress
headed = record { lines = 1; bytes = 15; events = 0; header = true }

header-behind : after_line opening header_text (Ok Header) ≡ headed
unfolding after_line
header-behind = refl

first-event : IsBefore 1 headed
first-event = record { header = refl; lines = refl; events = refl; bytes = omega arith }

pub events-read : (start events : ℕ) → events ≤ MOST_EVENTS →
    records_of generated_job (records_text start events)
    ≡ record { records = events_of start events; refusal = None }
unfolding known records_text read_lines joined
events-read start events few =
    let first = header-first (flat_map event_line (events_of start events)) in
    let later = rest-read events 1 start headed (omega (arith, few)) first-event in
    rw (first, header-said, header-behind, later) refl
