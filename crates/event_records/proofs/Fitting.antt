-- Each record of a text fits its job: it has a cell for each raw handle, absent or of its kind.
use Rattle.std.proofs.Common.{◌≡◌, ◌≢◌, ℕ, suc, ◌+◌, ◌==◌, nat_eq, nat_le, nat_lt, Bool, true, false, not, List, [], ◌∷◌, ◌++◌, length, map, zip, Option, Some, None, Result, Ok, Err, if◌then◌else◌, refl, ap, sym, ◌∙◌, arith}
use Rattle.std.proofs.lemmas.Bool.Decides.{nat_tests}
use Rattle.std.proofs.lemmas.List.{length-map}
use Rattle.std.specs.List.{AllByRecursion}
use Rattle.hive_model.specs.EventRecord.{EventRecord}
use Rattle.hive_model.specs.Fits.{AreCellsOf, Fits, IsOfKind}
use Rattle.hive_model.specs.Job.{Job}
use Rattle.hive_model.specs.Same.{same_text}
use Rattle.hive_model.specs.declared.algorithm.Raw.{Raw}
use Rattle.hive_model.specs.declared.limits.TheConstants.{MOST_NUMBERS}
use Rattle.hive_model.specs.declared.product.Kind.{Kind}
use Rattle.hive_model.specs.declared.product.Kind.TheVariants as kinds
use Rattle.hive_model.specs.declared.product.Product.{Product}
use Rattle.hive_model.specs.declared.product.Product.TheVariants as product
use Rattle.text_model.specs.Cells.{cells_of}
use Rattle.text_model.specs.Lines.{content, is_text, lines}
use Rattle.text_model.specs.Numerals.{signed, unsigned}
use Rattle.text_model.specs.Pieces.{cut}
use Rattle.text_model.specs.Products.{cell_of, list_of, product_of, products}
use Rattle.text_model.specs.Records.{Known, after_line, at_end, event_of, header_cells, header_of, joined, known, line_of, line_with, most_events, opening, read_lines, record_of}
use Rattle.text_model.specs.Steps.{◌>>=◌, collect, or_refuse, refuse_if}
use Rattle.text_model.specs.declared.bytes.TheConstants.{QUESTION_MARK, SPACE}
use Rattle.text_model.specs.declared.limits.TheConstants.{MOST_LINES, MOST_LINE_BYTES, MOST_RECORDS_BYTES}
use Rattle.text_model.specs.declared.line.Line.{Line}
use Rattle.text_model.specs.declared.line.Line.TheVariants.{Blank, Header, Record}
use Rattle.text_model.specs.declared.line.Progress.{Progress}
use Rattle.text_model.specs.declared.record_refusal.RecordCause.{RecordCause}
use Rattle.text_model.specs.declared.record_refusal.RecordCause.TheVariants as cause
use Rattle.event_records.specs.Reading.{HasRead, Reading, ahead, told}
use Rattle.event_records.proofs.Settling.{now-future}

-- what holds of a value, where there is one
abbrev Holds : {A : Type 0} → (A → Type 0) → Result A RecordCause → Type 0
Holds P (Ok x) = P x
Holds P (Err why) = Unit {0}

holds-behind : {A B : Type 0} (P : A → Type 0) (Q : B → Type 0) (read : Result A RecordCause) (next : A → Result B RecordCause) →
    Holds P read → ((x : A) → P x → Holds Q (next x)) → Holds Q (read >>= next)
holds-behind P Q (Ok x) next p h = h x p
holds-behind P Q (Err why) next p h = tt

any : {A : Type 0} (read : Result A RecordCause) → Holds (λ (x : A). Unit {0}) read
any (Ok x) = tt
any (Err why) = tt

-- one cell

list-fits : (parts : List (List ℕ)) → Holds (IsOfKind kinds.List) (list_of parts)
unfolding list_of
list-fits parts =
    holds-behind (λ few. Unit {0}) (IsOfKind kinds.List) (refuse_if (nat_lt MOST_NUMBERS (length parts)) cause.Length) _ (any (refuse_if (nat_lt MOST_NUMBERS (length parts)) cause.Length))
    (λ few t. holds-behind (λ numbers. Unit {0}) (IsOfKind kinds.List) (collect (λ (part : List ℕ). or_refuse cause.Number (signed part)) parts) _
    (any (collect (λ (part : List ℕ). or_refuse cause.Number (signed part)) parts)) (λ numbers t. tt))

product-fits : (kind : Kind) (cell : List ℕ) → Holds (IsOfKind kind) (product_of kind cell)
unfolding product_of
product-fits kinds.Num cell =
    holds-behind (λ number. Unit {0}) (IsOfKind kinds.Num) (or_refuse cause.Number (signed cell)) (λ number. Ok (product.Num number)) (any (or_refuse cause.Number (signed cell))) (λ number t. tt)
product-fits kinds.List [] = tt
product-fits kinds.List (b ∷ bs) = list-fits (cut SPACE (b ∷ bs))

abbrev IsCell : Kind → Option Product → Type 0
IsCell kind None = Unit {0}
IsCell kind (Some it) = IsOfKind kind it

cell-fits : (raw : Raw) (cell : List ℕ) → Holds (IsCell raw.kind) (cell_of (raw, cell))
unfolding cell_of
cell-fits raw cell = by (same_text cell (QUESTION_MARK ∷ []))
  where
    by : (t : Bool) → Holds (IsCell raw.kind) (if t then Ok None else (product_of raw.kind cell >>= λ it. Ok (Some it)))
    by true = tt
    by false = holds-behind (IsOfKind raw.kind) (IsCell raw.kind) (product_of raw.kind cell) (λ it. Ok (Some it)) (product-fits raw.kind cell) (λ it fits. fits)

-- all cells

with-cell : (raw : Raw) (raws : List Raw) (cell : Option Product) (cells : List (Option Product)) → IsCell raw.kind cell → AreCellsOf raws cells → AreCellsOf (raw ∷ raws) (cell ∷ cells)
with-cell raw raws None cells fits all = all
with-cell raw raws (Some it) cells fits all = (fits, all)

products-fit : (raws : List Raw) (cells : List (List ℕ)) → length raws ≡ length cells → Holds (AreCellsOf raws) (products raws cells)
unfolding collect
products-fit [] [] e = tt
products-fit [] (cell ∷ cells) e = absurd (omega arith)
products-fit (raw ∷ raws) [] e = absurd (omega arith)
products-fit (raw ∷ raws) (cell ∷ cells) e =
    holds-behind (IsCell raw.kind) (AreCellsOf (raw ∷ raws)) (cell_of (raw, cell)) _ (cell-fits raw cell)
    (λ it fits. holds-behind (AreCellsOf raws) (AreCellsOf (raw ∷ raws)) (products raws cells) (λ others. Ok (it ∷ others)) (products-fit raws cells (omega arith))
    (λ others all. with-cell raw raws it others fits all))

-- one line

abbrev GivesCellsOf : List Raw → Line → Type 0
GivesCellsOf raws Blank = Unit {0}
GivesCellsOf raws Header = Unit {0}
GivesCellsOf raws (Record it) = AreCellsOf raws it.cells

event-fits : (raws : List Raw) (cells : List (List ℕ)) → length cells ≡ length (header_cells raws) → Holds (GivesCellsOf raws) (event_of raws cells)
event-fits raws [] e = tt
event-fits raws (first ∷ others) e =
    let n = length-map raws (λ (raw : Raw). raw.name) in
    let same : length raws ≡ length others = omega arith in
    holds-behind (λ number. Unit {0}) (GivesCellsOf raws) (or_refuse cause.Event (unsigned first)) _ (any (or_refuse cause.Event (unsigned first)))
    (λ number t. holds-behind (AreCellsOf raws) (GivesCellsOf raws) (products raws others) (λ cells. Ok (Record (record { event = number; cells = cells }))) (products-fit raws others same)
    (λ cells all. all))

record-fits : (raws : List Raw) (most events : ℕ) (cells : List (List ℕ)) → Holds (GivesCellsOf raws) (record_of raws most events cells)
unfolding record_of
record-fits raws most events cells = by (length cells == length (header_cells raws)) refl
  where
    by : (t : Bool) → (length cells == length (header_cells raws)) ≡ t →
        Holds (GivesCellsOf raws) (refuse_if (not t) cause.Fields >>= λ complete. refuse_if (nat_le most events) cause.TooManyEvents >>= λ further. event_of raws cells)
    by true e =
        let same : length cells ≡ length (header_cells raws) = grind (arith, nat_tests) in
        holds-behind (λ further. Unit {0}) (GivesCellsOf raws) (refuse_if (nat_le most events) cause.TooManyEvents) (λ further. event_of raws cells)
        (any (refuse_if (nat_le most events) cause.TooManyEvents)) (λ further t. event-fits raws cells same)
    by false e = tt

with-fits : (raws : List Raw) (most : ℕ) (before : Progress) (cells : List (List ℕ)) → Holds (GivesCellsOf raws) (line_with raws most before cells)
with-fits raws most before cells = by before.header
  where
    header : (t : Bool) → Holds (GivesCellsOf raws) (if t then Ok Header else Err cause.Header)
    header true = tt
    header false = tt

    by : (t : Bool) → Holds (GivesCellsOf raws) (if t then record_of raws most before.events cells else header_of raws cells)
    by true = record-fits raws most before.events cells
    by false = header _

line-fits : (raws : List Raw) (most : ℕ) (before : Progress) (line : List ℕ) → Holds (GivesCellsOf raws) (line_of raws most before line)
unfolding line_of
line-fits raws most before line =
    after_test (nat_lt MOST_LINES (before.lines + 1)) cause.TooManyLines _
    (after_test (nat_le MOST_RECORDS_BYTES before.bytes) cause.TooMuch _
    (after_test (nat_lt MOST_LINE_BYTES (length (content line))) cause.LineTooLong _
    (after_test (not (is_text (content line))) cause.Text _ (by (length (content line) == 0)))))
  where
    after_test : (t : Bool) (why : RecordCause) (next : Unit {0} → Result Line RecordCause) → Holds (GivesCellsOf raws) (next tt) →
        Holds (GivesCellsOf raws) (refuse_if t why >>= next)
    after_test true why next h = tt
    after_test false why next h = h

    by : (t : Bool) → Holds (GivesCellsOf raws) (if t then Ok Blank else line_with raws most before (cells_of (content line)))
    by true = tt
    by false = with-fits raws most before (cells_of (content line))

-- all lines

joined-fits : (raws : List Raw) (number : ℕ) (said : Result Line RecordCause) (later : Known) → Holds (GivesCellsOf raws) said →
    AllByRecursion (λ (it : EventRecord). AreCellsOf raws it.cells) later.records → AllByRecursion (λ (it : EventRecord). AreCellsOf raws it.cells) (joined number said later).records
unfolding joined
joined-fits raws number (Ok Blank) later fits all = all
joined-fits raws number (Ok Header) later fits all = all
joined-fits raws number (Ok (Record it)) later fits all = (fits, all)
joined-fits raws number (Err why) later fits all = tt

read-fit : (over : Bool) (raws : List Raw) (most : ℕ) (before : Progress) (found : List (List ℕ)) →
    AllByRecursion (λ (it : EventRecord). AreCellsOf raws it.cells) (read_lines over raws most before found).records
unfolding read_lines
read-fit over raws most before [] = by over before.header
  where
    by : (t u : Bool) → AllByRecursion (λ (it : EventRecord). AreCellsOf raws it.cells) (at_end t (record before { header = u })).records
    by true true = tt
    by true false = tt
    by false u = tt
read-fit over raws most before (line ∷ others) =
    joined-fits raws (before.lines + 1) (line_of raws most before line) (read_lines over raws most (after_line before line (line_of raws most before line)) others)
    (line-fits raws most before line) (read-fit over raws most (after_line before line (line_of raws most before line)) others)

pub told-fit : (over : Bool) (job : Job) (text : List ℕ) → AllByRecursion (Fits job) (told over job text).records
unfolding known
told-fit true job text = read-fit true job.raws (most_events job) opening (lines true text)
told-fit false job text = read-fit false job.raws (most_events job) opening (lines false text)

-- so the record that a reader gave last fits

all-last : (P : EventRecord → Type 0) (front : List EventRecord) (it : EventRecord) (others : List EventRecord) → AllByRecursion P ((front ++ it ∷ []) ++ others) → P it
all-last P [] it others all = all.0
all-last P (x ∷ front) it others all = all-last P front it others all.1

pub given-fits : (job : Job) (fed : List ℕ) (given : List EventRecord) (it : EventRecord) (r : Reading) → HasRead job fed (given ++ it ∷ []) r → Fits job it
given-fits job fed given it r has =
    let e = ap (λ (k : Known). k.records) (has.rest [] r.ended (now-future r.ended)) in
    all-last (Fits job) given it (ahead r [] r.ended).records (rw e at (told-fit r.ended job (fed ++ [])))
