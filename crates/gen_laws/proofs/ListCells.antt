-- A list that is written in a cell is read as this list.
use Rattle.std.proofs.Common.{◌≡◌, ℕ, ◌*◌, ◌<◌, ◌≤◌, nat_eq, nat_lt, false, ℤ, List, [], ◌∷◌, length, map, Some, Ok, refl, ap, ◌∙◌, arith, append-nil, length-append}
use Rattle.std.proofs.lemmas.Bool.Decides.{nat_tests}
use Rattle.std.proofs.lemmas.List.{length-map}
use Rattle.std.specs.Fmt.{signed_decimal}
use Rattle.std.specs.List.{AllByRecursion, flat_map}
use Rattle.event_records.proofs.Cuts.{cut-found, cut-whole}
use Rattle.event_records.specs.Cutting.{HasNo}
use Rattle.gen_laws.proofs.Bytes.{IsOfList, IsOfNumber, all_both, all_of, has-no, number_in_list, number_no_space}
use Rattle.gen_laws.proofs.Written.{IsWritten}
use Rattle.hive_model.specs.Same.{same_text}
use Rattle.hive_model.specs.declared.limits.TheConstants.{MOST_NUMBERS}
use Rattle.hive_model.specs.declared.product.Kind.TheVariants as kinds
use Rattle.hive_model.specs.declared.product.Product.TheVariants as product
use Rattle.text_model.specs.Numerals.{signed}
use Rattle.text_model.specs.Pieces.{cut}
use Rattle.text_model.specs.Products.{cell_of, list_of, product_of}
use Rattle.text_model.specs.Report.{numbers_text, spaced}
use Rattle.text_model.specs.Steps.{collect, or_refuse}
use Rattle.text_model.specs.declared.bytes.TheConstants.{QUESTION_MARK, SPACE}
use Rattle.text_model.specs.declared.record_refusal.RecordCause.TheVariants.{Number}

abbrev pub AreWritten : List ℤ → Type 0
AreWritten xs = AllByRecursion IsWritten xs

-- what is written

further-bytes : (xs : List ℤ) → AreWritten xs → AllByRecursion IsOfList (flat_map spaced xs)
unfolding spaced
further-bytes [] ws = tt
further-bytes (x ∷ xs) ws = (
  (omega arith, omega arith, omega arith, omega arith),
  all_both IsOfList (signed_decimal x) (flat_map spaced xs)
      (all_of IsOfNumber IsOfList number_in_list (signed_decimal x) ws.0.bytes) (further-bytes xs ws.1),
)

pub list-bytes : (xs : List ℤ) → AreWritten xs → AllByRecursion IsOfList (numbers_text xs)
list-bytes [] ws = tt
list-bytes (x ∷ xs) ws =
    all_both IsOfList (signed_decimal x) (flat_map spaced xs)
    (all_of IsOfNumber IsOfList number_in_list (signed_decimal x) ws.0.bytes) (further-bytes xs ws.1)

further-short : (xs : List ℤ) → AreWritten xs → length (flat_map spaced xs) ≤ 22 * length xs
unfolding spaced
further-short [] ws = omega arith
further-short (x ∷ xs) ws =
    let is = length-append (signed_decimal x) (flat_map spaced xs) in
    let short = ws.0.short in
    let later = further-short xs ws.1 in
    omega (arith, is, short, later)

pub list-short : (xs : List ℤ) → AreWritten xs → length (numbers_text xs) ≤ 22 * length xs
list-short [] ws = omega arith
list-short (x ∷ xs) ws =
    let is = length-append (signed_decimal x) (flat_map spaced xs) in
    let short = ws.0.short in
    let later = further-short xs ws.1 in
    omega (arith, is, short, later)

list-some : (xs : List ℤ) → 0 < length xs → AreWritten xs → 0 < length (numbers_text xs)
list-some [] some ws = absurd (omega arith)
list-some (x ∷ xs) some ws =
    let is = length-append (signed_decimal x) (flat_map spaced xs) in
    let long = ws.0.some in
    omega (arith, is, long)

-- how it is read

no_space : (x : ℤ) → IsWritten x → HasNo SPACE (signed_decimal x)
no_space x w = has-no IsOfNumber SPACE number_no_space (signed_decimal x) w.bytes

cut-numbers : (x : ℤ) (xs : List ℤ) → IsWritten x → AreWritten xs →
    cut SPACE (numbers_text (x ∷ xs)) ≡ map signed_decimal (x ∷ xs)
unfolding spaced
cut-numbers x [] w ws = ap (cut SPACE) (append-nil (signed_decimal x))
    ∙ cut-whole SPACE (signed_decimal x) (no_space x w)
cut-numbers x (y ∷ ys) w ws =
    cut-found SPACE (signed_decimal x) (numbers_text (y ∷ ys)) (no_space x w)
    ∙ ap (λ parts. signed_decimal x ∷ parts) (cut-numbers y ys ws.0 ws.1)

collected : (xs : List ℤ) → AreWritten xs → collect (λ (part : List ℕ). or_refuse Number (signed part))
    (map signed_decimal xs) ≡ Ok xs
unfolding collect
collected [] ws = refl
collected (x ∷ xs) ws = rw (ws.0.read, collected xs ws.1) refl

list-of : (xs : List ℤ) → length xs ≤ MOST_NUMBERS → AreWritten xs → list_of (map signed_decimal xs)
    ≡ Ok (product.List xs)
unfolding list_of
list-of xs few ws =
    let same : length (map signed_decimal xs) ≡ length xs = length-map xs signed_decimal in
    let fits : nat_lt MOST_NUMBERS (length (map signed_decimal xs)) ≡ false = grind (arith, nat_tests) in
    rw (fits, collected xs ws) refl

product-some : (text : List ℕ) → 0 < length text → product_of kinds.List text ≡ list_of (cut SPACE text)
unfolding product_of
product-some [] some = absurd (omega arith)
product-some (b ∷ bs) some = refl

product-list : (xs : List ℤ) → 0 < length xs → length xs ≤ MOST_NUMBERS → AreWritten xs →
    product_of kinds.List (numbers_text xs) ≡ Ok (product.List xs)
product-list [] some few ws = absurd (omega arith)
product-list (x ∷ xs) some few ws =
    product-some (numbers_text (x ∷ xs)) (list-some (x ∷ xs) some ws)
    ∙ (ap list_of (cut-numbers x xs ws.0 ws.1) ∙ list-of (x ∷ xs) few ws)

-- what isn't absent

pub is_there : (text : List ℕ) → AllByRecursion IsOfList text → same_text text (QUESTION_MARK ∷ []) ≡ false
is_there [] all = refl
is_there (b ∷ bs) all = let e : nat_eq b QUESTION_MARK ≡ false = grind (arith, nat_tests) in rw e refl

pub cell-list : (name : List ℕ) (xs : List ℤ) → 0 < length xs → length xs ≤ MOST_NUMBERS → AreWritten xs →
    cell_of (record { name = name; kind = kinds.List }, numbers_text xs) ≡ Ok (Some (product.List xs))
unfolding cell_of
cell-list name xs some few ws =
    let there = is_there (numbers_text xs) (list-bytes xs ws) in
    rw (there, product-list xs some few ws) refl
