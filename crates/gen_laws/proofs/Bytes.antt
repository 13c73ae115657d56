-- The bytes that generated records are made of.
use Rattle.std.proofs.Common.{◌≡◌, ◌≢◌, ℕ, zero, suc, ◌-◌, ◌≤◌, ◌==◌, nat_eq, true, false, cond, List, [], ◌∷◌, ◌++◌, length, drop, count_by, refl, ◌∙◌, arith}
use Rattle.std.proofs.lemmas.Bool.{and_parts}
use Rattle.std.proofs.lemmas.Bool.Decides.{nat_tests}
use Rattle.std.proofs.lemmas.List.Sums.{sum_by-cons}
use Rattle.std.specs.Char.{is_ascii_digit}
use Rattle.std.specs.Cmp.Lexicographic.{pointwise}
use Rattle.std.specs.List.{AllByRecursion, ends_with, list_all}
use Rattle.event_records.specs.Cutting.{HasNo}
use Rattle.text_model.specs.Lines.{content, is_printable, is_text}
use Rattle.text_model.specs.declared.bytes.TheConstants.{CARRIAGE_RETURN, QUOTE}

-- digits and a minus, and two others between them
abbrev pub IsOfNumber : ℕ → Type 0
IsOfNumber b = (45 ≤ b) × (b ≤ 57)

-- and a space
abbrev pub IsOfList : ℕ → Type 0
IsOfList b = (32 ≤ b) × (b ≤ 57) × (b ≢ 34) × (b ≢ 44)

-- from a space to a question mark, but no quote and no comma
abbrev pub IsOfCell : ℕ → Type 0
IsOfCell b = (32 ≤ b) × (b ≤ 63) × (b ≢ 34) × (b ≢ 44)

-- and a comma
abbrev pub IsOfLine : ℕ → Type 0
IsOfLine b = (32 ≤ b) × (b ≤ 63) × (b ≢ 34)

pub all_of : (P Q : ℕ → Type 0) → ((b : ℕ) → P b → Q b) → (text : List ℕ) → AllByRecursion P text →
    AllByRecursion Q text
all_of P Q step [] all = tt
all_of P Q step (b ∷ bs) all = (step b all.0, all_of P Q step bs all.1)

pub all_both : (P : ℕ → Type 0) (front back : List ℕ) → AllByRecursion P front → AllByRecursion P back →
    AllByRecursion P (front ++ back)
all_both P [] back f g = g
all_both P (b ∷ bs) back f g = (f.0, all_both P bs back f.1 g)

pub has-no : (P : ℕ → Type 0) (byte : ℕ) → ((b : ℕ) → P b → b ≢ byte) → (text : List ℕ) →
    AllByRecursion P text → HasNo byte text
has-no P byte other [] all = tt
has-no P byte other (b ∷ bs) all = (other b all.0, has-no P byte other bs all.1)

pub of_digits : (text : List ℕ) → list_all is_ascii_digit text ≡ true → AllByRecursion IsOfNumber text
of_digits [] all = tt
of_digits (b ∷ bs) all =
    let parts = and_parts (is_ascii_digit b) (list_all is_ascii_digit bs) all in
    let digit = parts.0 in
    (grind (arith, nat_tests), of_digits bs parts.1)

pub number_in_list : (b : ℕ) → IsOfNumber b → IsOfList b
number_in_list b h = (omega (arith, h), omega (arith, h), omega (arith, h), omega (arith, h))

pub list_in_cell : (b : ℕ) → IsOfList b → IsOfCell b
list_in_cell b h = (h.0, omega (arith, h), h.2, h.3)

pub cell_in_line : (b : ℕ) → IsOfCell b → IsOfLine b
cell_in_line b h = (h.0, h.1, h.2)

pub number_no_space : (b : ℕ) → IsOfNumber b → b ≢ 32
number_no_space b h = omega (arith, h)

pub cell_no_comma : (b : ℕ) → IsOfCell b → b ≢ 44
cell_no_comma b h = h.3

pub line_no_feed : (b : ℕ) → IsOfLine b → b ≢ 10
line_no_feed b h = omega (arith, h)

-- a line is text, and has no quote

printable : (b : ℕ) → IsOfLine b → is_printable b ≡ true
printable b h = grind (arith, nat_tests)

pub line-printable : (text : List ℕ) → AllByRecursion IsOfLine text → list_all is_printable text ≡ true
line-printable [] all = refl
line-printable (b ∷ bs) all = rw (printable b all.0) (line-printable bs all.1)

pub line-no_quote : (text : List ℕ) → AllByRecursion IsOfLine text → count_by (λ b. b == QUOTE) text ≡ 0
line-no_quote [] all = refl
line-no_quote (b ∷ bs) all =
    let no : b ≢ 34 = all.0.2 in
    let e : (b == QUOTE) ≡ false = grind (arith, nat_tests) in
    let later = line-no_quote bs all.1 in
    sum_by-cons (λ b. cond (b == QUOTE) 1 0) b bs ∙ rw e (omega (arith, later))

-- no carriage return ends it

all-drop : (P : ℕ → Type 0) (n : ℕ) (text : List ℕ) → AllByRecursion P text → AllByRecursion P (drop n text)
all-drop P zero text all = all
all-drop P (suc n) [] all = tt
all-drop P (suc n) (b ∷ bs) all = all-drop P n bs all.1

no_return : (text : List ℕ) → AllByRecursion IsOfLine text → pointwise nat_eq (CARRIAGE_RETURN ∷ []) text
    ≡ false
no_return [] all = refl
no_return (b ∷ bs) all = let e : nat_eq CARRIAGE_RETURN b ≡ false = grind (arith, nat_tests) in rw e refl

pub line-content : (text : List ℕ) → AllByRecursion IsOfLine text → content text ≡ text
unfolding content
line-content text all =
    let e : ends_with nat_eq text (CARRIAGE_RETURN ∷ []) ≡ false =
    no_return (drop (length text - 1) text) (all-drop IsOfLine (length text - 1) text all) in
    rw e refl

pub line-text : (text : List ℕ) → AllByRecursion IsOfLine text → is_text text ≡ true
unfolding is_text
line-text text all = rw (line-printable text all, line-no_quote text all) refl
