-- A number is in range exactly where it fits a signed word of 64 bits.
use Rattle.std.proofs.Common.{◌≡◌, ℤ, pos, negsuc, ◌≤◌, ◌<◌, ◌^◌, nat_le, nat_eq, to_z, to_z-of_z, ◌&&◌, Bool, true, false, refl, sym, ◌∙◌, Ok, Err, FitsSigned, of_z, ap, arith}
use Rattle.std.specs.Int.{w64}
use Rattle.std.specs.Ordering.{int_eq}
use Rattle.std.proofs.lemmas.Bool.{leb-true, le-leb}
use Rattle.std.proofs.lemmas.Bool.Decides.{Decides-int_eq, Decides-eqb, same_from_decides}
use Rattle.hive_model.specs.Number.{fits, num}
use Rattle.hive_model.specs.declared.outcome.Fault.TheVariants.{Overflow}
use Rattle.hive_model.specs.declared.product.Product.TheVariants as product

and_true : (b : Bool) → (b && true) ≡ b
and_true true = refl
and_true false = refl

pub fits_signed : (z : ℤ) → fits z ≡ true → FitsSigned w64 z
unfolding fits
fits_signed (pos n) e =
    let le : n ≤ 9223372036854775807 = leb-true n 9223372036854775807 e in record { sfits = omega arith }
fits_signed (negsuc n) e =
    let le : n ≤ 9223372036854775807 = leb-true n 9223372036854775807 (sym (and_true (nat_le n 9223372036854775807)) ∙ e) in record { sfits = omega arith }

pub fits-from_signed : (z : ℤ) → FitsSigned w64 z → fits z ≡ true
unfolding fits
fits-from_signed (pos n) h =
    let lt : n < 2 ^ 63 = h.sfits in le-leb n 9223372036854775807 (omega arith)
fits-from_signed (negsuc n) h =
    let lt : n < 2 ^ 63 = h.sfits in and_true (nat_le n 9223372036854775807) ∙ le-leb n 9223372036854775807 (omega arith)

-- a number in range is itself
pub num-inside : (z : ℤ) → FitsSigned w64 z → num z ≡ Ok (product.Num z)
unfolding num
num-inside z h = rw (fits-from_signed z h) refl

-- a number out of range is the fault
pub num-outside : (z : ℤ) → (FitsSigned w64 z → ⊥) → num z ≡ Err Overflow
unfolding num
num-outside z h = elim (fits z) as (λ b. fits z ≡ b → num z ≡ Err Overflow) [ true ↦ λ e. absurd (h (fits_signed z e)) | false ↦ λ e. rw e refl ] refl

-- what a signed word of 64 bits is, where it is 0 or not
pub zero_word : (z : ℤ) → FitsSigned w64 z → of_z w64 z ≡ 0 → z ≡ pos 0
zero_word (pos n) h e = ap pos e
zero_word (negsuc n) h e = let lt : n < 2 ^ 63 = h.sfits in absurd (omega arith)

pub refuted : (b : Bool) → (b ≡ true → ⊥) → b ≡ false
refuted true h = absurd (h refl)
refuted false h = refl

pub nonzero_word : (z : ℤ) → (of_z w64 z ≡ 0 → ⊥) → int_eq z (pos 0) ≡ false
nonzero_word z e = refuted (int_eq z (pos 0)) (λ t. e (ap (of_z w64) ((Decides-int_eq z (pos 0)).0 t)))

-- signed words are equal exactly where the numbers are
pub same_words : (x y : ℤ) → FitsSigned w64 x → FitsSigned w64 y → nat_eq (of_z w64 x) (of_z w64 y) ≡ int_eq x y
same_words x y fx fy =
    let words = Decides-eqb (of_z w64 x) (of_z w64 y) in
    let back : of_z w64 x ≡ of_z w64 y → x ≡ y = λ e. sym (to_z-of_z fx) ∙ ap (to_z w64) e ∙ to_z-of_z fy in
    same_from_decides {P = x ≡ y} (nat_eq (of_z w64 x) (of_z w64 y)) (int_eq x y) (λ e. back (words.0 e), λ e. words.1 (ap (of_z w64) e)) (Decides-int_eq x y)

-- the worth of a word that is the number
pub num-word : (n z : ℤ) → FitsSigned w64 n → n ≡ z → Ok (product.Num (to_z w64 (of_z w64 n))) ≡ num z
num-word n z h e =
    let here : Ok (product.Num (to_z w64 (of_z w64 n))) ≡ num n = rw (num-inside n h, to_z-of_z h) refl in
    here ∙ ap num e
