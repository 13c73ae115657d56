-- The first number of a range that passes a test.
use Rattle.std.proofs.Common.{◌≡◌, ℕ, zero, suc, ◌+◌, ◌<◌, Bool, true, false, cond, List, Some, None, find, refl, ap, sym, ◌∙◌, arith}
use Rattle.std.specs.List.{range_with_len}

found-from : (p : ℕ → Bool) (from n size : ℕ) → n < size → ((k : ℕ) → k < n → p (from + k) ≡ false) → p (from + n) ≡ true →
    find p (range_with_len from size) ≡ Some (from + n)
found-from p from n zero h none here = absurd (omega arith)
found-from p from zero (suc size) h none here =
    let same : from + 0 ≡ from = omega arith in
    let passes : p from ≡ true = ap p (sym same) ∙ here in
    rw passes (ap Some (sym same))
found-from p from (suc n) (suc size) h none here =
    let fails : p from ≡ false = ap p (omega arith) ∙ none 0 (omega arith) in
    let same : from + 1 + n ≡ from + suc n = omega arith in
    rw fails
    (found-from p (from + 1) n size (omega arith) (λ k less. ap p (omega arith) ∙ none (suc k) (omega arith)) (ap p same ∙ here)
    ∙ ap Some same)

none-from : (p : ℕ → Bool) (from size : ℕ) → ((k : ℕ) → k < size → p (from + k) ≡ false) → find p (range_with_len from size) ≡ None
none-from p from zero none = refl
none-from p from (suc size) none =
    let fails : p from ≡ false = ap p (omega arith) ∙ none 0 (omega arith) in
    rw fails (none-from p (from + 1) size (λ k less. ap p (omega arith) ∙ none (suc k) (omega arith)))

pub found-at : (p : ℕ → Bool) (n size : ℕ) → n < size → ((k : ℕ) → k < n → p k ≡ false) → p n ≡ true → find p (range_with_len 0 size) ≡ Some n
found-at p n size h none here =
    found-from p 0 n size h (λ k less. ap p (omega arith) ∙ none k less) (ap p (omega arith) ∙ here) ∙ ap Some (omega arith)

pub found-none : (p : ℕ → Bool) (size : ℕ) → ((k : ℕ) → k < size → p k ≡ false) → find p (range_with_len 0 size) ≡ None
found-none p size none = none-from p 0 size (λ k less. ap p (omega arith) ∙ none k less)
