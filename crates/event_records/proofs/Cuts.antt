-- Cutting a text at a separator: bytes without one stand before the first piece of what follows them.
use Rattle.std.proofs.Common.{◌≡◌, ◌≢◌, ℕ, zero, suc, ◌+◌, ◌<◌, ◌≤◌, ◌==◌, Bool, true, false, List, [], ◌∷◌, ◌++◌, length, take, drop, slice_index, refl, ap, sym, ◌∙◌, arith, append-nil, add-one}
use Rattle.std.proofs.lemmas.Bool.Decides.{nat_tests}
use Rattle.text_model.specs.Pieces.{cut}
use Rattle.event_records.specs.Cutting.{HasNo}

abbrev pub before_first : List ℕ → List (List ℕ) → List (List ℕ)
before_first front [] = front ∷ []
before_first front (piece ∷ pieces) = (front ++ piece) ∷ pieces

-- there is always a first piece
pub record Pieces (separator : ℕ) (text : List ℕ) : Type 0 where
  pub head : List ℕ
  pub others : List (List ℕ)
  pub is : cut separator text ≡ head ∷ others

pub pieces_of : (s : ℕ) (text : List ℕ) → Pieces s text
unfolding cut
pieces_of s [] = record { head = []; others = []; is = refl }
pieces_of s (b ∷ bs) = by (b == s) refl (pieces_of s bs)
  where
    by : (t : Bool) → (b == s) ≡ t → Pieces s bs → Pieces s (b ∷ bs)
    by true e later = record { head = []; others = cut s bs; is = rw e refl }
    by false e later = record { head = b ∷ later.head; others = later.others; is = rw (e, later.is) refl }

pub before_first-nothing : (s : ℕ) (text : List ℕ) → before_first [] (cut s text) ≡ cut s text
before_first-nothing s text = let p = pieces_of s text in rw p.is refl

other : (b s : ℕ) → b ≢ s → (b == s) ≡ false
other b s h = grind (arith, nat_tests)

pub cut-front : (s : ℕ) (front more : List ℕ) → HasNo s front → cut s (front ++ more) ≡ before_first front (cut s more)
unfolding cut
cut-front s [] more h = sym (before_first-nothing s more)
cut-front s (b ∷ bs) more h =
    let p = pieces_of s more in
    let e : (b == s) ≡ false = other b s h.0 in
    let later : cut s (bs ++ more) ≡ before_first bs (p.head ∷ p.others) = cut-front s bs more h.1 ∙ ap (before_first bs) p.is in
    rw (e, later, p.is) refl

pub cut-separator : (s : ℕ) (rest : List ℕ) → cut s (s ∷ rest) ≡ [] ∷ cut s rest
unfolding cut
cut-separator s rest = let e : (s == s) ≡ true = grind (arith, nat_tests) in rw e refl

pub cut-found : (s : ℕ) (front rest : List ℕ) → HasNo s front → cut s (front ++ s ∷ rest) ≡ front ∷ cut s rest
cut-found s front rest h =
    cut-front s front (s ∷ rest) h ∙ ap (before_first front) (cut-separator s rest) ∙ ap (λ piece. piece ∷ cut s rest) (append-nil front)

pub cut-whole : (s : ℕ) (text : List ℕ) → HasNo s text → cut s text ≡ text ∷ []
unfolding cut
cut-whole s text h = ap (cut s) (sym (append-nil text)) ∙ cut-front s text [] h ∙ ap (λ piece. piece ∷ []) (append-nil text)

-- what a search for a byte says of the bytes before the place
pub HasNo-take : (s n : ℕ) (bytes : List ℕ) → n ≤ length bytes → ((k : ℕ) → k < n → slice_index bytes k ≢ s) → HasNo s (take n bytes)
HasNo-take s zero bytes h none = tt
HasNo-take s (suc n) [] h none = absurd (omega arith)
HasNo-take s (suc n) (b ∷ bs) h none = (none 0 (omega arith), HasNo-take s n bs (omega arith) (λ k lt. none (suc k) (omega arith)))

pub HasNo-both : (s : ℕ) (front more : List ℕ) → HasNo s front → HasNo s more → HasNo s (front ++ more)
HasNo-both s [] more h m = m
HasNo-both s (b ∷ bs) more h m = (h.0, HasNo-both s bs more h.1 m)

-- a list about one place of it
parts : (i : ℕ) (xs : List ℕ) (x : ℕ) → i < length xs → slice_index xs i ≡ x → take i xs ++ x ∷ drop (suc i) xs ≡ xs
parts zero (y ∷ ys) x h e = ap (λ (b : ℕ). b ∷ ys) (sym e)
parts (suc i) (y ∷ ys) x h e = ap (λ (rest : List ℕ). y ∷ rest) (parts i ys x (omega arith) e)
parts i [] x h e = absurd (omega arith)

pub parted : (i : ℕ) (xs : List ℕ) (x : ℕ) → i < length xs → slice_index xs i ≡ x → take i xs ++ x ∷ drop (i + 1) xs ≡ xs
parted i xs x h e = rw add-one (parts i xs x h e)
