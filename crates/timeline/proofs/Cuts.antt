-- A text and its pieces: putting the pieces together again undoes the cut, and the cut undoes putting pieces
-- together that have no separator in them.
use Rattle.std.proofs.Common.{◌≡◌, ◌≢◌, ℕ, zero, suc, ◌+◌, ◌<◌, ◌≤◌, ◌==◌, Bool, true, false, List, [], ◌∷◌, ◌++◌, length, take, drop, slice_index, refl, ap, sym, ◌∙◌, arith, add-one}
use Rattle.std.proofs.lemmas.Bool.Decides.{nat_tests}
use Rattle.text_model.specs.Pieces.{cut, onto}

-- the pieces with a separator between any two
abbrev pub joined : ℕ → List (List ℕ) → List ℕ
joined s [] = []
joined s (piece ∷ []) = piece
joined s (piece ∷ next ∷ pieces) = piece ++ s ∷ joined s (next ∷ pieces)

-- there is always a first piece
pub record Pieces (separator : ℕ) (text : List ℕ) : Type 0 where
  pub head : List ℕ
  pub others : List (List ℕ)
  pub is : cut separator text ≡ head ∷ others

pub pieces_of : (s : ℕ) (text : List ℕ) → Pieces s text
unfolding cut
pieces_of s [] = record { head = []; others = []; is = refl }
pieces_of s (b ∷ bs) = by (b == s) refl (pieces_of s bs)
  where
    by : (t : Bool) → (b == s) ≡ t → Pieces s bs → Pieces s (b ∷ bs)
    by true e later = record { head = []; others = cut s bs; is = rw e refl }
    by false e later = record { head = b ∷ later.head; others = later.others; is = rw (e, later.is) refl }

pub cut-some : (s : ℕ) (text : List ℕ) → cut s text ≡ [] → ⊥
cut-some s text e = let p = pieces_of s text in cc

-- no byte of the text is this one
abbrev pub Lacks : ℕ → List ℕ → Type 0
Lacks byte [] = Unit {0}
Lacks byte (b ∷ bs) = (b ≢ byte) × Lacks byte bs

other : (b s : ℕ) → b ≢ s → (b == s) ≡ false
other b s h = grind (arith, nat_tests)

pub cut_whole : (s : ℕ) (piece : List ℕ) → Lacks s piece → cut s piece ≡ piece ∷ []
unfolding cut
cut_whole s [] h = refl
cut_whole s (b ∷ bs) h =
    let e : (b == s) ≡ false = other b s h.0 in
    let later : cut s bs ≡ bs ∷ [] = cut_whole s bs h.1 in
    rw (e, later) refl

pub cut_first : (s : ℕ) (piece rest : List ℕ) → Lacks s piece → cut s (piece ++ s ∷ rest) ≡ piece ∷ cut s rest
unfolding cut
cut_first s [] rest h = let e : (s == s) ≡ true = grind (arith, nat_tests) in rw e refl
cut_first s (b ∷ bs) rest h =
    let e : (b == s) ≡ false = other b s h.0 in
    let later : cut s (bs ++ s ∷ rest) ≡ bs ∷ cut s rest = cut_first s bs rest h.1 in
    rw (e, later) refl

-- every piece lacks the separator
abbrev pub AllLack : ℕ → List (List ℕ) → Type 0
AllLack s [] = Unit {0}
AllLack s (piece ∷ pieces) = Lacks s piece × AllLack s pieces

pub cut-joined : (s : ℕ) (piece : List ℕ) (pieces : List (List ℕ)) → AllLack s (piece ∷ pieces) →
    cut s (joined s (piece ∷ pieces)) ≡ piece ∷ pieces
cut-joined s piece [] h = cut_whole s piece h.0
cut-joined s piece (next ∷ pieces) h =
    cut_first s piece (joined s (next ∷ pieces)) h.0
    ∙ ap (λ (it : List (List ℕ)). piece ∷ it) (cut-joined s next pieces h.1)

pub joined-cut : (s : ℕ) (text : List ℕ) → joined s (cut s text) ≡ text
unfolding cut
joined-cut s [] = refl
joined-cut s (b ∷ bs) = by (b == s) refl (pieces_of s bs) (joined-cut s bs)
  where
    onto-joined : (head : List ℕ) (others : List (List ℕ)) →
        joined s (onto b (head ∷ others)) ≡ b ∷ joined s (head ∷ others)
    onto-joined head [] = refl
    onto-joined head (next ∷ others) = refl

    by : (t : Bool) → (b == s) ≡ t → Pieces s bs → joined s (cut s bs) ≡ bs →
        joined s (cut s (b ∷ bs)) ≡ b ∷ bs
    by true e p later =
        let same : b ≡ s = grind (arith, nat_tests) in
        let whole : joined s (p.head ∷ p.others) ≡ bs = ap (joined s) (sym p.is) ∙ later in
        rw (e, p.is, same) (ap (λ (it : List ℕ). s ∷ it) whole)
    by false e p later =
        let whole : joined s (p.head ∷ p.others) ≡ bs = ap (joined s) (sym p.is) ∙ later in
        rw (e, p.is) (onto-joined p.head p.others ∙ ap (λ (it : List ℕ). b ∷ it) whole)

pub lacks_both : (s : ℕ) (front back : List ℕ) → Lacks s front → Lacks s back → Lacks s (front ++ back)
lacks_both s [] back h k = k
lacks_both s (b ∷ bs) back h k = (h.0, lacks_both s bs back h.1 k)

pub joined_lacks : (s byte : ℕ) (pieces : List (List ℕ)) → s ≢ byte → AllLack byte pieces →
    Lacks byte (joined s pieces)
joined_lacks s byte [] h k = tt
joined_lacks s byte (piece ∷ []) h k = k.0
joined_lacks s byte (piece ∷ next ∷ pieces) h k =
    lacks_both byte piece (s ∷ joined s (next ∷ pieces)) k.0 (h, joined_lacks s byte (next ∷ pieces) h k.1)

-- what a search for a byte says of the bytes before the place
pub lacks_before : (s n : ℕ) (bytes : List ℕ) → n ≤ length bytes →
    ((k : ℕ) → k < n → slice_index bytes k ≢ s) → Lacks s (take n bytes)
lacks_before s zero bytes h none = tt
lacks_before s (suc n) [] h none = absurd (omega arith)
lacks_before s (suc n) (b ∷ bs) h none =
    (none 0 (omega arith), lacks_before s n bs (omega arith) (λ k lt. none (suc k) (omega arith)))

-- a list about one place of it
about : (i : ℕ) (xs : List ℕ) (x : ℕ) → i < length xs → slice_index xs i ≡ x →
    take i xs ++ x ∷ drop (suc i) xs ≡ xs
about zero (y ∷ ys) x h e = ap (λ (b : ℕ). b ∷ ys) (sym e)
about (suc i) (y ∷ ys) x h e = ap (λ (rest : List ℕ). y ∷ rest) (about i ys x (omega arith) e)
about i [] x h e = absurd (omega arith)

pub cut_at : (s i : ℕ) (text : List ℕ) → i < length text → slice_index text i ≡ s →
    ((k : ℕ) → k < i → slice_index text k ≢ s) → cut s text ≡ take i text ∷ cut s (drop (i + 1) text)
cut_at s i text h e none =
    let whole : take i text ++ s ∷ drop (suc i) text ≡ text = about i text s h e in
    rw add-one (ap (cut s) (sym whole) ∙ cut_first s (take i text) (drop (suc i) text)
    (lacks_before s i text (omega arith) none))
