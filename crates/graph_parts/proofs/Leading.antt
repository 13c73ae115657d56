-- What leads to what: one step more, more steps, and numbers from which no number of steps leads anywhere else.
use Rattle.std.proofs.Common.{◌≡◌, ◌≢◌, ℕ, zero, suc, ◌+◌, ◌<◌, ◌≤◌, nat_eq, Bool, true, false, ◌||◌, List, [], ◌∷◌, length, get_or, All, refl, ap, sym, ◌∙◌, ⊎_elim, arith, Global}
use Rattle.std.proofs.lemmas.Bool.{ne_eqb, eq-eqb, eqb-true, or_cases, or_left, or_right, or_from}
use Rattle.std.proofs.lemmas.List.Elements.{All-tail}
use Rattle.std.proofs.lemmas.List.Folds.{list_any_at, list_any_none}
use Rattle.std.specs.List.{Contains, list_any}
use Rattle.std.specs.declared.vec.Vec.{Vec}
use Rattle.text_model.specs.Walks.{leads_within}
use Rattle.graph_parts.specs.Links.{links}

pub links-within : (size : ℕ) (vs : List (Vec ℕ Global)) (n : ℕ) → All (λ (v : Vec ℕ Global). All (λ t. t < size) v.items) vs → All (λ t. t < size) (links vs n)
links-within size [] n all = λ k d h. absurd (omega arith)
links-within size (v ∷ vs) zero all = all 0 v (omega arith)
links-within size (v ∷ vs) (suc n) all = links-within size vs n (All-tail (λ (v : Vec ℕ Global). All (λ t. t < size) v.items) v vs all)

any-mono : {X : Type 0} (p q : X → Bool) → ((x : X) → p x ≡ true → q x ≡ true) → (xs : List X) → list_any p xs ≡ true → list_any q xs ≡ true
any-mono p q h [] e = e
any-mono p q h (x ∷ xs) e = ⊎_elim (λ here. or_left (q x) (list_any q xs) (h x here)) (λ later. or_right (q x) (list_any q xs) (any-mono p q h xs later)) (or_cases (p x) (list_any p xs) e)

pub leads-more : (next : ℕ → List ℕ) (k m a b : ℕ) → k ≤ m → leads_within next k a b ≡ true → leads_within next m a b ≡ true
unfolding leads_within
leads-more next zero m a b h e = cc
leads-more next (suc k) zero a b h e = absurd (omega arith)
leads-more next (suc k) (suc m) a b h e =
    any-mono (λ n. nat_eq n b || leads_within next k n b) (λ n. nat_eq n b || leads_within next m n b)
    (λ n it. ⊎_elim (λ here. or_left (nat_eq n b) (leads_within next m n b) here)
    (λ later. or_right (nat_eq n b) (leads_within next m n b) (leads-more next k m n b (omega arith) later)) (or_cases (nat_eq n b) (leads_within next k n b) it))
    (next a) e

pub leads-one : (next : ℕ → List ℕ) (k a b : ℕ) → Contains (next a) b → leads_within next (suc k) a b ≡ true
unfolding leads_within
leads-one next k a b there =
    let same : nat_eq (get_or (next a) there.0 b) b ≡ true = eq-eqb (get_or (next a) there.0 b) b there.2 in
    list_any_at (λ n. nat_eq n b || leads_within next k n b) (next a) there.0 b there.1
    (or_left (nat_eq (get_or (next a) there.0 b) b) (leads_within next k (get_or (next a) there.0 b) b) same)

pub leads-on : (next : ℕ → List ℕ) (k a b c : ℕ) → leads_within next k a b ≡ true → Contains (next b) c → leads_within next (suc k) a c ≡ true
unfolding leads_within
leads-on next zero a b c e there = cc
leads-on next (suc k) a b c e there =
    any-mono (λ n. nat_eq n b || leads_within next k n b) (λ n. nat_eq n c || leads_within next (suc k) n c)
    (λ n it. or_right (nat_eq n c) (leads_within next (suc k) n c)
    (⊎_elim (λ here. leads-one next k n c (rw (eqb-true n b here) there))
    (λ later. leads-on next k n b c later there)
    (or_cases (nat_eq n b) (leads_within next k n b) it)))
    (next a) e

-- from numbers that lead to such numbers alone, and never to one number, no steps lead to it
pub leads-never : (next : ℕ → List ℕ) (to : ℕ) (Is : ℕ → Type 0) → ((n : ℕ) → Is n → All (λ t. Is t × (t ≢ to)) (next n)) →
    (steps n : ℕ) → Is n → leads_within next steps n to ≡ false
unfolding leads_within
leads-never next to Is closed zero n is = refl
leads-never next to Is closed (suc steps) n is =
    list_any_none (λ t. nat_eq t to || leads_within next steps t to) (next n)
    (λ k d h. or_from (nat_eq (get_or (next n) k d) to) (leads_within next steps (get_or (next n) k d) to)
    (ne_eqb (get_or (next n) k d) to ((closed n is k d h).1))
    (leads-never next to Is closed steps (get_or (next n) k d) ((closed n is k d h).0)))
