-- A relation on numbers below a count: a path leads within as many steps as it has, a cycle has one in it that passes no number
-- twice, and so one that takes no more steps than there are numbers.
use Rattle.std.proofs.Common.{◌≡◌, ℕ, zero, suc, ◌<◌, ◌≤◌, nat_eq, Bool, true, false, ◌||◌, List, [], ◌∷◌, length, ◌⊎◌, inl, inr, ⊎_elim, refl, arith}
use Rattle.std.proofs.lemmas.Bool.{eq-eqb, eqb-true, or_left, or_right}
use Rattle.std.proofs.lemmas.Map.Steps.{length-le_from_distinct_below}
use Rattle.std.specs.List.{AllByRecursion, IsDistinct, list_any}
use Rattle.hive_model.specs.Paths.{HasNoCycle, IsPath}
use Rattle.text_model.specs.Walks.{leads_within}
use Rattle.text_laws.proofs.Lists.{any-none}

-- each number that is related to one is among those that it leads to
abbrev pub Leads : (ℕ → ℕ → Type 0) → (ℕ → List ℕ) → Type 0
Leads R next = (m n : ℕ) → R m n → (p : ℕ → Bool) → p n ≡ true → list_any p (next m) ≡ true

pub path-leads : (R : ℕ → ℕ → Type 0) (next : ℕ → List ℕ) → Leads R next → (steps from : ℕ) (between : List ℕ) (to : ℕ) → IsPath R from between to →
    length between < steps → leads_within next steps from to ≡ true
unfolding leads_within
path-leads R next leads zero from between to p h = absurd (omega (arith, h))
path-leads R next leads (suc steps) from [] to p h =
    leads from to p (λ n. nat_eq n to || leads_within next steps n to) (or_left (nat_eq to to) (leads_within next steps to to) (eq-eqb to to refl))
path-leads R next leads (suc steps) from (n ∷ between) to p h =
    leads from n p.0 (λ n. nat_eq n to || leads_within next steps n to)
    (or_right (nat_eq n to) (leads_within next steps n to) (path-leads R next leads steps n between to p.1 (omega (arith, h))))

-- a way back to some number, over fewer numbers than that
record HasLoop (R : ℕ → ℕ → Type 0) (fewer : ℕ) : Type 0 where
  number : ℕ
  between : List ℕ
  few : length between < fewer
  path : IsPath R number between number

-- the beginning of a path, up to a number that it passes
record Reaches (R : ℕ → ℕ → Type 0) (from to fewer : ℕ) : Type 0 where
  between : List ℕ
  few : length between < fewer
  path : IsPath R from between to

cut-path : (R : ℕ → ℕ → Type 0) (x from : ℕ) (between : List ℕ) (to : ℕ) → IsPath R from between to → list_any (nat_eq x) between ≡ true →
    Reaches R from x (length between)
cut-path R x from [] to p e = cc
cut-path R x from (n ∷ between) to p e = by (nat_eq x n) refl e (λ later. cut-path R x n between to p.1 later)
  where
    by : (t : Bool) → nat_eq x n ≡ t → (t || list_any (nat_eq x) between) ≡ true → (list_any (nat_eq x) between ≡ true → Reaches R n x (length between)) →
        Reaches R from x (length (n ∷ between))
    by true test h rest =
        let same : x ≡ n = eqb-true x n test in record { between = []; few = omega arith; path = rw same p.0 }
    by false test h rest =
        let it = rest h in let short = it.few in record { between = n ∷ it.between; few = omega (arith, short); path = (p.0, it.path) }

find-loop : (R : ℕ → ℕ → Type 0) (from : ℕ) (between : List ℕ) (to : ℕ) → IsPath R from between to →
    HasLoop R (length between) ⊎ IsDistinct nat_eq (from ∷ between)
unfolding IsDistinct
find-loop R from [] to p = inr (tt, tt)
find-loop R from (n ∷ between) to p = by (list_any (nat_eq from) (n ∷ between)) refl (find-loop R n between to p.1)
  where
    by : (t : Bool) → list_any (nat_eq from) (n ∷ between) ≡ t → HasLoop R (length between) ⊎ IsDistinct nat_eq (n ∷ between) →
        HasLoop R (length (n ∷ between)) ⊎ IsDistinct nat_eq (from ∷ n ∷ between)
    by true e rest =
        let it = cut-path R from from (n ∷ between) to p e in
        inl (record { number = from; between = it.between; few = it.few; path = it.path })
    by false e (inl loop) =
        let short = loop.few in
        inl (record { number = loop.number; between = loop.between; few = omega (arith, short); path = loop.path })
    by false e (inr distinct) = inr (any-none (nat_eq from) (n ∷ between) e, distinct)

path-within : (R : ℕ → ℕ → Type 0) (count : ℕ) → ((m n : ℕ) → R m n → n < count) → (from : ℕ) (between : List ℕ) (to : ℕ) → IsPath R from between to →
    AllByRecursion (λ n. n < count) between × (to < count)
path-within R count inside from [] to p = (tt, inside from to p)
path-within R count inside from (n ∷ between) to p =
    let (later, last) = path-within R count inside n between to p.1 in ((inside from n p.0, later), last)

any-below : (count : ℕ) (xs : List ℕ) (q : ℕ) → AllByRecursion (λ n. n < count) xs → list_any (nat_eq q) xs ≡ true → q < count
any-below count [] q all e = cc
any-below count (x ∷ xs) q (h, hs) e = by (nat_eq q x) refl e (λ later. any-below count xs q hs later)
  where
    by : (t : Bool) → nat_eq q x ≡ t → (t || list_any (nat_eq q) xs) ≡ true → (list_any (nat_eq q) xs ≡ true → q < count) → q < count
    by true test found rest = let same : q ≡ x = eqb-true q x test in rw same h
    by false test found rest = rest found

abbrev IsShort : (ℕ → ℕ → Type 0) → ℕ → Type 0
IsShort R count = (n : ℕ) (between : List ℕ) → n < count → length between < count → IsPath R n between n → ⊥

-- a cycle that passes no number twice is short
distinct-short : (R : ℕ → ℕ → Type 0) (count : ℕ) → ((m n : ℕ) → R m n → n < count) → IsShort R count → (n : ℕ) (between : List ℕ) → IsPath R n between n →
    IsDistinct nat_eq (n ∷ between) → ⊥
distinct-short R count inside none n between p distinct =
    let (each, last) = path-within R count inside n between n p in
    let few = length-le_from_distinct_below (n ∷ between) count distinct (λ q e. any-below count (n ∷ between) q (last, each) e) in
    none n between last (omega (arith, few)) p

loop-free : (R : ℕ → ℕ → Type 0) (count : ℕ) → ((m n : ℕ) → R m n → n < count) → IsShort R count → (k n : ℕ) (between : List ℕ) → length between ≤ k →
    IsPath R n between n → ⊥
loop-free R count inside none zero n between h p =
    ⊎_elim (λ (loop : HasLoop R (length between)). let less = loop.few in absurd (omega (arith, h, less))) (distinct-short R count inside none n between p)
    (find-loop R n between n p)
loop-free R count inside none (suc k) n between h p =
    ⊎_elim (λ (loop : HasLoop R (length between)).
    let less = loop.few in loop-free R count inside none k loop.number loop.between (omega (arith, h, less)) loop.path)
    (distinct-short R count inside none n between p) (find-loop R n between n p)

-- Where no number comes back to itself over fewer numbers than there are, none does at all.
pub no_short-no_cycle : (R : ℕ → ℕ → Type 0) (count : ℕ) → ((m n : ℕ) → R m n → n < count) →
    ((n : ℕ) (between : List ℕ) → n < count → length between < count → IsPath R n between n → ⊥) → HasNoCycle R
no_short-no_cycle R count inside none n cycle = loop-free R count inside none (length cycle.0) n cycle.0 (omega arith) cycle.1
