-- A node by its counts: what it decides and enters, and how the counts change where one member more is decided.
use Rattle.std.proofs.Common.{◌≡◌, ℕ, zero, suc, ◌+◌, ◌^◌, ◌<◌, ◌≤◌, Bool, true, false, ◌||◌, ◌&&◌, ◌⊎◌, inl, inr, cond, if◌then◌else◌, not, nat_lt, List, [], ◌∷◌, Some, unwrap_or, length, get_or, set, take, replicate, slice_get, refl, sym, ap, ◌∙◌, length-take, arith}
use Rattle.std.specs.List.{count_by, find, list_any, prefix_len}
use Rattle.std.proofs.lemmas.Bool.{cases_lt, false≢true}
use Rattle.std.proofs.lemmas.Bool.Decides.{nat_tests}
use Rattle.std.proofs.lemmas.List.Sums.{count_by-le-length, prefix_len-le-length, prefix_len_passes, sum_by-cons, sum_by-set}
use Rattle.std.proofs.lemmas.Option.{unwrap_or-slice_get}
use Rattle.hive_model.specs.Decision.{before_flags, is_undecided, is_fixing, fixing, neutral, strict, concurrent, sequential}
use Rattle.hive_model.specs.Reached.{passes, entered}
use Rattle.hive_model.specs.Sequence.{Sequence}
use Rattle.hive_model.specs.declared.decision.Decision.{Decision}
use Rattle.decision_nodes.specs.Counting.{IsCounted, IsCountedBefore}
use Rattle.decision_nodes.specs.declared.deciding.Counts.{Counts}
use Rattle.hive_model.specs.declared.decision.Decision.TheVariants.{True, False, Undecided}

-- whether some pass, by how many do

one_more : (b c : Bool) (n : ℕ) → c ≡ nat_lt 0 n → (b || c) ≡ nat_lt 0 (cond b 1 0 + n)
one_more true c n e = grind (arith, nat_tests)
one_more false c n e = grind (arith, nat_tests)

any_count : {X : Type 0} (p : X → Bool) (xs : List X) → list_any p xs ≡ nat_lt 0 (count_by p xs)
any_count p [] = refl
any_count p (x ∷ xs) =
    one_more (p x) (list_any p xs) (count_by p xs) (any_count p xs) ∙ ap (nat_lt 0) (sym (sum_by-cons (λ y. cond (p y) 1 0) x xs))

positive : (n : ℕ) → 0 < n → nat_lt 0 n ≡ true
positive n h = grind (arith, nat_tests)

nothing : (n : ℕ) → n ≡ 0 → nat_lt 0 n ≡ false
nothing n h = grind (arith, nat_tests)

any_some : {X : Type 0} (p : X → Bool) (xs : List X) (n : ℕ) → n ≡ count_by p xs → 0 < n → list_any p xs ≡ true
any_some p xs n e h = any_count p xs ∙ ap (nat_lt 0) (sym e) ∙ positive n h

any_none : {X : Type 0} (p : X → Bool) (xs : List X) (n : ℕ) → n ≡ count_by p xs → n ≤ 0 → list_any p xs ≡ false
any_none p xs n e h = any_count p xs ∙ ap (nat_lt 0) (sym e) ∙ nothing n (omega arith)

-- the kinds of node

pub strict_waits : (mode_or : Bool) (states : List Decision) (n : ℕ) → n ≡ count_by is_undecided states → 0 < n → Undecided ≡ strict mode_or states
strict_waits mode_or states n e h = rw (any_some is_undecided states n e h) refl

pub strict_fixed : (mode_or : Bool) (states : List Decision) (n k : ℕ) → n ≡ count_by is_undecided states → n ≤ 0 →
    k ≡ count_by (is_fixing mode_or) states → 0 < k → fixing mode_or ≡ strict mode_or states
strict_fixed mode_or states n k e h f g = rw (any_none is_undecided states n e h, any_some (is_fixing mode_or) states k f g) refl

pub strict_neutral : (mode_or : Bool) (states : List Decision) (n k : ℕ) → n ≡ count_by is_undecided states → n ≤ 0 →
    k ≡ count_by (is_fixing mode_or) states → k ≤ 0 → neutral mode_or ≡ strict mode_or states
strict_neutral mode_or states n k e h f g = rw (any_none is_undecided states n e h, any_none (is_fixing mode_or) states k f g) refl

pub concurrent_fixed : (mode_or : Bool) (states : List Decision) (k : ℕ) → k ≡ count_by (is_fixing mode_or) states → 0 < k →
    fixing mode_or ≡ concurrent mode_or states
concurrent_fixed mode_or states k f g = rw (any_some (is_fixing mode_or) states k f g) refl

pub concurrent_waits : (mode_or : Bool) (states : List Decision) (n k : ℕ) → k ≡ count_by (is_fixing mode_or) states → k ≤ 0 →
    n ≡ count_by is_undecided states → 0 < n → Undecided ≡ concurrent mode_or states
concurrent_waits mode_or states n k f g e h = rw (any_none (is_fixing mode_or) states k f g, any_some is_undecided states n e h) refl

pub concurrent_neutral : (mode_or : Bool) (states : List Decision) (n k : ℕ) → k ≡ count_by (is_fixing mode_or) states → k ≤ 0 →
    n ≡ count_by is_undecided states → n ≤ 0 → neutral mode_or ≡ concurrent mode_or states
concurrent_neutral mode_or states n k f g e h = rw (any_none (is_fixing mode_or) states k f g, any_none is_undecided states n e h) refl

-- in a short-circuit node the first that isn't passed is the first that is undecided or fixes
find_more : (q : Sequence) (d : Decision) (states : List Decision) (b goes : Bool) → goes ≡ not b →
    find (λ d. is_undecided d || is_fixing q.mode_or d) states ≡ slice_get states (prefix_len (passes q) states) →
    cond b (Some d) (find (λ d. is_undecided d || is_fixing q.mode_or d) states)
    ≡ slice_get (d ∷ states) (cond goes (1 + prefix_len (passes q) states) 0)
find_more q d states true goes e h = rw e refl
find_more q d states false goes e h = rw e (h ∙ ap (slice_get (d ∷ states)) (next (prefix_len (passes q) states)))
  where
    next : (n : ℕ) → suc n ≡ 1 + n
    next n = omega arith

find_passed : (q : Sequence) (states : List Decision) → q.short_circuit ≡ true →
    find (λ d. is_undecided d || is_fixing q.mode_or d) states ≡ slice_get states (prefix_len (passes q) states)
find_passed q [] e = refl
find_passed q (True ∷ states) e =
    find_more q True states q.mode_or (not (q.short_circuit && q.mode_or)) (ap (λ b. not (b && q.mode_or)) e) (find_passed q states e)
find_passed q (False ∷ states) e =
    find_more q False states (not q.mode_or) (not (q.short_circuit && not q.mode_or)) (ap (λ b. not (b && not q.mode_or)) e) (find_passed q states e)
find_passed q (Undecided ∷ states) e = refl

pub sequential_at : (q : Sequence) (states : List Decision) (passed : ℕ) → q.short_circuit ≡ true → passed ≡ prefix_len (passes q) states →
    get_or states passed (neutral q.mode_or) ≡ sequential q.mode_or states
sequential_at q states passed e p =
    ap (λ k. get_or states k (neutral q.mode_or)) p
    ∙ sym (unwrap_or-slice_get states (prefix_len (passes q) states) (neutral q.mode_or))
    ∙ sym (ap (λ o. unwrap_or o (neutral q.mode_or)) (find_passed q states e))

-- the table by kinds

pub before_strict : (q : Sequence) (states : List Decision) → q.short_circuit ≡ false → before_flags q states ≡ strict q.mode_or states
before_strict q states e = rw e refl

pub before_concurrent : (q : Sequence) (states : List Decision) → q.short_circuit ≡ true → q.sequential ≡ false →
    before_flags q states ≡ concurrent q.mode_or states
before_concurrent q states e f = rw (e, f) refl

-- how many it enters

pub entered_within : (q : Sequence) (states : List Decision) → length (entered q states) ≤ length q.members
unfolding entered
entered_within q states =
    elim q.sequential as (λ b. length (if b then take (prefix_len (passes q) states + 1) q.members else q.members) ≤ length q.members) [
      | true ↦ let cut = length-take (prefix_len (passes q) states + 1) q.members in omega (arith, cut)
      | false ↦ omega arith
    ]

pub entered_some : (q : Sequence) (states : List Decision) (passed : ℕ) → q.sequential ≡ true → passed ≡ prefix_len (passes q) states →
    length states ≡ length q.members → passed < length states → passed + 1 ≡ length (entered q states)
unfolding entered
entered_some q states passed e p long h = rw e (let cut = length-take (prefix_len (passes q) states + 1) q.members in omega (arith, cut))

pub entered_all : (q : Sequence) (states : List Decision) (passed : ℕ) → (q.sequential ≡ true → length states ≤ passed) →
    passed ≡ prefix_len (passes q) states → length states ≡ length q.members → length states ≡ length (entered q states)
unfolding entered
entered_all q states passed e p long =
    elim q.sequential
    as (λ b. (b ≡ true → length states ≤ passed) → length states ≡ length (if b then take (prefix_len (passes q) states + 1) q.members else q.members)) [
      | true ↦ λ far. (let cut = length-take (prefix_len (passes q) states + 1) q.members in let past = far refl in omega (arith, cut, past))
      | false ↦ λ far. long
    ]
    e

-- no member is decided

pub none_undecided : (n : ℕ) → n ≡ count_by is_undecided (replicate n Undecided)
none_undecided zero = refl
none_undecided (suc n) =
    let rest = none_undecided n in
    let first = sum_by-cons (λ y. cond (is_undecided y) 1 0) Undecided (replicate n Undecided) in
    omega (arith, rest, first)

pub none_fixing : (mode_or : Bool) (n : ℕ) → 0 ≡ count_by (is_fixing mode_or) (replicate n Undecided)
none_fixing mode_or zero = refl
none_fixing mode_or (suc n) =
    let rest = none_fixing mode_or n in
    let first = sum_by-cons (λ y. cond (is_fixing mode_or y) 1 0) Undecided (replicate n Undecided) in
    omega (arith, rest, first)

pub none_passed : (q : Sequence) (n : ℕ) → 0 ≡ prefix_len (passes q) (replicate n Undecided)
none_passed q zero = refl
none_passed q (suc n) = refl

-- one member further

one_further : (b : Bool) (i n : ℕ) → suc i ≤ cond b (1 + n) 0 → (i ≤ n → i + 1 ≤ n) → suc i + 1 ≤ cond b (1 + n) 0
one_further true i n le more = let far = more (omega arith) in omega (arith, far)
one_further false i n le more = absurd (omega arith)

pub passed_more : {X : Type 0} (p : X → Bool) (xs : List X) (i : ℕ) (d : X) → i ≤ prefix_len p xs → i < length xs →
    p (get_or xs i d) ≡ true → i + 1 ≤ prefix_len p xs
passed_more p [] i d le lt e = absurd (omega arith)
passed_more p (x ∷ xs) zero d le lt e = rw e (omega arith)
passed_more p (x ∷ xs) (suc i) d le lt e = one_further (p x) i (prefix_len p xs) le (λ less. passed_more p xs i d less (omega arith) e)

pub passed_end : {X : Type 0} (p : X → Bool) (xs : List X) (i : ℕ) (d : X) → i ≤ prefix_len p xs → i < length xs →
    p (get_or xs i d) ≡ false → i ≡ prefix_len p xs
passed_end p xs i d le lt e = by (cases_lt i (prefix_len p xs))
  where
    by : (i < prefix_len p xs) ⊎ (prefix_len p xs ≤ i) → i ≡ prefix_len p xs
    by (inl less) = absurd (false≢true (sym e ∙ prefix_len_passes p xs i d less))
    by (inr far) = omega arith

pub passed_all : {X : Type 0} (p : X → Bool) (xs : List X) (i : ℕ) → i ≤ prefix_len p xs → length xs ≤ i → i ≡ prefix_len p xs
passed_all p xs i le far = let most = prefix_len-le-length p xs in omega (arith, most)

-- one member more is decided

pub count_one : {X : Type 0} (p : X → Bool) (xs : List X) (i : ℕ) (y d : X) → i < length xs →
    count_by p (set xs i y) + cond (p (get_or xs i d)) 1 0 ≡ count_by p xs + cond (p y) 1 0
count_one p xs i y d lt = sum_by-set (λ x. cond (p x) 1 0) xs i y d lt

further : {X : Type 0} (p : X → Bool) (xs : List X) (i : ℕ) (y d : X) → i < length xs → p (get_or xs i d) ≡ false →
    prefix_len p xs ≤ prefix_len p (set xs i y)
further p [] i y d lt e = absurd (omega arith)
further p (x ∷ xs) zero y d lt e = rw e (omega arith)
further p (x ∷ xs) (suc i) y d lt e = longer (p x) (prefix_len p xs) (prefix_len p (set xs i y)) (further p xs i y d (omega arith) e)
  where
    longer : (b : Bool) (m n : ℕ) → m ≤ n → cond b (1 + m) 0 ≤ cond b (1 + n) 0
    longer true m n h = omega arith
    longer false m n h = omega arith

one_or_none : (b : Bool) (n old new : ℕ) → n ≡ old → new + 0 ≡ old + cond b 1 0 → (if b then n + 1 else n) ≡ new
one_or_none true n old new e both = omega arith
one_or_none false n old new e both = omega arith

pub counted_before : (q : Sequence) (states : List Decision) (counts : Counts) (place : ℕ) (decision d : Decision) → length states < 2 ^ 63 →
    IsCounted q states counts → place < length states → is_undecided (get_or states place d) ≡ true → is_undecided decision ≡ false →
    IsCountedBefore q (set states place decision) counts decision
counted_before q states counts place decision d short now lt was is =
    let old : get_or states place d ≡ Undecided = undecided_is (get_or states place d) was in
    let unfixed : is_fixing q.mode_or (get_or states place d) ≡ false = ap (is_fixing q.mode_or) old in
    let stopped : passes q (get_or states place d) ≡ false = ap (passes q) old in
    let less = count_one is_undecided states place decision d lt in
    let more = count_one (is_fixing q.mode_or) states place decision d lt in
    let few = count_by-le-length (is_fixing q.mode_or) states in
    record {
      undecided_were = one_less is_undecided states place decision d counts.undecided now.undecided_are was is lt;
      fixing_were = with_one (is_fixing q.mode_or) states place decision d counts.fixing now.fixing_are unfixed lt;
      passed_were = let far = further (passes q) states place decision d lt stopped in let are = now.passed_are in omega (arith, far, are);
      fits = let are = now.fixing_are in omega (arith, few, are, short);
    }
  where
    undecided_is : (x : Decision) → is_undecided x ≡ true → x ≡ Undecided
    undecided_is True e = absurd (false≢true e)
    undecided_is False e = absurd (false≢true e)
    undecided_is Undecided e = refl

    one_less : {X : Type 0} (p : X → Bool) (xs : List X) (i : ℕ) (y d : X) (n : ℕ) → n ≡ count_by p xs → p (get_or xs i d) ≡ true → p y ≡ false →
        i < length xs → n ≡ count_by p (set xs i y) + 1
    one_less p xs i y d n e was is lt =
        let both : count_by p (set xs i y) + cond (p (get_or xs i d)) 1 0 ≡ count_by p xs + cond (p y) 1 0 = count_one p xs i y d lt in
        omega (arith, e, rw (was, is) at both)

    with_one : {X : Type 0} (p : X → Bool) (xs : List X) (i : ℕ) (y d : X) (n : ℕ) → n ≡ count_by p xs → p (get_or xs i d) ≡ false →
        i < length xs → (if p y then n + 1 else n) ≡ count_by p (set xs i y)
    with_one p xs i y d n e was lt =
        let both : count_by p (set xs i y) + cond (p (get_or xs i d)) 1 0 ≡ count_by p xs + cond (p y) 1 0 = count_one p xs i y d lt in
        one_or_none (p y) n (count_by p xs) (count_by p (set xs i y)) e (rw was at both)
