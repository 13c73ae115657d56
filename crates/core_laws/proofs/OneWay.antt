-- A sequence stands in one other at most, and what has a leaf below a cut node has no other. So each
-- sequence above such a leaf is on the leaf's way up to the top.
use Rattle.std.proofs.Common.{◌≡◌, ◌⊎◌, ℕ, zero, suc, ◌+◌, ◌<◌, ◌≤◌, nat_eq, Bool, true, false, ◌||◌, List, [], ◌∷◌, ◌++◌, count_by, filter_map, slice_get, Option, Some, None, Contains, inl, inr, refl, sym, ap, ◌∙◌, arith}
use Rattle.std.proofs.lemmas.Bool.{eq-eqb, eqb-true, false≢true}
use Rattle.std.proofs.lemmas.List.Folds.{list_any-append}
use Rattle.std.proofs.lemmas.List.Sums.{sum_by-append}
use Rattle.std.proofs.lemmas.Option.{same_Some, none-some}
use Rattle.std.specs.List.{AllByRecursion, IsDistinct, cons_option, flat_map, list_any}
use Rattle.std.specs.Option.{option_map_or}
use Rattle.core_laws.proofs.Counting.{count-cons, one_if}
use Rattle.core_laws.specs.Ways.{IsMemberIn, IsWay}
use Rattle.hive_model.specs.Below.{below, below_within, is_algorithm_below}
use Rattle.hive_model.specs.ControlFlow.{algorithm_number, all_members, leaves, member_sequences, sequence_number}
use Rattle.hive_model.specs.Job.{Job}
use Rattle.hive_model.specs.Reached.{is_leaf_of}
use Rattle.hive_model.specs.Sequence.{Sequence}
use Rattle.hive_model.specs.Valid.{IsValidJob}
use Rattle.hive_model.specs.declared.limits.TheConstants.{MOST_DEPTH}
use Rattle.hive_model.specs.declared.sequence.Member.{Member}
use Rattle.hive_model.specs.declared.sequence.Member.TheVariants.{Alg, Seq}

-- how often a number comes among the members of sequences

append-cons : (o : Option ℕ) (xs ys : List ℕ) → cons_option o (xs ++ ys) ≡ cons_option o xs ++ ys
append-cons None xs ys = refl
append-cons (Some x) xs ys = refl

numbers-append : (f : Member → Option ℕ) (xs ys : List Member) →
    filter_map f (xs ++ ys) ≡ filter_map f xs ++ filter_map f ys
numbers-append f [] ys = refl
numbers-append f (x ∷ xs) ys = ap (cons_option (f x)) (numbers-append f xs ys)
    ∙ append-cons (f x) (filter_map f xs) (filter_map f ys)

count-more : (k : ℕ) (o : Option ℕ) (xs : List ℕ) →
    count_by (nat_eq k) xs ≤ count_by (nat_eq k) (cons_option o xs)
count-more k None xs = omega arith
count-more k (Some x) xs = omega (arith, count-cons (nat_eq k) x xs)

count-own : (k : ℕ) (o : Option ℕ) (xs : List ℕ) → o ≡ Some k → 0 < count_by (nat_eq k) (cons_option o xs)
count-own k None xs e = absurd (none-some k e)
count-own k (Some x) xs e =
    omega (arith, count-cons (nat_eq k) x xs, ap one_if (eq-eqb k x (sym (same_Some x k e))))

stands-counts : (f : Member → Option ℕ) (k : ℕ) (ms : List Member) (i : ℕ) (m : Member) →
    slice_get ms i ≡ Some m → f m ≡ Some k → 0 < count_by (nat_eq k) (filter_map f ms)
stands-counts f k [] i m there e = absurd (none-some m there)
stands-counts f k (x ∷ ms) zero m there e = count-own k (f x) (filter_map f ms)
    (ap f (same_Some x m there) ∙ e)
stands-counts f k (x ∷ ms) (suc i) m there e =
    omega (arith, count-more k (f x) (filter_map f ms), stands-counts f k ms i m there e)

both-parts : (f : Member → Option ℕ) (k : ℕ) (q : Sequence) (sequences : List Sequence) →
    count_by (nat_eq k) (filter_map f (all_members (q ∷ sequences)))
    ≡ count_by (nat_eq k) (filter_map f q.members) + count_by (nat_eq k)
    (filter_map f (all_members sequences))
both-parts f k q sequences =
    ap (count_by (nat_eq k)) (numbers-append f q.members (all_members sequences))
    ∙ sum_by-append (λ n. one_if (nat_eq k n)) (filter_map f q.members) (filter_map f (all_members sequences))

pub among-counts : (f : Member → Option ℕ) (k : ℕ) (sequences : List Sequence) (s i : ℕ) (q : Sequence)
    (m : Member) → slice_get sequences s ≡ Some q → slice_get q.members i ≡ Some m → f m ≡ Some k →
    0 < count_by (nat_eq k) (filter_map f (all_members sequences))
among-counts f k [] s i q m there at e = absurd (none-some q there)
among-counts f k (x ∷ sequences) zero i q m there at e =
    let own = stands-counts f k x.members i m
    (ap (λ (y : Sequence). slice_get y.members i) (same_Some x q there) ∙ at) e in
    omega (arith, own, both-parts f k x sequences)
among-counts f k (x ∷ sequences) (suc s) i q m there at e =
    omega (arith, among-counts f k sequences s i q m there at e, both-parts f k x sequences)

-- what comes once at most stands in one sequence
pub one-parent : (f : Member → Option ℕ) (k : ℕ) (sequences : List Sequence) (s t i j : ℕ) (p q : Sequence)
    (m n : Member) → count_by (nat_eq k) (filter_map f (all_members sequences)) ≤ 1 →
    slice_get sequences s ≡ Some p → slice_get p.members i ≡ Some m → f m ≡ Some k →
    slice_get sequences t ≡ Some q → slice_get q.members j ≡ Some n → f n ≡ Some k → s ≡ t
one-parent f k [] s t i j p q m n few there at e other also g = absurd (none-some p there)
one-parent f k (x ∷ sequences) zero zero i j p q m n few there at e other also g = refl
one-parent f k (x ∷ sequences) zero (suc t) i j p q m n few there at e other also g =
    let own = stands-counts f k x.members i m
    (ap (λ (y : Sequence). slice_get y.members i) (same_Some x p there) ∙ at) e in
    absurd (omega (
      arith,
      few,
      own,
      both-parts f k x sequences,
      among-counts f k sequences t j q n other
          also g,
    ))
one-parent f k (x ∷ sequences) (suc s) zero i j p q m n few there at e other also g =
    let own = stands-counts f k x.members j n
    (ap (λ (y : Sequence). slice_get y.members j) (same_Some x q other) ∙ also) g in
    absurd (omega (
      arith,
      few,
      own,
      both-parts f k x sequences,
      among-counts f k sequences s i p m there at
          e,
    ))
one-parent f k (x ∷ sequences) (suc s) (suc t) i j p q m n few there at e other also g =
    ap suc (one-parent f k sequences s t i j p q m n (omega (arith, few, both-parts f k x sequences))
    there at e other also g)

-- distinct numbers come once at most

none-equal : (x : ℕ) (xs : List ℕ) → AllByRecursion (λ y. nat_eq x y ≡ false) xs → count_by (nat_eq x) xs ≡ 0
none-equal x [] all = refl
none-equal x (y ∷ xs) all =
    omega (arith, count-cons (nat_eq x) y xs, ap one_if all.0, none-equal x xs all.1)

pub distinct-count : (k : ℕ) (xs : List ℕ) → IsDistinct nat_eq xs → count_by (nat_eq k) xs ≤ 1
unfolding IsDistinct
distinct-count k [] all = omega arith
distinct-count k (x ∷ xs) all = by (nat_eq k x) refl (distinct-count k xs all.1)
  where
    by : (t : Bool) → nat_eq k x ≡ t → count_by (nat_eq k) xs ≤ 1 → count_by (nat_eq k) (x ∷ xs) ≤ 1
    by true e few =
        let rest : count_by (nat_eq k) xs ≡ 0 =
        ap (λ n. count_by (nat_eq n) xs) (eqb-true k x e) ∙ none-equal x xs all.0 in
        omega (arith, count-cons (nat_eq k) x xs, ap one_if e, rest)
    by false e few = omega (arith, count-cons (nat_eq k) x xs, ap one_if e, few)

pub counted-there : (k : ℕ) (xs : List ℕ) → 0 < count_by (nat_eq k) xs → Contains xs k
counted-there k [] some = absurd (omega (arith, some))
counted-there k (x ∷ xs) some = by (nat_eq k x) refl (counted-there k xs)
  where
    by : (t : Bool) → nat_eq k x ≡ t → (0 < count_by (nat_eq k) xs → Contains xs k) → Contains (x ∷ xs) k
    by true e later = (0, omega arith, sym (eqb-true k x e))
    by false e later =
        let it = later (omega (arith, some, count-cons (nat_eq k) x xs, ap one_if e)) in
        let lt = it.1 in
        (suc it.0, omega (arith, lt), it.2)

-- up the way

abbrev pub Among : ℕ → List ℕ → Type 0
Among s [] = ⊥
Among s (t ∷ way) = (s ≡ t) ⊎ Among s way

-- the sequence that has one of the way as a member is on the way
up-the-way : (job : Job) (s t : ℕ) (way : List ℕ) → IsValidJob job → IsWay job way → Among t way →
    IsMemberIn job s (Seq t) → Among s way
up-the-way job s t [] valid is_way among stands = absurd among
up-the-way job s t (u ∷ []) valid is_way (inl same) stands =
    absurd (valid.top_is_no_member (counted-there job.top (member_sequences job)
    (among-counts sequence_number job.top job.sequences s stands.index stands.node (Seq t) stands.there
    stands.at
    (ap Some (same ∙ is_way)))))
up-the-way job s t (u ∷ []) valid is_way (inr none) stands = absurd none
up-the-way job s t (u ∷ (v ∷ way)) valid is_way (inl same) stands =
    inr (inl (one-parent sequence_number t job.sequences s v stands.index is_way.0.index stands.node
    is_way.0.node (Seq t) (Seq u) (distinct-count t (member_sequences job) valid.forest)
    stands.there stands.at refl is_way.0.there is_way.0.at (ap Some (sym same))))
up-the-way job s t (u ∷ (v ∷ way)) valid is_way (inr among) stands =
    inr (up-the-way job s t (v ∷ way) valid is_way.1 among stands)

-- what stands below

pub record IsIn {X Y : Type 0} (p : Y → Bool) (f : X → List Y) (xs : List X) : Type 0 where
  pub index : ℕ
  pub it : X
  pub at : slice_get xs index ≡ Some it
  pub some : list_any p (f it) ≡ true

pub in-one : {X Y : Type 0} (p : Y → Bool) (f : X → List Y) (xs : List X) →
    list_any p (flat_map f xs) ≡ true →
    IsIn p f xs
in-one p f [] h = absurd (false≢true h)
in-one p f (x ∷ xs) h =
    by (list_any p (f x)) refl (sym (list_any-append p (f x) (flat_map f xs)) ∙ h) (in-one p f xs)
  where
    by : (t : Bool) → list_any p (f x) ≡ t → (list_any p (f x) || list_any p (flat_map f xs)) ≡ true →
        (list_any p (flat_map f xs) ≡ true → IsIn p f xs) → IsIn p f (x ∷ xs)
    by true e either later = record { index = 0; it = x; at = refl; some = e }
    by false e either later =
        let rest = later (sym (ap (λ t. t || list_any p (flat_map f xs)) e) ∙ either) in
        record { index = suc rest.index; it = rest.it; at = rest.at; some = rest.some }

pub below-leaf : (depth : ℕ) (sequences : List Sequence) (b : ℕ) → below_within depth sequences (Alg b) ≡ []
unfolding below_within
below-leaf zero sequences b = refl
below-leaf (suc depth) sequences b = refl

or-nothing : (b : Bool) → (b || false) ≡ true → b ≡ true
or-nothing true h = refl
or-nothing false h = absurd (false≢true h)

-- each sequence above the one leaf of an algorithm is on the leaf's way
above-leaf : (depth : ℕ) (job : Job) (number r s : ℕ) (way : List ℕ) → IsValidJob job →
    IsWay job (r ∷ way) → IsMemberIn job r (Alg number) → count_by (nat_eq number) (leaves job) ≤ 1 →
    list_any (is_leaf_of number) (below_within depth job.sequences (Seq s)) ≡ true → Among s (r ∷ way)
unfolding below_within
above-leaf zero job number r s way valid is_way stands few h = absurd (false≢true h)
above-leaf (suc depth) job number r s way valid is_way stands few h =
    by (slice_get job.sequences s) refl h (λ t. above-leaf depth job number r t way valid is_way stands few)
  where
    member : (q : Sequence) (i : ℕ) (m : Member) → slice_get job.sequences s ≡ Some q →
        slice_get q.members i ≡ Some m →
        list_any (is_leaf_of number) (m ∷ below_within depth job.sequences m) ≡ true →
        ((t : ℕ) → list_any (is_leaf_of number) (below_within depth job.sequences (Seq t)) ≡ true →
        Among t (r ∷ way)) → Among s (r ∷ way)
    member q i (Alg b) there at some deeper =
        let same : b ≡ number = eqb-true b number (or-nothing (nat_eq b number)
        (sym (ap (λ (them : List Member). nat_eq b number || list_any (is_leaf_of number) them)
        (below-leaf depth job.sequences b)) ∙ some)) in
        inl (one-parent algorithm_number number job.sequences s r i stands.index q stands.node (Alg b)
        (Alg number)
        few there at (ap Some same) stands.there stands.at refl)
    member q i (Seq t) there at some deeper =
        up-the-way job s t (r ∷ way) valid is_way (deeper t some)
        (record { node = q; there = there; index = i; at = at })

    by : (o : Option Sequence) → slice_get job.sequences s ≡ o →
        list_any (is_leaf_of number) (option_map_or (λ (q : Sequence).
        flat_map (λ (m : Member). m ∷ below_within depth job.sequences m) q.members) o []) ≡ true →
        ((t : ℕ) → list_any (is_leaf_of number) (below_within depth job.sequences (Seq t)) ≡ true →
        Among t (r ∷ way)) → Among s (r ∷ way)
    by None e some deeper = absurd (false≢true some)
    by (Some q) e some deeper =
        let it = in-one (is_leaf_of number) (λ (m : Member). m ∷ below_within depth job.sequences m)
        q.members some in
        member q it.index it.it e it.at it.some deeper

pub cut-above : (job : Job) (number r s : ℕ) (way : List ℕ) → IsValidJob job → IsWay job (r ∷ way) →
    IsMemberIn job r (Alg number) → count_by (nat_eq number) (leaves job) ≤ 1 →
    is_algorithm_below job s number ≡ true → Among s (r ∷ way)
unfolding below
cut-above job number r s way valid is_way stands few h =
    above-leaf MOST_DEPTH job number r s way valid is_way stands few h
