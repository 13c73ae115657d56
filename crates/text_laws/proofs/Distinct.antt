-- Lists in which no element is refused as repeated have no two that are the same.
use Rattle.std.proofs.Common.{◌≡◌, ℕ, nat_eq, Bool, true, false, if◌then◌else◌, List, [], ◌∷◌, ◌++◌, map, filter_map, Option, Some, None, refl, ◌∙◌}
use Rattle.std.proofs.lemmas.Bool.{eqb-true}
use Rattle.std.proofs.lemmas.Cmp.{nat_eq_equiv}
use Rattle.std.specs.Cmp.Lexicographic.{nat_list_eq_equiv}
use Rattle.std.specs.List.{AllByRecursion, IsDistinct, list_any}
use Rattle.hive_model.specs.Same.{same_text}
use Rattle.hive_model.specs.Valid.{AreDistinctNames, AreDistinctNumbers}
use Rattle.text_model.specs.Names.{first_repeated, repeated_behind}
use Rattle.text_laws.proofs.Steps.{either-false}

pushed-behind : {X : Type 0} (same : X → X → Bool) → ((x y : X) → same x y ≡ same y x) → (before : List X) (x y : X) →
    list_any (same y) (before ++ x ∷ []) ≡ false → (list_any (same y) before ≡ false) × (same x y ≡ false)
pushed-behind same turned [] x y e = (refl, turned x y ∙ (either-false (same y x) false e).0)
pushed-behind same turned (b ∷ before) x y e =
    let (here, later) = either-false (same y b) (list_any (same y) (before ++ x ∷ [])) e in
    let (others, apart) = pushed-behind same turned before x y later in (rw (here, others) refl, apart)

split-behind : {X : Type 0} (same : X → X → Bool) → ((x y : X) → same x y ≡ same y x) → (before : List X) (x : X) (ys : List X) →
    AllByRecursion (λ y. list_any (same y) (before ++ x ∷ []) ≡ false) ys →
    AllByRecursion (λ y. list_any (same y) before ≡ false) ys × AllByRecursion (λ y. same x y ≡ false) ys
split-behind same turned before x [] h = (tt, tt)
split-behind same turned before x (y ∷ ys) (h, hs) =
    let (one, other) = pushed-behind same turned before x y h in
    let (ones, others) = split-behind same turned before x ys hs in ((one, ones), (other, others))

distinct-behind : {X : Type 0} (same : X → X → Bool) → ((x y : X) → same x y ≡ same y x) → (before xs : List X) → repeated_behind same before xs ≡ None →
    IsDistinct same xs × AllByRecursion (λ y. list_any (same y) before ≡ false) xs
unfolding repeated_behind IsDistinct
distinct-behind same turned before [] e = (tt, tt)
distinct-behind {X = X} same turned before (x ∷ xs) e = by (list_any (same x) before) refl e (λ h. distinct-behind same turned (before ++ x ∷ []) xs h)
  where
    by : (t : Bool) → list_any (same x) before ≡ t → (if t then Some x else repeated_behind same (before ++ x ∷ []) xs) ≡ None →
        (repeated_behind same (before ++ x ∷ []) xs ≡ None → IsDistinct same xs × AllByRecursion (λ y. list_any (same y) (before ++ x ∷ []) ≡ false) xs) →
        IsDistinct same (x ∷ xs) × AllByRecursion (λ y. list_any (same y) before ≡ false) (x ∷ xs)
    by true test h next = cc
    by false test h next =
        let (distinct, apart) = next h in
        let (others, ones) = split-behind same turned before x xs apart in ((ones, distinct), (test, others))

-- so, where the test is turned round as it stands
pub distinct-by : {X : Type 0} (same : X → X → Bool) → ((x y : X) → same x y ≡ same y x) → (xs : List X) → first_repeated same xs ≡ None → IsDistinct same xs
distinct-by same turned xs e = (distinct-behind same turned [] xs e).0

pub distinct_names : (names : List (List ℕ)) → first_repeated same_text names ≡ None → AreDistinctNames names
distinct_names names e = distinct-by same_text nat_list_eq_equiv.symm names e

pub distinct_numbers : (numbers : List ℕ) → first_repeated nat_eq numbers ≡ None → AreDistinctNumbers numbers
distinct_numbers numbers e = distinct-by nat_eq nat_eq_equiv.symm numbers e

-- what is made of each element

apart-mapped : {X Y : Type 0} (same : Y → Y → Bool) (f : X → Y) (x : X) (xs : List X) → AllByRecursion (λ y. same (f x) (f y) ≡ false) xs →
    AllByRecursion (λ y. same (f x) y ≡ false) (map f xs)
apart-mapped same f x [] h = tt
apart-mapped same f x (y ∷ xs) (h, hs) = (h, apart-mapped same f x xs hs)

pub distinct-mapped : {X Y : Type 0} (same : Y → Y → Bool) (f : X → Y) (xs : List X) → IsDistinct (λ a b. same (f a) (f b)) xs → IsDistinct same (map f xs)
unfolding IsDistinct
distinct-mapped same f [] h = tt
distinct-mapped same f (x ∷ xs) (h, hs) = (apart-mapped same f x xs h, distinct-mapped same f xs hs)

-- numbers that are given to those alone that are the same

abbrev pub Tells : {X : Type 0} → (X → X → Bool) → (X → Option ℕ) → Type 0
Tells {X} same f = (x y : X) (n : ℕ) → f x ≡ Some n → f y ≡ Some n → same x y ≡ true

apart-numbered : {X : Type 0} (same : X → X → Bool) (f : X → Option ℕ) → Tells same f → (x : X) (n : ℕ) → f x ≡ Some n → (xs : List X) →
    AllByRecursion (λ y. same x y ≡ false) xs → AllByRecursion (λ m. nat_eq n m ≡ false) (filter_map f xs)
apart-numbered same f tells x n e [] h = tt
apart-numbered same f tells x n e (y ∷ xs) (h, hs) = by (f y) refl (apart-numbered same f tells x n e xs hs)
  where
    apart : (m : ℕ) (t : Bool) → f y ≡ Some m → nat_eq n m ≡ t → t ≡ false
    apart m false g test = refl
    apart m true g test =
        let equal : n ≡ m = eqb-true n m test in
        let same_one : same x y ≡ true = tells x y m (rw (← equal) e) g in cc

    by : (o : Option ℕ) → f y ≡ o → AllByRecursion (λ m. nat_eq n m ≡ false) (filter_map f xs) →
        AllByRecursion (λ m. nat_eq n m ≡ false) (filter_map f (y ∷ xs))
    by None g rest = rw g rest
    by (Some m) g rest = rw g (apart m (nat_eq n m) g refl, rest)

pub distinct-numbered : {X : Type 0} (same : X → X → Bool) (f : X → Option ℕ) → Tells same f → (xs : List X) → IsDistinct same xs →
    AreDistinctNumbers (filter_map f xs)
unfolding IsDistinct
distinct-numbered same f tells [] h = tt
distinct-numbered same f tells (x ∷ xs) (h, hs) = by (f x) refl (distinct-numbered same f tells xs hs)
  where
    by : (o : Option ℕ) → f x ≡ o → AreDistinctNumbers (filter_map f xs) → AreDistinctNumbers (filter_map f (x ∷ xs))
    by None e rest = rw e rest
    by (Some n) e rest = rw e (apart-numbered same f tells x n e xs h, rest)
