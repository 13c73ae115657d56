-- One more algorithm among the consumers of its handles, once where it takes a handle twice.
use Rattle.std.proofs.Common.{◌≡◌, ℕ, zero, suc, ◌+◌, ◌-◌, ◌<◌, ◌≤◌, nat_eq, nat_lt, Bool, true, false, ◌||◌, ◌&&◌, if◌then◌else◌, cond, List, [], ◌∷◌, ◌++◌, length, get_or, set, map, take, replicate, Some, None, All, filter_map, refl, ap, sym, subst, ◌∙◌, ⊎_elim, append_assoc, arith}
use Rattle.std.proofs.lemmas.Bool.{cases_eq, eq-eqb, ne_eqb, or_right, lt-ltb}
use Rattle.std.proofs.lemmas.List.{append-nil, length-set, length_push, get_or_push, get_or-set_same, get_or-set_other, get_or-replicate, take_more, length-replicate, length-take-le, take_all}
use Rattle.std.proofs.lemmas.List.Elements.{All-nil, All-cons, All-head, All-tail, filter_map-append}
use Rattle.std.proofs.lemmas.List.Folds.{list_any-append}
use Rattle.std.proofs.lemmas.List.FromFn.{fill_by_all}
use Rattle.std.specs.List.{cons_option, enumerate_from, list_any, range_with_len}
use Rattle.text_model.specs.Names.{numbers_where}
use Rattle.producer_graph.specs.Takers.{holds, last_is, pushed_once, takers_in, with_consumer}

last-pushed : (xs : List ℕ) (n : ℕ) → last_is (xs ++ n ∷ []) n ≡ true
last-pushed xs n =
    let longer : length (xs ++ n ∷ []) ≡ length xs + 1 = length_push xs n in
    let some : nat_lt 0 (length (xs ++ n ∷ [])) ≡ true = lt-ltb 0 (length (xs ++ n ∷ [])) (omega (arith, longer)) in
    let place : length xs ≡ length (xs ++ n ∷ []) - 1 = omega (arith, longer) in
    let here : get_or (xs ++ n ∷ []) (length (xs ++ n ∷ []) - 1) 0 ≡ n = get_or_push xs n 0 (length (xs ++ n ∷ []) - 1) place in
    rw some (eq-eqb (get_or (xs ++ n ∷ []) (length (xs ++ n ∷ []) - 1) 0) n here)

last-below : (xs : List ℕ) (n : ℕ) → All (λ m. m < n) xs → last_is xs n ≡ false
last-below [] n all = refl
last-below (x ∷ xs) n all =
    let less : get_or (x ∷ xs) (length (x ∷ xs) - 1) 0 < n = all (length (x ∷ xs) - 1) 0 (omega arith) in
    let some : nat_lt 0 (length (x ∷ xs)) ≡ true = lt-ltb 0 (length (x ∷ xs)) (omega arith) in
    rw some (ne_eqb (get_or (x ∷ xs) (length (x ∷ xs) - 1) 0) n (λ e. absurd (omega arith)))

abbrev once_if : Bool → ℕ → List ℕ
once_if b n = if b then n ∷ [] else []

pushed : (xs : List ℕ) (b : Bool) (n : ℕ) → All (λ m. m < n) xs → pushed_once (xs ++ once_if b n) n ≡ xs ++ n ∷ []
pushed xs true n all = rw (last-pushed xs n) refl
pushed xs false n all = rw (append-nil xs, last-below xs n all) refl

-- the consumers of each of so many handles: those before, and this one where the handle is one of some
abbrev pub AreWith : (ℕ → List ℕ) → List ℕ → ℕ → ℕ → List (List ℕ) → Type 0
AreWith before done n count each = (h : ℕ) → h < count → get_or each h [] ≡ before h ++ once_if (holds h done) n

with-one : (before : ℕ → List ℕ) (done : List ℕ) (n count k : ℕ) (each : List (List ℕ)) → ((h : ℕ) → All (λ m. m < n) (before h)) → length each ≡ count → k < count →
    AreWith before done n count each → AreWith before (done ++ k ∷ []) n count (set each k (pushed_once (get_or each k []) n))
with-one before done n count k each below size lt held h less = ⊎_elim same other (cases_eq h k)
  where
    next : List (List ℕ)
    next = set each k (pushed_once (get_or each k []) n)

    same : h ≡ k → get_or next h [] ≡ before h ++ once_if (holds h (done ++ k ∷ [])) n
    same e =
        let inside : k < length each = omega arith in
        let there : holds k (done ++ k ∷ []) ≡ true =
        list_any-append (nat_eq k) done (k ∷ []) ∙ or_right (holds k done) (holds k (k ∷ [])) (rw (eq-eqb k k refl) refl) in
        rw e (get_or-set_same each k (pushed_once (get_or each k []) n) [] inside
        ∙ ap (λ xs. pushed_once xs n) (held k lt) ∙ pushed (before k) (holds k done) n (below k)
        ∙ sym (ap (λ b. before k ++ once_if b n) there))

    either : (b : Bool) → (b || false) ≡ b
    either true = refl
    either false = refl

    other : (h ≡ k → ⊥) → get_or next h [] ≡ before h ++ once_if (holds h (done ++ k ∷ [])) n
    other e =
        let there : holds h (done ++ k ∷ []) ≡ holds h done =
        list_any-append (nat_eq h) done (k ∷ []) ∙ rw (ne_eqb h k e) (either (holds h done)) in
        get_or-set_other each k h (pushed_once (get_or each k []) n) [] e ∙ held h less
        ∙ sym (ap (λ b. before h ++ once_if b n) there)

with-all : (before : ℕ → List ℕ) (done hs : List ℕ) (n count : ℕ) (each : List (List ℕ)) → ((h : ℕ) → All (λ m. m < n) (before h)) → length each ≡ count →
    All (λ h. h < count) hs → AreWith before done n count each → AreWith before (done ++ hs) n count (with_consumer each hs n)
with-all before done [] n count each below size all held =
    subst (λ (them : List ℕ). AreWith before them n count each) (sym (append-nil done)) held
with-all before done (k ∷ hs) n count each below size all held =
    subst (λ (them : List ℕ). AreWith before them n count (with_consumer each (k ∷ hs) n)) (append_assoc done (k ∷ []) hs)
    (with-all before (done ++ k ∷ []) hs n count (set each k (pushed_once (get_or each k []) n)) below
    (length-set each k (pushed_once (get_or each k []) n) ∙ size)
    (All-tail (λ h. h < count) k hs all)
    (with-one before done n count k each below size (All-head (λ h. h < count) k hs all) held))

pub length-with : (each : List (List ℕ)) (hs : List ℕ) (n : ℕ) → length (with_consumer each hs n) ≡ length each
length-with each [] n = refl
length-with each (k ∷ hs) n = length-with (set each k (pushed_once (get_or each k []) n)) hs n ∙ length-set each k (pushed_once (get_or each k []) n)

-- the numbers of the lists that hold it, one list further

enumerate-push : {X : Type 0} (from : ℕ) (xs : List X) (x : X) → enumerate_from from (xs ++ x ∷ []) ≡ enumerate_from from xs ++ (from + length xs, x) ∷ []
enumerate-push from [] x = let same : from ≡ from + 0 = omega arith in ap (λ (n : ℕ). (n, x) ∷ []) same
enumerate-push from (y ∷ xs) x =
    let same : from + 1 + length xs ≡ from + suc (length xs) = omega arith in
    ap (λ rest. (from, y) ∷ rest) (enumerate-push (from + 1) xs x ∙ ap (λ (n : ℕ). enumerate_from (from + 1) xs ++ (n, x) ∷ []) same)

one-number : (b : Bool) (n : ℕ) → cons_option (if b then Some n else None) [] ≡ once_if b n
one-number true n = refl
one-number false n = refl

takers-push : (each : List (List ℕ)) (hs : List ℕ) (h : ℕ) → takers_in (each ++ hs ∷ []) h ≡ takers_in each h ++ once_if (holds h hs) (length each)
takers-push each hs h =
    let same : 0 + length each ≡ length each = omega arith in
    ap (filter_map (λ (it : ℕ × List ℕ). if holds h it.1 then Some it.0 else None)) (enumerate-push 0 each hs)
    ∙ filter_map-append (λ (it : ℕ × List ℕ). if holds h it.1 then Some it.0 else None) (enumerate_from 0 each) ((0 + length each, hs) ∷ [])
    ∙ ap (λ (it : List ℕ). takers_in each h ++ it) (one-number (holds h hs) (0 + length each) ∙ ap (once_if (holds h hs)) same)

numbers-below : (h from size : ℕ) (each : List (List ℕ)) → from + length each ≡ size →
    All (λ m. m < size) (filter_map (λ (it : ℕ × List ℕ). if holds h it.1 then Some it.0 else None) (enumerate_from from each))
numbers-below h from size [] e = All-nil (λ m. m < size)
numbers-below h from size (hs ∷ each) e =
    by (holds h hs) (filter_map (λ (it : ℕ × List ℕ). if holds h it.1 then Some it.0 else None) (enumerate_from (from + 1) each))
    (numbers-below h (from + 1) size each (omega arith))
  where
    by : (b : Bool) (rest : List ℕ) → All (λ m. m < size) rest → All (λ m. m < size) (cons_option (if b then Some from else None) rest)
    by true rest all = All-cons (λ m. m < size) from rest (omega arith) all
    by false rest all = all

-- the consumers of each of so many handles, by the first lists
pub record IsListed (count : ℕ) (each : List (List ℕ)) (at : ℕ) (listed : List (List ℕ)) : Type 0 where
  pub size : length listed ≡ count
  pub takers : (h : ℕ) → h < count → get_or listed h [] ≡ takers_in (take at each) h

pub listed-none : (count : ℕ) (each listed : List (List ℕ)) → listed ≡ replicate count [] → IsListed count each 0 listed
listed-none count each listed e = rw e (record { size = length-replicate count []; takers = λ h lt. get_or-replicate count h [] [] lt })

pub listed-more : (count : ℕ) (each : List (List ℕ)) (at : ℕ) (hs : List ℕ) (listed later : List (List ℕ)) → at < length each → hs ≡ get_or each at hs →
    All (λ h. h < count) hs → later ≡ with_consumer listed hs at → IsListed count each at listed → IsListed count each (at + 1) later
listed-more count each at hs listed later lt is within e l = rw e (record {
  size = length-with listed hs at ∙ l.size;
  takers = λ h less.
      with-all (takers_in (take at each)) [] hs at count listed below l.size within began h less
      ∙ sym (ap (λ them. takers_in them h) (take_more each at hs lt ∙ ap (λ (it : List ℕ). take at each ++ it ∷ []) (sym is))
      ∙ takers-push (take at each) hs h ∙ ap (λ n. takers_in (take at each) h ++ once_if (holds h hs) n) shorter);
})
  where
    shorter : length (take at each) ≡ at
    shorter = length-take-le at each (omega arith)

    below : (h : ℕ) → All (λ m. m < at) (takers_in (take at each) h)
    below h = numbers-below h 0 at (take at each) (let s = shorter in omega (arith, s))

    began : AreWith (takers_in (take at each)) [] at count listed
    began h less = l.takers h less ∙ sym (append-nil (takers_in (take at each) h))

pub listed-all : (count : ℕ) (each : List (List ℕ)) (at : ℕ) (listed : List (List ℕ)) → length each ≤ at → IsListed count each at listed →
    listed ≡ map (takers_in each) (range_with_len 0 count)
listed-all count each at listed past l =
    fill_by_all (takers_in each) listed count [] l.size (λ h lt. l.takers h lt ∙ ap (λ them. takers_in them h) (take_all at each past))
