-- Marks of what is reached: one more, and all that a sequence enters.
use Rattle.std.proofs.Common.{◌≡◌, ℕ, zero, suc, ◌+◌, ◌-◌, ◌<◌, ◌≤◌, Bool, true, false, ◌||◌, ◌⊎◌, inl, inr, ⊎_elim, nat_eq, List, [], ◌∷◌, Option, Some, MatchOption, length, get_or, slice_get, refl, sym, ap, ◌∙◌, subst, eq-eqb, arith}
use Rattle.std.specs.List.{AllByRecursion}
use Rattle.std.proofs.lemmas.Bool.{eqb-true, or_cases, or_left, or_right, cases_lt}
use Rattle.std.proofs.lemmas.Option.{slice_get-get_or, slice_get_within}
use Rattle.event_laws.proofs.Executions.{all_at}
use Rattle.event_laws.proofs.Placing.{entered-at}
use Rattle.hive_model.specs.ControlFlow.{IsNestedWithin}
use Rattle.hive_model.specs.Reached.{entered}
use Rattle.hive_model.specs.Sequence.{Sequence}
use Rattle.hive_model.specs.declared.sequence.Member.{Member}
use Rattle.hive_model.specs.declared.sequence.Member.TheVariants.{Alg, Seq}
use Rattle.decision_nodes.specs.Marks.{Adds, AreMarkedBetween, AreMarkedFrom, AreMarks, EntersAt, IsEntered, IsNested, Reaches, marked, sequences_of}
use Rattle.number_set.specs.Numbers.{has}
use Rattle.decision_nodes.specs.Standing.{Standing}
use Rattle.decision_nodes.specs.declared.marks.Marks.{Marks}
use Rattle.decision_nodes.proofs.Standings.{get_is, get_within}

-- one mark more

pub none_marked : (marks : Marks) → ((n : ℕ) → has marks.algorithms n ≡ false) → ((n : ℕ) → has marks.sequences n ≡ false) →
    (m : Member) → marked marks m ≡ false
none_marked marks algorithms sequences (Alg a) = algorithms a
none_marked marks algorithms sequences (Seq s) = sequences s

same_number : (n number : ℕ) (b c : Bool) → c ≡ (nat_eq n number || b) → c ≡ true → (n ≡ number) ⊎ (b ≡ true)
same_number n number b c e h = ⊎_elim (λ (x : nat_eq n number ≡ true). inl (eqb-true n number x)) (λ (y : b ≡ true). inr y) (or_cases (nat_eq n number) b (sym e ∙ h))

pub adds_algorithm : (before after : Marks) (number : ℕ) → ((n : ℕ) → has after.algorithms n ≡ (nat_eq n number || has before.algorithms n)) →
    after.sequences ≡ before.sequences → Adds (marked before) (Alg number) (marked after)
adds_algorithm before after number algorithms sequences = record { more = more; added = algorithms number ∙ or_left (nat_eq number number) (has before.algorithms number) (eq-eqb number number refl); only = only }
  where
    more : (m : Member) → marked before m ≡ true → marked after m ≡ true
    more (Alg a) h = algorithms a ∙ or_right (nat_eq a number) (has before.algorithms a) h
    more (Seq s) h = ap (λ set. has set s) sequences ∙ h

    only : (m : Member) → marked after m ≡ true → (m ≡ Alg number) ⊎ (marked before m ≡ true)
    only (Alg a) h = ⊎_elim (λ (e : a ≡ number). inl (ap Alg e)) (λ (b : has before.algorithms a ≡ true). inr b) (same_number a number _ _ (algorithms a) h)
    only (Seq s) h = inr (sym (ap (λ set. has set s) sequences) ∙ h)

pub adds_sequence : (before after : Marks) (number : ℕ) → ((n : ℕ) → has after.sequences n ≡ (nat_eq n number || has before.sequences n)) →
    after.algorithms ≡ before.algorithms → Adds (marked before) (Seq number) (marked after)
adds_sequence before after number sequences algorithms = record { more = more; added = sequences number ∙ or_left (nat_eq number number) (has before.sequences number) (eq-eqb number number refl); only = only }
  where
    more : (m : Member) → marked before m ≡ true → marked after m ≡ true
    more (Seq a) h = sequences a ∙ or_right (nat_eq a number) (has before.sequences a) h
    more (Alg s) h = ap (λ set. has set s) algorithms ∙ h

    only : (m : Member) → marked after m ≡ true → (m ≡ Seq number) ⊎ (marked before m ≡ true)
    only (Seq a) h = ⊎_elim (λ (e : a ≡ number). inl (ap Seq e)) (λ (b : has before.sequences a ≡ true). inr b) (same_number a number _ _ (sequences a) h)
    only (Alg s) h = inr (sym (ap (λ set. has set s) algorithms) ∙ h)

-- more marks

pub reaches_same : (nodes : List Standing) (b : Member → Bool) → Reaches nodes b b
reaches_same nodes b = record { more = λ m h. h; new_closed = λ s h. inl h; new_reasons = λ m h. inl h }

pub entered_more : (nodes : List Standing) (b c : Member → Bool) (m : Member) → ((k : Member) → b k ≡ true → c k ≡ true) →
    IsEntered nodes b m → IsEntered nodes c m
entered_more nodes b c m more it =
    record { s = it.s; i = it.i; node = it.node; is_marked = more (Seq it.s) it.is_marked; there = it.there; enters = it.enters }

-- what is entered below a member that was marked last
abbrev pub FollowedBy : List Standing → (Member → Bool) → Member → Type 0
FollowedBy nodes b (Alg a) = Unit {0}
FollowedBy nodes b (Seq s) = AreMarkedFrom nodes b s 0

pub entering_more : (nodes : List Standing) (b0 b1 b2 b3 : Member → Bool) (s place : ℕ) (n : Standing) (member : Member) →
    Reaches nodes b0 b1 → Adds b1 member b2 → Reaches nodes b2 b3 → FollowedBy nodes b3 member → b0 (Seq s) ≡ true →
    slice_get nodes s ≡ Some n → EntersAt n place member → Reaches nodes b0 b3
entering_more nodes b0 b1 b2 b3 s place n member first add last followed there at enters =
    record { more = λ m h. up m (first.more m h); new_closed = closed; new_reasons = reasons }
  where
    up : (m : Member) → b1 m ≡ true → b3 m ≡ true
    up m h = last.more m (add.more m h)

    followed_at : (t : ℕ) → Seq t ≡ member → AreMarkedFrom nodes b3 t 0
    followed_at t e = let it : FollowedBy nodes b3 (Seq t) = subst (FollowedBy nodes b3) (sym e) followed in it

    old_closed : (t : ℕ) → (b0 (Seq t) ≡ true) ⊎ AreMarkedFrom nodes b1 t 0 → (b0 (Seq t) ≡ true) ⊎ AreMarkedFrom nodes b3 t 0
    old_closed t (inl h) = inl h
    old_closed t (inr all) = inr (λ i k m from node e. up m (all i k m from node e))

    mid_closed : (t : ℕ) → (Seq t ≡ member) ⊎ (b1 (Seq t) ≡ true) → (b0 (Seq t) ≡ true) ⊎ AreMarkedFrom nodes b3 t 0
    mid_closed t (inl e) = inr (followed_at t e)
    mid_closed t (inr h) = old_closed t (first.new_closed t h)

    new_closed : (t : ℕ) → (b2 (Seq t) ≡ true) ⊎ AreMarkedFrom nodes b3 t 0 → (b0 (Seq t) ≡ true) ⊎ AreMarkedFrom nodes b3 t 0
    new_closed t (inl h) = mid_closed t (add.only (Seq t) h)
    new_closed t (inr all) = inr all

    closed : (t : ℕ) → b3 (Seq t) ≡ true → (b0 (Seq t) ≡ true) ⊎ AreMarkedFrom nodes b3 t 0
    closed t h = new_closed t (last.new_closed t h)

    old_reason : (m : Member) → (b0 m ≡ true) ⊎ IsEntered nodes b1 m → (b0 m ≡ true) ⊎ IsEntered nodes b3 m
    old_reason m (inl h) = inl h
    old_reason m (inr it) = inr (entered_more nodes b1 b3 m up it)

    own : IsEntered nodes b3 member
    own = record { s = s; i = place; node = n; is_marked = up (Seq s) (first.more (Seq s) there); there = at; enters = enters }

    mid_reason : (m : Member) → (m ≡ member) ⊎ (b1 m ≡ true) → (b0 m ≡ true) ⊎ IsEntered nodes b3 m
    mid_reason m (inl e) = inr (subst (IsEntered nodes b3) (sym e) own)
    mid_reason m (inr h) = old_reason m (first.new_reasons m h)

    new_reason : (m : Member) → (b2 m ≡ true) ⊎ IsEntered nodes b3 m → (b0 m ≡ true) ⊎ IsEntered nodes b3 m
    new_reason m (inl h) = mid_reason m (add.only m h)
    new_reason m (inr it) = inr it

    reasons : (m : Member) → b3 m ≡ true → (b0 m ≡ true) ⊎ IsEntered nodes b3 m
    reasons m h = new_reason m (last.new_reasons m h)

pub between_more : (nodes : List Standing) (b1 b2 b3 : Member → Bool) (s from place : ℕ) (n : Standing) (member : Member) →
    AreMarkedBetween nodes b1 s from place → Adds b1 member b2 → Reaches nodes b2 b3 → slice_get nodes s ≡ Some n → EntersAt n place member →
    AreMarkedBetween nodes b3 s from (place + 1)
between_more nodes b1 b2 b3 s from place n member so_far add last at enters = λ i k m low lt node e. by i k m low node e (near i lt)
  where
    near : (i : ℕ) → i < place + 1 → (i ≡ place) ⊎ (i < place)
    near i lt = ⊎_elim (λ (h : i < place). inr h) (λ (h : place ≤ i). inl (omega arith)) (cases_lt i place)

    by : (i : ℕ) (k : Standing) (m : Member) → from ≤ i → slice_get nodes s ≡ Some k → EntersAt k i m → (i ≡ place) ⊎ (i < place) → b3 m ≡ true
    by i k m low node e (inr less) = last.more m (add.more m (so_far i k m low less node e))
    by i k m low node e (inl same) =
        let one : k ≡ n = cc (node, at) in
        let it : m ≡ member = cc (e, enters, same, one, ap (λ (x : Standing). slice_get (entered x.sequence x.states) i) one, ap (slice_get (entered n.sequence n.states)) same) in
        ap b3 it ∙ last.more member add.added

-- members of nodes

pub nested_sequence : (depth : ℕ) (nodes : List Standing) (s : ℕ) → IsNested depth (sequences_of nodes) (Seq s) → 0 < depth
unfolding IsNested
nested_sequence zero nodes s h = absurd h
nested_sequence (suc depth) nodes s h = omega arith

sequence_at : (nodes : List Standing) (s : ℕ) (n : Standing) → slice_get nodes s ≡ Some n → slice_get (sequences_of nodes) s ≡ Some n.sequence
sequence_at [] s n e = cc
sequence_at (x ∷ nodes) zero n e = let same : x ≡ n = cc in ap (λ (k : Standing). Some k.sequence) same
sequence_at (x ∷ nodes) (suc s) n e = sequence_at nodes s n e

pub nested_member : (depth : ℕ) (nodes : List Standing) (s i : ℕ) (n : Standing) (m : Member) → IsNested depth (sequences_of nodes) (Seq s) →
    slice_get nodes s ≡ Some n → slice_get n.sequence.members i ≡ Some m → IsNested (depth - 1) (sequences_of nodes) m
unfolding IsNested
nested_member zero nodes s i n m h at e = absurd h
nested_member (suc depth) nodes s i n m h at e =
    let P : Option Sequence → Type 0 = λ o. MatchOption o ⊥ (λ q. AllByRecursion (IsNestedWithin depth (sequences_of nodes)) q.members) in
    let all : P (Some n.sequence) = subst P (sequence_at nodes s n at) h in
    let less : suc depth - 1 ≡ depth = omega arith in
    rw less (all_at (IsNestedWithin depth (sequences_of nodes)) n.sequence.members i m all (get_within n.sequence.members i m e)
    (sym (get_is n.sequence.members i m m e)))

pub nested_there : (depth : ℕ) (nodes : List Standing) (s : ℕ) → IsNested depth (sequences_of nodes) (Seq s) → s < length nodes
unfolding IsNested
nested_there zero nodes s h = absurd h
nested_there (suc depth) nodes s h = there nodes s depth h
  where
    there : (them : List Standing) (s depth : ℕ) →
        MatchOption (slice_get (sequences_of them) s) ⊥ (λ q. AllByRecursion (IsNestedWithin depth (sequences_of nodes)) q.members) → s < length them
    there [] s depth h = absurd h
    there (x ∷ them) zero depth h = omega arith
    there (x ∷ them) (suc s) depth h = let less = there them s depth h in omega (arith, less)

pub enters_at : (n : Standing) (place to : ℕ) (items : List Member) (d : Member) → items ≡ n.sequence.members →
    to ≡ length (entered n.sequence n.states) → to ≤ length n.sequence.members → place < to →
    (slice_get n.sequence.members place ≡ Some (get_or items place d)) × EntersAt n place (get_or items place d)
enters_at n place to items d are count few lt =
    let same = ap length are in
    let stands : slice_get n.sequence.members place ≡ Some (get_or items place d) =
    ap (λ them. slice_get them place) (sym are) ∙ slice_get-get_or items place d (omega arith)
    in
    (stands, entered-at n.sequence n.states place (omega arith) ∙ stands)

pub follows_leaf : (nodes : List Standing) (b : Member → Bool) (m : Member) (a : ℕ) → m ≡ Alg a → FollowedBy nodes b m
follows_leaf nodes b m a e = let it : FollowedBy nodes b (Alg a) = tt in subst (FollowedBy nodes b) (sym e) it

pub follows_sequence : (nodes : List Standing) (b : Member → Bool) (m : Member) (s : ℕ) → m ≡ Seq s → AreMarkedFrom nodes b s 0 → FollowedBy nodes b m
follows_sequence nodes b m s e all = let it : FollowedBy nodes b (Seq s) = all in subst (FollowedBy nodes b) (sym e) it

pub marked_all : (nodes : List Standing) (b : Member → Bool) (s from to place : ℕ) (n : Standing) → slice_get nodes s ≡ Some n →
    to ≡ length (entered n.sequence n.states) → to ≤ place → AreMarkedBetween nodes b s from place → AreMarkedFrom nodes b s from
marked_all nodes b s from to place n at count far so_far = λ i k m low node e.
    let one : k ≡ n = cc (node, at) in
    let within : i < length (entered k.sequence k.states) = slice_get_within (entered k.sequence k.states) i m e in
    let same = ap (λ (x : Standing). length (entered x.sequence x.states)) one in
    so_far i k m low (omega arith) node e

-- the top

pub top_marks : (nodes : List Standing) (top : ℕ) (b0 b1 b2 : Member → Bool) → Adds b0 (Seq top) b1 → Reaches nodes b1 b2 →
    AreMarkedFrom nodes b2 top 0 → AreMarks nodes top b0 → AreMarks nodes top b2
top_marks nodes top b0 b1 b2 add last own marks = record { closed = closed; reasons = reasons }
  where
    old_closed : (s : ℕ) → (Seq s ≡ Seq top) ⊎ (b0 (Seq s) ≡ true) → AreMarkedFrom nodes b2 s 0
    old_closed s (inl e) = let same : s ≡ top = cc in subst (λ k. AreMarkedFrom nodes b2 k 0) (sym same) own
    old_closed s (inr h) = λ i n m low node e. last.more m (add.more m (marks.closed s h i n m low node e))

    new_closed : (s : ℕ) → (b1 (Seq s) ≡ true) ⊎ AreMarkedFrom nodes b2 s 0 → AreMarkedFrom nodes b2 s 0
    new_closed s (inl h) = old_closed s (add.only (Seq s) h)
    new_closed s (inr all) = all

    closed : (s : ℕ) → b2 (Seq s) ≡ true → AreMarkedFrom nodes b2 s 0
    closed s h = new_closed s (last.new_closed s h)

    oldest : (m : Member) → (m ≡ Seq top) ⊎ IsEntered nodes b0 m → (m ≡ Seq top) ⊎ IsEntered nodes b2 m
    oldest m (inl e) = inl e
    oldest m (inr it) = inr (entered_more nodes b0 b2 m (λ k h. last.more k (add.more k h)) it)

    old_reason : (m : Member) → (m ≡ Seq top) ⊎ (b0 m ≡ true) → (m ≡ Seq top) ⊎ IsEntered nodes b2 m
    old_reason m (inl e) = inl e
    old_reason m (inr h) = oldest m (marks.reasons m h)

    new_reason : (m : Member) → (b1 m ≡ true) ⊎ IsEntered nodes b2 m → (m ≡ Seq top) ⊎ IsEntered nodes b2 m
    new_reason m (inl h) = old_reason m (add.only m h)
    new_reason m (inr it) = inr it

    reasons : (m : Member) → b2 m ≡ true → (m ≡ Seq top) ⊎ IsEntered nodes b2 m
    reasons m h = new_reason m (last.new_reasons m h)
