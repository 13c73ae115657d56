-- Reached places. A place that is reached stays so when more algorithms have run. The member at a reached place is reached, and
-- what is reached stands at a reached place, but for the top.
use Rattle.std.proofs.Common.{◌≡◌, ◌≢◌, ℕ, zero, suc, ◌+◌, ◌<◌, ◌⊎◌, inl, inr, ⊎_elim, Bool, true, false, nat_eq, if◌then◌else◌, List, [], ◌∷◌, length, map, take, slice_get, Option, Some, None, refl, sym, ap, ◌∙◌, subst, arith}
use Rattle.std.specs.List.{AllByRecursion, flat_map, list_any, prefix_len}
use Rattle.std.specs.Option.{option_map_or}
use Rattle.std.proofs.lemmas.Bool.{false≢true, or_cases, or_left, or_right, eqb-true, eq-eqb}
use Rattle.std.proofs.lemmas.List.Folds.{list_any-append}
use Rattle.std.proofs.lemmas.Option.{same_Some, none-some, slice_get_within}
use Rattle.event_laws.proofs.Nesting.{opened, reached_within-leaf, reached_within-zero, reached_within-none}
use Rattle.event_laws.proofs.Reaching.{entered-stays, reached-stays}
use Rattle.event_laws.proofs.Settling.{Settles, decision-settles}
use Rattle.event_laws.proofs.Staying.{all_zip-map, AreOutcomesWithin}
use Rattle.event_laws.specs.Places.{is_reached_sequence, IsReachedPlace}
use Rattle.hive_model.specs.Below.{is_sequence_of}
use Rattle.hive_model.specs.ControlFlow.{IsNestedWithin}
use Rattle.hive_model.specs.Decision.{decision}
use Rattle.hive_model.specs.Job.{Job}
use Rattle.hive_model.specs.Reached.{passes, entered, reached_within, reached, is_leaf_of, is_reached}
use Rattle.hive_model.specs.Sequence.{Sequence}
use Rattle.hive_model.specs.declared.decision.Decision.{Decision}
use Rattle.hive_model.specs.declared.limits.TheConstants.{MOST_DEPTH}
use Rattle.hive_model.specs.declared.outcome.Outcome.{Outcome}
use Rattle.hive_model.specs.declared.sequence.Member.{Member}
use Rattle.hive_model.specs.declared.sequence.Member.TheVariants.{Alg, Seq}

-- a test of joined lists passes at an element of one of them

any-joined : {X Y : Type 0} (p : Y → Bool) (f : X → List Y) (xs : List X) (i : ℕ) (x : X) → slice_get xs i ≡ Some x → list_any p (f x) ≡ true →
    list_any p (flat_map f xs) ≡ true
any-joined p f [] i x at e = absurd (none-some x at)
any-joined p f (y ∷ xs) zero x at e =
    list_any-append p (f y) (flat_map f xs) ∙ or_left _ _ (ap (λ it. list_any p (f it)) (same_Some y x at) ∙ e)
any-joined p f (y ∷ xs) (suc i) x at e = list_any-append p (f y) (flat_map f xs) ∙ or_right _ _ (any-joined p f xs i x at e)

joined-any : {X Y : Type 0} (p : Y → Bool) (f : X → List Y) (xs : List X) → list_any p (flat_map f xs) ≡ true →
    (i : ℕ) × (x : X) × (slice_get xs i ≡ Some x) × (list_any p (f x) ≡ true)
joined-any p f [] e = absurd (false≢true e)
joined-any p f (x ∷ xs) e =
    ⊎_elim
    (λ (here : list_any p (f x) ≡ true). (0, x, refl, here))
    (λ (behind : list_any p (flat_map f xs) ≡ true). let it = joined-any p f xs behind in (suc it.0, it.1, it.2, it.3))
    (or_cases _ _ (sym (list_any-append p (f x) (flat_map f xs)) ∙ e))

all-at : {X : Type 0} (P : X → Type 0) (xs : List X) (i : ℕ) (x : X) → AllByRecursion P xs → slice_get xs i ≡ Some x → P x
all-at P [] i x all at = absurd (none-some x at)
all-at P (y ∷ xs) zero x all at = subst P (same_Some y x at) all.0
all-at P (y ∷ xs) (suc i) x all at = all-at P xs i x all.1 at

-- what a node enters is a front of its members

pub front-at : {X : Type 0} (n : ℕ) (xs : List X) (i : ℕ) → i < length (take n xs) → slice_get (take n xs) i ≡ slice_get xs i
front-at zero xs i h = absurd (omega arith)
front-at (suc n) [] i h = absurd (omega arith)
front-at (suc n) (x ∷ xs) zero h = refl
front-at (suc n) (x ∷ xs) (suc i) h = front-at n xs i (omega arith)

pub entered-at : (q : Sequence) (ds : List Decision) (i : ℕ) → i < length (entered q ds) → slice_get (entered q ds) i ≡ slice_get q.members i
unfolding entered
entered-at q ds i =
    elim q.sequential
    as (λ b.
    i < length (if b then take (prefix_len (passes q) ds + 1) q.members else q.members)
    → slice_get (if b then take (prefix_len (passes q) ds + 1) q.members else q.members) i ≡ slice_get q.members i) [
      | true ↦ front-at (prefix_len (passes q) ds + 1) q.members i
      | false ↦ λ _. refl
    ]

-- a member is reached from itself
itself : (p : Member → Bool) (depth : ℕ) (sequences : List Sequence) (decide : Member → Decision) (m : Member) → IsNestedWithin depth sequences m →
    p m ≡ true → list_any p (reached_within depth sequences decide m) ≡ true
unfolding reached_within
itself p zero sequences decide (Alg a) nested e = or_left (p (Alg a)) false e
itself p (suc depth) sequences decide (Alg a) nested e = or_left (p (Alg a)) false e
itself p zero sequences decide (Seq s) nested e = absurd nested
itself p (suc depth) sequences decide (Seq s) nested e = or_left (p (Seq s)) _ e

-- a reached place stays so

pub place-stays : (job : Job) (ran others : List (Option Outcome)) (s i : ℕ) (m : Member) → AreOutcomesWithin ran others →
    IsReachedPlace job ran s i m → IsReachedPlace job others s i m
place-stays job ran others s i m h place =
    let q = place.node in
    let now = map (decision job ran) q.members in
    let later = map (decision job others) q.members in
    let all = all_zip-map Settles (decision job ran) (decision job others) (λ it. decision-settles job ran others it h) q.members in
    let within : i < length (entered q now) = slice_get_within (entered q now) i m place.is_entered in
    let longer = entered-stays q now later all in
    record {
      node = q;
      there = place.there;
      is_reached = reached-stays (is_sequence_of s) job ran others h place.is_reached;
      is_entered = entered-at q later i (omega arith) ∙ sym (entered-at q now i within) ∙ place.is_entered;
    }

-- a member that passes a test stands at a place that is reached, where these members are reached
pub record Holds (sequences : List Sequence) (decide : Member → Decision) (found : List Member) (p : Member → Bool) : Type 0 where
  pub s : ℕ
  pub i : ℕ
  pub node : Sequence
  pub member : Member
  pub there : slice_get sequences s ≡ Some node
  pub is_reached : is_reached_sequence found s ≡ true
  pub is_entered : slice_get (entered node (map decide node.members)) i ≡ Some member
  pub passing : p member ≡ true

-- whether a member that is reached from one passes a test, and whether such a member stands at a reached place
abbrev finds : (Member → Bool) → ℕ → List Sequence → (Member → Decision) → Member → Bool
finds p depth sequences decide m = list_any p (reached_within depth sequences decide m)

abbrev HasPlace : (Member → Bool) → ℕ → List Sequence → (Member → Decision) → Member → Type 0
HasPlace p depth sequences decide m = Holds sequences decide (reached_within depth sequences decide m) p

-- what is reached from a sequence that is there
abbrev below_node : ℕ → List Sequence → (Member → Decision) → ℕ → Sequence → List Member
below_node depth sequences decide s q = Seq s ∷ flat_map (reached_within depth sequences decide) (entered q (map decide q.members))

unrolled : (depth : ℕ) (sequences : List Sequence) (decide : Member → Decision) (s : ℕ) (q : Sequence) → slice_get sequences s ≡ Some q →
    reached_within (suc depth) sequences decide (Seq s) ≡ below_node depth sequences decide s q
unfolding reached_within
unrolled depth sequences decide s q e =
    ap (λ o. Seq s ∷ option_map_or (λ it. flat_map (reached_within depth sequences decide) (entered it (map decide it.members))) o []) e

entered-nested : (depth : ℕ) (sequences : List Sequence) (q : Sequence) (ds : List Decision) (i : ℕ) (m : Member) →
    AllByRecursion (IsNestedWithin depth sequences) q.members → slice_get (entered q ds) i ≡ Some m → IsNestedWithin depth sequences m
entered-nested depth sequences q ds i m all at =
    all-at (IsNestedWithin depth sequences) q.members i m all (sym (entered-at q ds i (slice_get_within (entered q ds) i m at)) ∙ at)

-- where a place is reached, its member is

held-below : (p : Member → Bool) (depth : ℕ) (sequences : List Sequence) (decide : Member → Decision) (s : ℕ) (q : Sequence) →
    slice_get sequences s ≡ Some q → AllByRecursion (IsNestedWithin depth sequences) q.members →
    ((m : Member) → IsNestedWithin depth sequences m → HasPlace p depth sequences decide m → finds p depth sequences decide m ≡ true) →
    Holds sequences decide (below_node depth sequences decide s q) p →
    list_any p (below_node depth sequences decide s q) ≡ true
held-below p depth sequences decide s q e all deeper h =
    let onward : Member → List Member = reached_within depth sequences decide in
    let members = entered q (map decide q.members) in
    or_right (p (Seq s)) (list_any p (flat_map onward members))
    (⊎_elim
    (λ (here : nat_eq s h.s ≡ true).
    let same : h.node ≡ q = same_Some h.node q (sym h.there ∙ ap (slice_get sequences) (sym (eqb-true s h.s here)) ∙ e) in
    let at : slice_get members h.i ≡ Some h.member = ap (λ (it : Sequence). slice_get (entered it (map decide it.members)) h.i) (sym same) ∙ h.is_entered in
    any-joined p onward members h.i h.member at
    (itself p depth sequences decide h.member (entered-nested depth sequences q (map decide q.members) h.i h.member all at) h.passing))
    (λ (behind : list_any (is_sequence_of h.s) (flat_map onward members) ≡ true).
    let it = joined-any (is_sequence_of h.s) onward members behind in
    any-joined p onward members it.0 it.1 it.2
    (deeper it.1 (entered-nested depth sequences q (map decide q.members) it.0 it.1 all it.2) (record {
      s = h.s;
      i = h.i;
      node = h.node;
      member = h.member;
      there = h.there;
      is_reached = it.3;
      is_entered = h.is_entered;
      passing = h.passing;
    })))
    (or_cases (nat_eq s h.s) (list_any (is_sequence_of h.s) (flat_map onward members)) h.is_reached))

held-reached : (p : Member → Bool) (depth : ℕ) (sequences : List Sequence) (decide : Member → Decision) (m : Member) → IsNestedWithin depth sequences m →
    HasPlace p depth sequences decide m → finds p depth sequences decide m ≡ true
held-reached p zero sequences decide (Alg a) nested h =
    absurd (false≢true (ap (λ them. is_reached_sequence them h.s) (sym (reached_within-leaf zero sequences decide a)) ∙ h.is_reached))
held-reached p (suc depth) sequences decide (Alg a) nested h =
    absurd (false≢true (ap (λ them. is_reached_sequence them h.s) (sym (reached_within-leaf (suc depth) sequences decide a)) ∙ h.is_reached))
held-reached p zero sequences decide (Seq s) nested h = absurd nested
held-reached p (suc depth) sequences decide (Seq s) nested h =
    let it = opened (slice_get sequences s) (λ q. AllByRecursion (IsNestedWithin depth sequences) q.members) nested in
    let e = unrolled depth sequences decide s it.0 it.1 in
    ap (list_any p) e
    ∙ held-below p depth sequences decide s it.0 it.1 it.2 (held-reached p depth sequences decide)
    (subst (λ them. Holds sequences decide them p) e h)

-- what is reached is the member from which it was, or stands at a reached place

reached-below : (p : Member → Bool) (depth : ℕ) (sequences : List Sequence) (decide : Member → Decision) (s : ℕ) (q : Sequence) →
    slice_get sequences s ≡ Some q → ((m : Member) → finds p depth sequences decide m ≡ true → (p m ≡ true) ⊎ HasPlace p depth sequences decide m) →
    list_any p (flat_map (reached_within depth sequences decide) (entered q (map decide q.members))) ≡ true →
    Holds sequences decide (below_node depth sequences decide s q) p
reached-below p depth sequences decide s q e deeper any =
    let onward : Member → List Member = reached_within depth sequences decide in
    let members = entered q (map decide q.members) in
    let it = joined-any p onward members any in
    ⊎_elim
    (λ (here : p it.1 ≡ true). record {
      s = s;
      i = it.0;
      node = q;
      member = it.1;
      there = e;
      is_reached = or_left (nat_eq s s) (list_any (is_sequence_of s) (flat_map onward members)) (eq-eqb s s refl);
      is_entered = it.2;
      passing = here;
    })
    (λ (h : Holds sequences decide (onward it.1) p). record {
      s = h.s;
      i = h.i;
      node = h.node;
      member = h.member;
      there = h.there;
      is_reached = or_right (nat_eq s h.s) _ (any-joined (is_sequence_of h.s) onward members it.0 it.1 it.2 h.is_reached);
      is_entered = h.is_entered;
      passing = h.passing;
    })
    (deeper it.1 it.3)

alone : (p : Member → Bool) (m : Member) → list_any p (m ∷ []) ≡ true → p m ≡ true
alone p m e = ⊎_elim (λ (h : p m ≡ true). h) (λ (h : false ≡ true). absurd (false≢true h)) (or_cases (p m) false e)

reached-held : (p : Member → Bool) (depth : ℕ) (sequences : List Sequence) (decide : Member → Decision) (m : Member) →
    finds p depth sequences decide m ≡ true → (p m ≡ true) ⊎ HasPlace p depth sequences decide m
reached-held p zero sequences decide (Alg a) e = inl (alone p (Alg a) (ap (list_any p) (sym (reached_within-leaf zero sequences decide a)) ∙ e))
reached-held p (suc depth) sequences decide (Alg a) e = inl (alone p (Alg a) (ap (list_any p) (sym (reached_within-leaf (suc depth) sequences decide a)) ∙ e))
reached-held p zero sequences decide (Seq s) e = absurd (false≢true (ap (list_any p) (sym (reached_within-zero zero sequences decide s refl)) ∙ e))
reached-held p (suc depth) sequences decide (Seq s) e = go (reached-held p depth sequences decide) (slice_get sequences s) refl
  where
    go : ((m : Member) → finds p depth sequences decide m ≡ true → (p m ≡ true) ⊎ HasPlace p depth sequences decide m) →
        (o : Option Sequence) → slice_get sequences s ≡ o → (p (Seq s) ≡ true) ⊎ HasPlace p (suc depth) sequences decide (Seq s)
    go deeper None there = inl (alone p (Seq s) (ap (list_any p) (sym (reached_within-none (suc depth) sequences decide s (omega arith) there)) ∙ e))
    go deeper (Some q) there =
        let all = unrolled depth sequences decide s q there in
        ⊎_elim
        (λ (h : p (Seq s) ≡ true). inl h)
        (λ (any : list_any p (flat_map (reached_within depth sequences decide) (entered q (map decide q.members))) ≡ true).
        inr (subst (λ them. Holds sequences decide them p) (sym all) (reached-below p depth sequences decide s q there deeper any)))
        (or_cases (p (Seq s)) _ (ap (list_any p) (sym all) ∙ e))

-- in a job

leaf-is : (number : ℕ) (m : Member) → is_leaf_of number m ≡ true → m ≡ Alg number
leaf-is number (Alg a) e = ap Alg (eqb-true a number e)
leaf-is number (Seq s) e = absurd (false≢true e)

sequence-is : (number : ℕ) (m : Member) → is_sequence_of number m ≡ true → m ≡ Seq number
sequence-is number (Alg a) e = absurd (false≢true e)
sequence-is number (Seq s) e = ap Seq (eqb-true s number e)

place-reached : (p : Member → Bool) (job : Job) (ran : List (Option Outcome)) (s i : ℕ) (m : Member) → IsNestedWithin MOST_DEPTH job.sequences (Seq job.top) →
    IsReachedPlace job ran s i m → p m ≡ true → list_any p (reached job ran) ≡ true
unfolding reached
place-reached p job ran s i m nested place passing =
    held-reached p _ job.sequences (decision job ran) (Seq job.top) nested (record {
      s = s;
      i = i;
      node = place.node;
      member = m;
      there = place.there;
      is_reached = place.is_reached;
      is_entered = place.is_entered;
      passing = passing;
    })

pub place-algorithm : (job : Job) (ran : List (Option Outcome)) (s i number : ℕ) → IsNestedWithin MOST_DEPTH job.sequences (Seq job.top) →
    IsReachedPlace job ran s i (Alg number) → is_reached (reached job ran) number ≡ true
place-algorithm job ran s i number nested place = place-reached (is_leaf_of number) job ran s i (Alg number) nested place (eq-eqb number number refl)

pub place-sequence : (job : Job) (ran : List (Option Outcome)) (s i number : ℕ) → IsNestedWithin MOST_DEPTH job.sequences (Seq job.top) →
    IsReachedPlace job ran s i (Seq number) → is_reached_sequence (reached job ran) number ≡ true
place-sequence job ran s i number nested place = place-reached (is_sequence_of number) job ran s i (Seq number) nested place (eq-eqb number number refl)

reached-place : (p : Member → Bool) (job : Job) (ran : List (Option Outcome)) (m : Member) → ((it : Member) → p it ≡ true → it ≡ m) →
    list_any p (reached job ran) ≡ true → (p (Seq job.top) ≡ true) ⊎ ((s i : ℕ) × IsReachedPlace job ran s i m)
unfolding reached
reached-place p job ran m only e =
    ⊎_elim
    (λ (top : p (Seq job.top) ≡ true). inl top)
    (λ (h : Holds job.sequences (decision job ran) (reached job ran) p).
    inr (
      h.s,
      h.i,
      record {
        node = h.node;
        there = h.there;
        is_reached = h.is_reached;
        is_entered = h.is_entered ∙ ap Some (only h.member h.passing);
      },
    ))
    (reached-held p _ job.sequences (decision job ran) (Seq job.top) e)

pub algorithm-place : (job : Job) (ran : List (Option Outcome)) (number : ℕ) → is_reached (reached job ran) number ≡ true →
    (s i : ℕ) × IsReachedPlace job ran s i (Alg number)
algorithm-place job ran number e =
    ⊎_elim
    (λ (top : false ≡ true). absurd (false≢true top))
    (λ (place : (s i : ℕ) × IsReachedPlace job ran s i (Alg number)). place)
    (reached-place (is_leaf_of number) job ran (Alg number) (leaf-is number) e)

pub sequence-place : (job : Job) (ran : List (Option Outcome)) (number : ℕ) → number ≢ job.top → is_reached_sequence (reached job ran) number ≡ true →
    (s i : ℕ) × IsReachedPlace job ran s i (Seq number)
sequence-place job ran number other e =
    ⊎_elim
    (λ (top : nat_eq job.top number ≡ true). absurd (other (sym (eqb-true job.top number top))))
    (λ (place : (s i : ℕ) × IsReachedPlace job ran s i (Seq number)). place)
    (reached-place (is_sequence_of number) job ran (Seq number) (sequence-is number) e)
