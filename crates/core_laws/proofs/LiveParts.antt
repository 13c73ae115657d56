-- What is live stands below no decided cut node. A member of a live sequence that cuts nothing off is live
-- too.
use Rattle.std.proofs.Common.{◌≡◌, ◌⊎◌, ℕ, zero, suc, ◌+◌, nat_eq, Bool, true, false, not, ◌&&◌, ◌||◌, List, [], ◌∷◌, slice_get, Option, Some, None, inl, inr, refl, sym, ap, ◌∙◌, zero-add, arith}
use Rattle.std.proofs.lemmas.Bool.{and_from, and_parts, eq-eqb, eqb-true, false≢true, false_from_ne_true, not-true, or_left, or_right}
use Rattle.std.proofs.lemmas.List.Folds.{list_any-append}
use Rattle.std.proofs.lemmas.Option.{same_Some, none-some}
use Rattle.std.specs.List.{enumerate_from, flat_map, list_any}
use Rattle.std.specs.Option.{option_map_or}
use Rattle.core_laws.proofs.Decided.{enumerated}
use Rattle.core_laws.proofs.Ends.{any-passes, passes-any}
use Rattle.core_laws.proofs.OneWay.{among-counts, below-leaf, counted-there, distinct-count, in-one, one-parent}
use Rattle.core_laws.specs.Ways.{IsMemberIn}
use Rattle.hive_model.specs.Below.{below, below_within, is_sequence_of}
use Rattle.hive_model.specs.ControlFlow.{algorithm_number, member_sequences, sequence_number}
use Rattle.hive_model.specs.Job.{Job}
use Rattle.hive_model.specs.Live.{is_cutting, is_live, is_live_sequence}
use Rattle.hive_model.specs.Reached.{is_leaf_of}
use Rattle.hive_model.specs.Sequence.{Sequence}
use Rattle.hive_model.specs.Valid.{IsValidJob}
use Rattle.hive_model.specs.declared.limits.TheConstants.{MOST_DEPTH}
use Rattle.hive_model.specs.declared.outcome.Outcome.{Outcome}
use Rattle.hive_model.specs.declared.sequence.Member.{Member}
use Rattle.hive_model.specs.declared.sequence.Member.TheVariants.{Alg, Seq}

-- a decided cut node above a member that passes the test
pub record IsCut (job : Job) (ran : List (Option Outcome)) (p : Member → Bool) : Type 0 where
  pub s : ℕ
  pub node : Sequence
  pub there : slice_get job.sequences s ≡ Some node
  pub cutting : is_cutting job ran (s, node) ≡ true
  pub below_it : list_any p (below job s) ≡ true

cut-by : (job : Job) (ran : List (Option Outcome)) (p : Member → Bool) →
    list_any (λ (it : ℕ × Sequence). is_cutting job ran it && list_any p (below job it.0))
    (enumerate_from 0 job.sequences) ≡ true → IsCut job ran p
cut-by job ran p h =
    let c = any-passes (λ (it : ℕ × Sequence). is_cutting job ran it && list_any p (below job it.0))
    (enumerate_from 0 job.sequences) h in
    let at = enumerated 0 job.sequences c.index c.it.0 c.it.1 c.there in
    let own = at.0 in
    let index : c.index ≡ c.it.0 = omega (arith, own) in
    let tests = and_parts (is_cutting job ran c.it) (list_any p (below job c.it.0)) c.passes in
    record {
      s = c.it.0;
      node = c.it.1;
      there = ap (slice_get job.sequences) (sym index) ∙ at.1;
      cutting = tests.0;
      below_it = tests.1;
    }

numbered-at : (from : ℕ) (sequences : List Sequence) (i : ℕ) (q : Sequence) → slice_get sequences i ≡ Some q →
    slice_get (enumerate_from from sequences) i ≡ Some (from + i, q)
numbered-at from [] i q h = absurd (none-some q h)
numbered-at from (x ∷ sequences) zero q h =
    let same : from ≡ from + zero = omega arith in
    ap (λ (y : Sequence). Some (from, y)) (same_Some x q h) ∙ ap (λ n. Some (n, q)) same
numbered-at from (x ∷ sequences) (suc i) q h =
    let same : from + 1 + i ≡ from + suc i = omega arith in
    numbered-at (from + 1) sequences i q h ∙ ap (λ n. Some (n, q)) same

cut-any : (job : Job) (ran : List (Option Outcome)) (p : Member → Bool) → IsCut job ran p →
    list_any (λ (it : ℕ × Sequence). is_cutting job ran it && list_any p (below job it.0))
    (enumerate_from 0 job.sequences) ≡ true
cut-any job ran p c =
    passes-any (λ (it : ℕ × Sequence). is_cutting job ran it && list_any p (below job it.0))
    (enumerate_from 0 job.sequences) c.s (c.s, c.node)
    (numbered-at 0 job.sequences c.s c.node c.there ∙ ap (λ n. Some (n, c.node)) (zero-add c.s))
    (and_from (is_cutting job ran (c.s, c.node)) (list_any p (below job c.s)) c.cutting c.below_it)

pub live-from : (job : Job) (ran : List (Option Outcome)) (number : ℕ) →
    (IsCut job ran (is_leaf_of number) → ⊥) → is_live job ran number ≡ true
unfolding is_live
live-from job ran number h = ap not (false_from_ne_true _ (λ e. h (cut-by job ran (is_leaf_of number) e)))

pub live-uncut : (job : Job) (ran : List (Option Outcome)) (number : ℕ) → is_live job ran number ≡ true →
    IsCut job ran (is_leaf_of number) → ⊥
unfolding is_live
live-uncut job ran number h c =
    false≢true (sym (not-true _ h) ∙ cut-any job ran (is_leaf_of number) c)

pub unlive-cut : (job : Job) (ran : List (Option Outcome)) (number : ℕ) → is_live job ran number ≡ false →
    IsCut job ran (is_leaf_of number)
unfolding is_live
unlive-cut job ran number h = cut-by job ran (is_leaf_of number) (by _ h)
  where
    by : (b : Bool) → not b ≡ false → b ≡ true
    by true e = refl
    by false e = absurd (false≢true (sym e))

live_sequence-from : (job : Job) (ran : List (Option Outcome)) (number : ℕ) →
    (IsCut job ran (is_sequence_of number) → ⊥) → is_live_sequence job ran number ≡ true
unfolding is_live_sequence
live_sequence-from job ran number h =
    ap not (false_from_ne_true _ (λ e. h (cut-by job ran (is_sequence_of number) e)))

live_sequence-uncut : (job : Job) (ran : List (Option Outcome)) (number : ℕ) →
    is_live_sequence job ran number ≡ true → IsCut job ran (is_sequence_of number) → ⊥
unfolding is_live_sequence
live_sequence-uncut job ran number h c =
    false≢true (sym (not-true _ h) ∙ cut-any job ran (is_sequence_of number) c)

-- the sequence in which a member below another sequence stands

record IsLast (job : Job) (p : Member → Bool) (depth u : ℕ) : Type 0 where
  v : ℕ
  m : Member
  stands : IsMemberIn job v m
  passes : p m ≡ true
  up : (v ≡ u) ⊎ (list_any (is_sequence_of v) (below_within depth job.sequences (Seq u)) ≡ true)

pub in-flat : {X Y : Type 0} (p : Y → Bool) (f : X → List Y) (xs : List X) (i : ℕ) (x : X) →
    slice_get xs i ≡ Some x → list_any p (f x) ≡ true → list_any p (flat_map f xs) ≡ true
in-flat p f [] i x at h = absurd (none-some x at)
in-flat p f (y ∷ xs) zero x at h =
    list_any-append p (f y) (flat_map f xs)
    ∙ or_left (list_any p (f y)) (list_any p (flat_map f xs))
    (ap (λ z. list_any p (f z)) (same_Some y x at) ∙ h)
in-flat p f (y ∷ xs) (suc i) x at h =
    list_any-append p (f y) (flat_map f xs)
    ∙ or_right (list_any p (f y)) (list_any p (flat_map f xs)) (in-flat p f xs i x at h)

below-last : (job : Job) (p : Member → Bool) (depth u : ℕ) →
    list_any p (below_within depth job.sequences (Seq u)) ≡ true → IsLast job p depth u
unfolding below_within
below-last job p zero u h = absurd (false≢true h)
below-last job p (suc depth) u h =
    by (slice_get job.sequences u) refl h (λ w. below-last job p depth w)
  where
    inner : (q : Sequence) (i : ℕ) (m : Member) → slice_get job.sequences u ≡ Some q →
        slice_get q.members i ≡ Some m → list_any p (below_within depth job.sequences m) ≡ true →
        ((w : ℕ) → list_any p (below_within depth job.sequences (Seq w)) ≡ true → IsLast job p depth w) →
        IsLast job p (suc depth) u
    inner q i (Alg b) there at some deeper =
        absurd (false≢true (sym (ap (list_any p) (below-leaf depth job.sequences b)) ∙ some))
    inner q i (Seq w) there at some deeper =
        let it = deeper w some in
        let lift = λ (h : list_any (is_sequence_of it.v)
        (Seq w ∷ below_within depth job.sequences (Seq w)) ≡ true).
        ap (λ (o : Option Sequence). list_any (is_sequence_of it.v) (option_map_or (λ (q : Sequence).
        flat_map (λ (m : Member). m ∷ below_within depth job.sequences m) q.members) o [])) there
        ∙ in-flat (is_sequence_of it.v) (λ (m : Member). m ∷ below_within depth job.sequences m) q.members i
        (Seq w) at h in
        record {
          v = it.v;
          m = it.m;
          stands = it.stands;
          passes = it.passes;
          up = elim it.up [
            | inl same ↦ inr (lift (or_left (nat_eq w it.v) _ (eq-eqb w it.v (sym same))))
            | inr further ↦ inr (lift (or_right (nat_eq w it.v) _ further))
          ];
        }

    member : (q : Sequence) (i : ℕ) (m : Member) → slice_get job.sequences u ≡ Some q →
        slice_get q.members i ≡ Some m → (t : Bool) → p m ≡ t →
        (t || list_any p (below_within depth job.sequences m)) ≡ true →
        ((w : ℕ) → list_any p (below_within depth job.sequences (Seq w)) ≡ true → IsLast job p depth w) →
        IsLast job p (suc depth) u
    member q i m there at true e some deeper = record {
      v = u;
      m = m;
      stands = record { node = q; there = there; index = i; at = at };
      passes = e;
      up = inl refl;
    }
    member q i m there at false e some deeper = inner q i m there at some deeper

    by : (o : Option Sequence) → slice_get job.sequences u ≡ o →
        list_any p (option_map_or (λ (q : Sequence).
        flat_map (λ (m : Member). m ∷ below_within depth job.sequences m) q.members) o []) ≡ true →
        ((w : ℕ) → list_any p (below_within depth job.sequences (Seq w)) ≡ true → IsLast job p depth w) →
        IsLast job p (suc depth) u
    by None e some deeper = absurd (false≢true some)
    by (Some q) e some deeper =
        let it = in-one p (λ (m : Member). m ∷ below_within depth job.sequences m) q.members some in
        member q it.index it.it e it.at (p it.it) refl it.some deeper

-- live members

abbrev pub IsLiveMember : Job → List (Option Outcome) → Member → Type 0
IsLiveMember job ran (Alg a) = is_live job ran a ≡ true
IsLiveMember job ran (Seq s) = is_live_sequence job ran s ≡ true

-- the sequence is no decided cut node
abbrev pub IsCalm : Job → List (Option Outcome) → ℕ → Type 0
IsCalm job ran s = (q : Sequence) → slice_get job.sequences s ≡ Some q → is_cutting job ran (s, q) ≡ true → ⊥

-- a cut node above a member of s is s itself or above s
no-cut : (job : Job) (ran : List (Option Outcome)) (s : ℕ) (p : Member → Bool) →
    is_live_sequence job ran s ≡ true → IsCalm job ran s → (c : IsCut job ran p) →
    (last : IsLast job p MOST_DEPTH c.s) → last.v ≡ s → ⊥
unfolding below
no-cut job ran s p live calm c last same = elim last.up [
  | inl own ↦
      let is : c.s ≡ s = sym own ∙ same in
      calm c.node (ap (slice_get job.sequences) (sym is) ∙ c.there)
      (ap (λ (n : ℕ). is_cutting job ran (n, c.node)) (sym is) ∙ c.cutting)
  | inr above ↦ live_sequence-uncut job ran s live (record {
    s = c.s;
    node = c.node;
    there = c.there;
    cutting = c.cutting;
    below_it = ap (λ (n : ℕ). list_any (is_sequence_of n) (below_within MOST_DEPTH job.sequences (Seq c.s)))
        (sym same) ∙ above;
  })
]

leaf-number : (number : ℕ) (m : Member) → is_leaf_of number m ≡ true → algorithm_number m ≡ Some number
leaf-number number (Alg a) h = ap Some (eqb-true a number h)
leaf-number number (Seq s) h = absurd (false≢true h)

seq-number : (number : ℕ) (m : Member) → is_sequence_of number m ≡ true → sequence_number m ≡ Some number
seq-number number (Alg a) h = absurd (false≢true h)
seq-number number (Seq s) h = ap Some (eqb-true s number h)

pub live-members : (job : Job) (ran : List (Option Outcome)) (s : ℕ) (m : Member) → IsValidJob job →
    is_live_sequence job ran s ≡ true → IsCalm job ran s → IsMemberIn job s m → IsLiveMember job ran m
unfolding below
live-members job ran s (Alg a) valid live calm stands = live-from job ran a (λ c.
    let last = below-last job (is_leaf_of a) MOST_DEPTH c.s c.below_it in
    let few = valid.cuts.one_leaf c.s a (record {
      node = c.node;
      there = c.there;
      cut = (and_parts c.node.cut _ c.cutting).0;
      below = c.below_it;
    }) in
    no-cut job ran s (is_leaf_of a) live calm c last
    (one-parent algorithm_number a job.sequences last.v s last.stands.index stands.index last.stands.node
    stands.node last.m (Alg a) (omega (arith, few)) last.stands.there last.stands.at
    (leaf-number a last.m last.passes) stands.there stands.at refl))
live-members job ran s (Seq t) valid live calm stands = live_sequence-from job ran t (λ c.
    let last = below-last job (is_sequence_of t) MOST_DEPTH c.s c.below_it in
    no-cut job ran s (is_sequence_of t) live calm c last
    (one-parent sequence_number t job.sequences last.v s last.stands.index stands.index last.stands.node
    stands.node last.m (Seq t) (distinct-count t (member_sequences job) valid.forest) last.stands.there
    last.stands.at (seq-number t last.m last.passes) stands.there stands.at refl))

-- the top stands below nothing
pub top-live : (job : Job) (ran : List (Option Outcome)) → IsValidJob job →
    is_live_sequence job ran job.top ≡ true
unfolding below
top-live job ran valid = live_sequence-from job ran job.top (λ c.
    let last = below-last job (is_sequence_of job.top) MOST_DEPTH c.s c.below_it in
    valid.top_is_no_member (counted-there job.top (member_sequences job)
    (among-counts sequence_number job.top job.sequences last.v last.stands.index last.stands.node last.m
    last.stands.there last.stands.at (seq-number job.top last.m last.passes))))
