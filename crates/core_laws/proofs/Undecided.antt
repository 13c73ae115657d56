-- From an undecided top a way of undecided sequences leads down to a reached algorithm that decides nothing.
use Rattle.std.proofs.Common.{◌≡◌, ◌≢◌, ℕ, zero, suc, ◌<◌, Bool, true, false, ◌||◌, cond, if◌then◌else◌, List, [], ◌∷◌, map, slice_get, Option, Some, None, refl, sym, ap, ◌∙◌, arith}
use Rattle.std.proofs.lemmas.Bool.{false≢true, or_parts}
use Rattle.std.proofs.lemmas.Option.{same_Some, slice_get_within}
use Rattle.std.specs.List.{AllByRecursion, find, list_any}
use Rattle.std.specs.Prelude.{unwrap_or}
use Rattle.event_laws.proofs.Entering.{place-entered, top-reached}
use Rattle.event_laws.proofs.Nesting.{decision-sequence, opened}
use Rattle.event_laws.proofs.Placing.{place-algorithm, place-sequence}
use Rattle.event_laws.specs.Places.{IsReachedPlace, is_reached_sequence}
use Rattle.core_laws.proofs.Waiting.{all-get}
use Rattle.core_laws.specs.Ways.{IsMemberIn, IsWay}
use Rattle.hive_model.specs.ControlFlow.{IsNestedWithin}
use Rattle.hive_model.specs.Decision.{before_flags, concurrent, decision, fixing, ignored, inverted, is_fixing, is_undecided, neutral, node_decision, sequential, strict}
use Rattle.hive_model.specs.Job.{Job}
use Rattle.hive_model.specs.Reached.{is_reached, reached}
use Rattle.hive_model.specs.Sequence.{Sequence}
use Rattle.hive_model.specs.Valid.{IsValidJob}
use Rattle.hive_model.specs.declared.limits.TheConstants.{MOST_DEPTH}
use Rattle.hive_model.specs.declared.decision.Decision.{Decision}
use Rattle.hive_model.specs.declared.decision.Decision.TheVariants.{True, False, Undecided}
use Rattle.hive_model.specs.declared.outcome.Outcome.{Outcome}
use Rattle.hive_model.specs.declared.sequence.Member.{Member}
use Rattle.hive_model.specs.declared.sequence.Member.TheVariants.{Alg, Seq}

-- the first member whose decision passes a test

record IsFirst (test : Decision → Bool) (decide : Member → Decision) (ms : List Member) : Type 0 where
  index : ℕ
  it : Member
  at : slice_get ms index ≡ Some it
  passes : test (decide it) ≡ true
  found_is : find test (map decide ms) ≡ Some (decide it)
  before : (j : ℕ) (m : Member) → j < index → slice_get ms j ≡ Some m → test (decide m) ≡ false

first-of : (test : Decision → Bool) (decide : Member → Decision) (ms : List Member) →
    list_any test (map decide ms) ≡ true → IsFirst test decide ms
first-of test decide [] h = absurd (false≢true h)
first-of test decide (x ∷ ms) h = by (test (decide x)) refl h (first-of test decide ms)
  where
    earlier : (index : ℕ) → test (decide x) ≡ false →
        ((j : ℕ) (m : Member) → j < index → slice_get ms j ≡ Some m → test (decide m) ≡ false) →
        (j : ℕ) (m : Member) → j < suc index → slice_get (x ∷ ms) j ≡ Some m → test (decide m) ≡ false
    earlier index e before zero m less at = ap (λ (y : Member). test (decide y)) (sym (same_Some x m at)) ∙ e
    earlier index e before (suc j) m less at = before j m (omega (arith, less)) at

    by : (t : Bool) → test (decide x) ≡ t → (t || list_any test (map decide ms)) ≡ true →
        (list_any test (map decide ms) ≡ true → IsFirst test decide ms) → IsFirst test decide (x ∷ ms)
    by true e either later = record {
      index = 0;
      it = x;
      at = refl;
      passes = e;
      found_is = ap (λ (t : Bool). cond t (Some (decide x)) (find test (map decide ms))) e;
      before = λ j m less at. absurd (omega (arith, less));
    }
    by false e either later =
        let rest = later either in
        record {
          index = suc rest.index;
          it = rest.it;
          at = rest.at;
          passes = rest.passes;
          found_is = ap (λ (t : Bool). cond t (Some (decide x))
              (find test (map decide ms))) e ∙ rest.found_is;
          before = earlier rest.index e rest.before;
        }

none-found : (test : Decision → Bool) (ds : List Decision) → list_any test ds ≡ false → find test ds ≡ None
none-found test [] h = refl
none-found test (d ∷ ds) h =
    let both = or_parts (test d) (list_any test ds) h in
    ap (λ (t : Bool). cond t (Some d) (find test ds)) both.0 ∙ none-found test ds both.1

-- an undecided member that an undecided node enters

record IsOpen (q : Sequence) (decide : Member → Decision) : Type 0 where
  index : ℕ
  it : Member
  at : slice_get q.members index ≡ Some it
  undecided : decide it ≡ Undecided
  decided : q.sequential ≡ true → (j : ℕ) (m : Member) → j < index → slice_get q.members j ≡ Some m →
      decide m ≢ Undecided
  unfixed : q.sequential ≡ true → (j : ℕ) (m : Member) → j < index → slice_get q.members j ≡ Some m →
      q.short_circuit ≡ true → decide m ≢ fixing q.mode_or

is-undecided : (d : Decision) → is_undecided d ≡ true → d ≡ Undecided
is-undecided True h = absurd (false≢true h)
is-undecided False h = absurd (false≢true h)
is-undecided Undecided h = refl

not-undecided : (d : Decision) → is_undecided d ≡ false → d ≢ Undecided
not-undecided d h e = false≢true (sym h ∙ ap is_undecided e)

fixing-fixes : (mode_or : Bool) → is_fixing mode_or (fixing mode_or) ≡ true
fixing-fixes true = refl
fixing-fixes false = refl

not-fixing : (mode_or : Bool) (d : Decision) → is_fixing mode_or d ≡ false → d ≢ fixing mode_or
not-fixing mode_or d h e = false≢true (sym h ∙ (ap (is_fixing mode_or) e ∙ fixing-fixes mode_or))

fixing-made : (mode_or : Bool) → fixing mode_or ≢ Undecided
fixing-made true e = absurd (cc)
fixing-made false e = absurd (cc)

neutral-made : (mode_or : Bool) → neutral mode_or ≢ Undecided
neutral-made true e = absurd (cc)
neutral-made false e = absurd (cc)

strict-open : (mode_or : Bool) (ds : List Decision) → strict mode_or ds ≡ Undecided →
    list_any is_undecided ds ≡ true
strict-open mode_or ds h = by (list_any is_undecided ds) (list_any (is_fixing mode_or) ds) refl h
  where
    by : (u f : Bool) → list_any is_undecided ds ≡ u →
        (if u then Undecided else (if f then fixing mode_or else neutral mode_or)) ≡ Undecided →
        list_any is_undecided ds ≡ true
    by true f e h = e
    by false true e h = absurd (fixing-made mode_or h)
    by false false e h = absurd (neutral-made mode_or h)

concurrent-open : (mode_or : Bool) (ds : List Decision) → concurrent mode_or ds ≡ Undecided →
    list_any is_undecided ds ≡ true
concurrent-open mode_or ds h = by (list_any is_undecided ds) (list_any (is_fixing mode_or) ds) refl h
  where
    by : (u f : Bool) → list_any is_undecided ds ≡ u →
        (if f then fixing mode_or else (if u then Undecided else neutral mode_or)) ≡ Undecided →
        list_any is_undecided ds ≡ true
    by true f e h = e
    by false true e h = absurd (fixing-made mode_or h)
    by false false e h = absurd (neutral-made mode_or h)

-- the first one that is undecided: those before are decided
strict-member : (q : Sequence) (decide : Member → Decision) → (q.sequential ≡ true →
    q.short_circuit ≡ false) →
    list_any is_undecided (map decide q.members) ≡ true → IsOpen q decide
strict-member q decide whole h =
    let it = first-of is_undecided decide q.members h in
    record {
      index = it.index;
      it = it.it;
      at = it.at;
      undecided = is-undecided (decide it.it) it.passes;
      decided = λ order j m less at. not-undecided (decide m) (it.before j m less at);
      unfixed = λ order j m less at short. absurd (false≢true (sym (whole order) ∙ short));
    }

sequential-member : (q : Sequence) (decide : Member → Decision) →
    sequential q.mode_or (map decide q.members) ≡ Undecided → IsOpen q decide
sequential-member q decide h =
    by (list_any (λ d. is_undecided d || is_fixing q.mode_or d) (map decide q.members)) refl
  where
    by : (t : Bool) → list_any (λ d. is_undecided d || is_fixing q.mode_or d) (map decide q.members) ≡ t →
        IsOpen q decide
    by true e =
        let it = first-of (λ d. is_undecided d || is_fixing q.mode_or d) decide q.members e in
        record {
          index = it.index;
          it = it.it;
          at = it.at;
          undecided = sym (ap (λ (o : Option Decision). unwrap_or o (neutral q.mode_or)) it.found_is) ∙ h;
          decided = λ order j m less at. not-undecided (decide m)
              (or_parts (is_undecided (decide m)) (is_fixing q.mode_or (decide m)) (it.before j m less at)).0;
          unfixed = λ order j m less at short. not-fixing q.mode_or (decide m)
              (or_parts (is_undecided (decide m)) (is_fixing q.mode_or (decide m)) (it.before j m less at)).1;
        }
    by false e =
        absurd (neutral-made q.mode_or
        (sym (ap (λ (o : Option Decision). unwrap_or o (neutral q.mode_or))
        (none-found (λ d. is_undecided d || is_fixing q.mode_or d) (map decide q.members) e)) ∙ h))

open-member : (q : Sequence) (decide : Member → Decision) (short sequential_is : Bool) →
    q.short_circuit ≡ short → q.sequential ≡ sequential_is →
    (if short then (if sequential_is then sequential q.mode_or (map decide q.members)
    else concurrent q.mode_or (map decide q.members)) else strict q.mode_or (map decide q.members)) ≡
    Undecided →
    IsOpen q decide
open-member q decide true true short order h = sequential-member q decide h
open-member q decide true false short order h =
    strict-member q decide (λ e. absurd (false≢true (sym order ∙ e)))
    (concurrent-open q.mode_or (map decide q.members) h)
open-member q decide false order short is h =
    strict-member q decide (λ e. short) (strict-open q.mode_or (map decide q.members) h)

without-flags : (i v : Bool) (d : Decision) → ignored i (inverted v d) ≡ Undecided → d ≡ Undecided
without-flags false false d h = h
without-flags false true True h = absurd (cc)
without-flags false true False h = absurd (cc)
without-flags false true Undecided h = refl
without-flags true false True h = absurd (cc)
without-flags true false False h = absurd (cc)
without-flags true false Undecided h = refl
without-flags true true True h = absurd (cc)
without-flags true true False h = absurd (cc)
without-flags true true Undecided h = refl

node-open : (q : Sequence) (decide : Member → Decision) → node_decision q (map decide q.members) ≡ Undecided →
    IsOpen q decide
unfolding node_decision
node-open q decide h =
    open-member q decide q.short_circuit q.sequential refl refl
    (without-flags q.ignore_filter q.invert (before_flags q (map decide q.members)) h)

-- down from an undecided sequence

-- a reached algorithm that decides nothing, below undecided sequences up to the top
pub record IsOpenLeaf (job : Job) (ran : List (Option Outcome)) : Type 0 where
  pub number : ℕ
  pub is_reached_by : is_reached (reached job ran) number ≡ true
  pub undecided : decision job ran (Alg number) ≡ Undecided
  pub s : ℕ
  pub way : List ℕ
  pub stands : IsMemberIn job s (Alg number)
  pub is_way : IsWay job (s ∷ way)
  pub open_ones : AllByRecursion (λ (t : ℕ). decision job ran (Seq t) ≡ Undecided) (s ∷ way)

walk : (depth : ℕ) (job : Job) (ran : List (Option Outcome)) (s : ℕ) (way : List ℕ) → IsValidJob job →
    IsNestedWithin depth job.sequences (Seq s) → is_reached_sequence (reached job ran) s ≡ true →
    IsWay job (s ∷ way) →
    AllByRecursion (λ (t : ℕ). decision job ran (Seq t) ≡ Undecided) (s ∷ way) → IsOpenLeaf job ran
walk zero job ran s way valid nested is_reached_by is_way open_ones = absurd nested
walk (suc depth) job ran s way valid nested is_reached_by is_way open_ones =
    let q = opened (slice_get job.sequences s)
    (λ q. AllByRecursion (IsNestedWithin depth job.sequences) q.members) nested in
    let low = slice_get_within job.sequences s q.0 q.1 in
    let top_nested = valid.nested job.top valid.top in
    let it = node-open q.0 (decision job ran)
    (sym (decision-sequence job ran s q.0 (valid.nested s low) q.1) ∙ open_ones.0) in
    let place : IsReachedPlace job ran s it.index it.it =
    place-entered job ran s it.index q.0 it.it q.1 is_reached_by it.at (λ order j less. record {
      decided = λ m at. it.decided order j m less at;
      unfixed = λ m at short. it.unfixed order j m less at short;
    }) in
    further it.it it.index place (record {
      node = q.0;
      there = q.1;
      index = it.index;
      at =
          it.at;
    }) it.undecided
    (all-get (IsNestedWithin depth job.sequences) q.0.members it.index it.it q.2 it.at) top_nested
    (λ t. walk depth job ran t (s ∷ way) valid)
  where
    further : (m : Member) (i : ℕ) → IsReachedPlace job ran s i m → IsMemberIn job s m →
        decision job ran m ≡ Undecided → IsNestedWithin depth job.sequences m →
        IsNestedWithin MOST_DEPTH job.sequences (Seq job.top) →
        ((t : ℕ) → IsNestedWithin depth job.sequences (Seq t) →
        is_reached_sequence (reached job ran) t ≡ true → IsWay job (t ∷ (s ∷ way)) →
        AllByRecursion (λ (u : ℕ). decision job ran (Seq u) ≡ Undecided) (t ∷ (s ∷ way)) →
        IsOpenLeaf job ran) → IsOpenLeaf job ran
    further (Alg a) i place stands undecided deep top_nested next = record {
      number = a;
      is_reached_by = place-algorithm job ran s i a top_nested place;
      undecided = undecided;
      s = s;
      way = way;
      stands = stands;
      is_way = is_way;
      open_ones = open_ones;
    }
    further (Seq t) i place stands undecided deep top_nested next =
        next t deep (place-sequence job ran s i t top_nested place) (stands, is_way) (undecided, open_ones)

pub open-leaf : (job : Job) (ran : List (Option Outcome)) → IsValidJob job →
    decision job ran (Seq job.top) ≡ Undecided → IsOpenLeaf job ran
open-leaf job ran valid undecided =
    walk MOST_DEPTH job ran job.top [] valid (valid.nested job.top valid.top) (top-reached job ran) refl
    (undecided, tt)
