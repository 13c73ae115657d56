-- Where all that is live and has run in some results has run in others too, those others decide each live
-- member that the first ones do, and reach each live algorithm that the first ones do.
use Rattle.std.proofs.Common.{◌≡◌, ◌≢◌, ℕ, zero, suc, ◌≤◌, nat_eq, Bool, true, false, not, ◌||◌, List, [], ◌∷◌, map, slice_get, Option, Some, None, refl, sym, ap, ◌∙◌, subst₂, arith}
use Rattle.std.proofs.lemmas.Bool.{and_parts, eqb-true, false≢true, or_left}
use Rattle.std.proofs.lemmas.Option.{slice_get_within}
use Rattle.std.specs.List.{AllByRecursion, flat_map, list_any}
use Rattle.std.specs.Option.{option_map_or}
use Rattle.event_laws.proofs.Entering.{place-entered, place-waits, top-reached}
use Rattle.event_laws.proofs.Nesting.{decision-sequence, decision_within-leaf, opened}
use Rattle.event_laws.proofs.Placing.{entered-at, place-algorithm, place-sequence}
use Rattle.event_laws.proofs.Settling.{AllSettle, Settles, node-settles, settles-same, settles-value}
use Rattle.event_laws.proofs.Staying.{Stays}
use Rattle.event_laws.specs.Places.{IsReachedPlace, LetsGoOn, is_reached_sequence}
use Rattle.core_laws.proofs.Decided.{flat-get}
use Rattle.core_laws.proofs.LiveParts.{IsCalm, IsLiveMember, in-flat, live-members, live-uncut}
use Rattle.core_laws.proofs.OneWay.{in-one}
use Rattle.core_laws.proofs.Waiting.{all-get}
use Rattle.hive_model.specs.Below.{below, below_within}
use Rattle.hive_model.specs.ControlFlow.{IsMemberOf, IsNestedWithin}
use Rattle.hive_model.specs.Decision.{decision, is_undecided, leaf_decision}
use Rattle.hive_model.specs.Job.{Job}
use Rattle.hive_model.specs.Live.{is_live, is_live_sequence}
use Rattle.hive_model.specs.Reached.{entered, is_leaf_of, is_reached, reached, reached_within}
use Rattle.hive_model.specs.Results.{outcome_at}
use Rattle.hive_model.specs.Sequence.{Sequence}
use Rattle.hive_model.specs.Valid.{IsValidJob}
use Rattle.hive_model.specs.declared.limits.TheConstants.{MOST_DEPTH}
use Rattle.hive_model.specs.declared.decision.Decision.{Decision}
use Rattle.hive_model.specs.declared.decision.Decision.TheVariants.{True, False, Undecided}
use Rattle.hive_model.specs.declared.outcome.Outcome.{Outcome}
use Rattle.hive_model.specs.declared.sequence.Member.{Member}
use Rattle.hive_model.specs.declared.sequence.Member.TheVariants.{Alg, Seq}

-- what both results decide they decide alike, and what is live and has run in the first has run in the second
pub record AreLiveWithin (job : Job) (ran others : List (Option Outcome)) : Type 0 where
  pub alike : (m : Member) → decision job ran m ≢ Undecided → decision job others m ≢ Undecided →
      decision job others m ≡ decision job ran m
  pub has : (number : ℕ) → is_live job others number ≡ true →
      Stays (outcome_at ran number) (outcome_at others number)

leaf-settles : (o later : Option Outcome) → Stays o later → Settles (leaf_decision o) (leaf_decision later)
leaf-settles None later h = tt
leaf-settles (Some o) later h = settles-same (leaf_decision (Some o)) (leaf_decision later)
    (ap leaf_decision h)

settles-made : (d later : Decision) → (d ≢ Undecided → later ≡ d) → Settles d later
settles-made True later h = h (λ e. absurd (cc))
settles-made False later h = h (λ e. absurd (cc))
settles-made Undecided later h = tt

all-members : (f g : Member → Decision) (ms : List Member) →
    ((i : ℕ) (m : Member) → slice_get ms i ≡ Some m → Settles (f m) (g m)) → AllSettle (map f ms) (map g ms)
all-members f g [] h = tt
all-members f g (m ∷ ms) h = (h 0 m refl, all-members f g ms (λ i x at. h (suc i) x at))

open-calm : (job : Job) (ran : List (Option Outcome)) (s : ℕ) → decision job ran (Seq s) ≡ Undecided →
    IsCalm job ran s
open-calm job ran s open_is q there cutting =
    false≢true (sym (ap (λ d. not (is_undecided d)) open_is)
    ∙ (and_parts q.cut (not (is_undecided (decision job ran (Seq s)))) cutting).1)

leaf : (job : Job) (ran : List (Option Outcome)) (number : ℕ) →
    decision job ran (Alg number) ≡ leaf_decision (outcome_at ran number)
unfolding decision
leaf job ran number = decision_within-leaf MOST_DEPTH job.sequences ran number

pub live-settles : (depth : ℕ) (job : Job) (ran others : List (Option Outcome)) (m : Member) →
    IsValidJob job →
    AreLiveWithin job ran others → IsNestedWithin depth job.sequences m → IsLiveMember job others m →
    Settles (decision job ran m) (decision job others m)
live-settles depth job ran others (Alg a) valid within nested live =
    subst₂ (λ c d. Settles c d) (sym (leaf job ran a)) (sym (leaf job others a))
    (leaf-settles (outcome_at ran a) (outcome_at others a) (within.has a live))
live-settles zero job ran others (Seq s) valid within nested live = absurd nested
live-settles (suc depth) job ran others (Seq s) valid within nested live =
    by (decision job others (Seq s)) refl (λ m. live-settles depth job ran others m valid within)
  where
    made : decision job others (Seq s) ≢ Undecided →
        Settles (decision job ran (Seq s)) (decision job others (Seq s))
    made h = settles-made (decision job ran (Seq s)) (decision job others (Seq s))
        (λ own. within.alike (Seq s) own h)

    by : (d : Decision) → decision job others (Seq s) ≡ d →
        ((m : Member) → IsNestedWithin depth job.sequences m → IsLiveMember job others m →
        Settles (decision job ran m) (decision job others m)) →
        Settles (decision job ran (Seq s)) (decision job others (Seq s))
    by True e inner = made (λ none. absurd (let bad = sym e ∙ none in cc))
    by False e inner = made (λ none. absurd (let bad = sym e ∙ none in cc))
    by Undecided e inner =
        let q = opened (slice_get job.sequences s)
        (λ q. AllByRecursion (IsNestedWithin depth job.sequences) q.members) nested in
        let low = slice_get_within job.sequences s q.0 q.1 in
        subst₂ (λ c d. Settles c d)
        (sym (decision-sequence job ran s q.0 (valid.nested s low) q.1))
        (sym (decision-sequence job others s q.0 (valid.nested s low) q.1))
        (node-settles q.0 (map (decision job ran) q.0.members) (map (decision job others) q.0.members)
        (all-members (decision job ran) (decision job others) q.0.members (λ i m at.
        inner m (all-get (IsNestedWithin depth job.sequences) q.0.members i m q.2 at)
        (live-members job others s m valid live (open-calm job others s e)
        (record { node = q.0; there = q.1; index = i; at = at })))))

-- what is reached from a sequence stands below it

reached-below : (depth more : ℕ) (job : Job) (decide : Member → Decision) (number s : ℕ) → depth ≤ more →
    list_any (is_leaf_of number) (reached_within depth job.sequences decide (Seq s)) ≡ true →
    list_any (is_leaf_of number) (below_within more job.sequences (Seq s)) ≡ true
unfolding reached_within below_within
reached-below zero more job decide number s le h = absurd (false≢true h)
reached-below (suc depth) zero job decide number s le h = absurd (omega (arith, le))
reached-below (suc depth) (suc more) job decide number s le h =
    by (slice_get job.sequences s) h (λ t. reached-below depth more job decide number t (omega (arith, le)))
  where
    leaf-any : (d : ℕ) (b : ℕ) →
        list_any (is_leaf_of number) (reached_within d job.sequences decide (Alg b)) ≡ true →
        nat_eq b number ≡ true
    leaf-any zero b h = or-nothing (nat_eq b number) h
      where
        or-nothing : (x : Bool) → (x || false) ≡ true → x ≡ true
        or-nothing true h = refl
        or-nothing false h = absurd (false≢true h)
    leaf-any (suc d) b h = or-nothing (nat_eq b number) h
      where
        or-nothing : (x : Bool) → (x || false) ≡ true → x ≡ true
        or-nothing true h = refl
        or-nothing false h = absurd (false≢true h)

    one : (m : Member) → list_any (is_leaf_of number) (reached_within depth job.sequences decide m) ≡ true →
        ((t : ℕ) → list_any (is_leaf_of number) (reached_within depth job.sequences decide (Seq t)) ≡ true →
        list_any (is_leaf_of number) (below_within more job.sequences (Seq t)) ≡ true) →
        list_any (is_leaf_of number) (m ∷ below_within more job.sequences m) ≡ true
    one (Alg b) some inner = or_left (nat_eq b number) _ (leaf-any depth b some)
    one (Seq t) some inner = inner t some

    by : (o : Option Sequence) →
        list_any (is_leaf_of number) (option_map_or (λ (q : Sequence).
        flat_map (reached_within depth job.sequences decide)
        (entered q (map decide q.members))) o []) ≡ true →
        ((t : ℕ) → list_any (is_leaf_of number) (reached_within depth job.sequences decide (Seq t)) ≡ true →
        list_any (is_leaf_of number) (below_within more job.sequences (Seq t)) ≡ true) →
        list_any (is_leaf_of number) (option_map_or (λ (q : Sequence).
        flat_map (λ (m : Member). m ∷ below_within more job.sequences m) q.members) o []) ≡ true
    by None some inner = absurd (false≢true some)
    by (Some q) some inner =
        let it = in-one (is_leaf_of number) (reached_within depth job.sequences decide)
        (entered q (map decide q.members)) some in
        let at = sym (entered-at q (map decide q.members) it.index
        (slice_get_within (entered q (map decide q.members)) it.index it.it it.at)) ∙ it.at in
        in-flat (is_leaf_of number) (λ (m : Member). m ∷ below_within more job.sequences m) q.members it.index
        it.it at (one it.it it.some inner)

-- down the reached places

goes-on : (job : Job) (ran others : List (Option Outcome)) (s j : ℕ) (q : Sequence) → IsValidJob job →
    AreLiveWithin job ran others → is_live_sequence job others s ≡ true → IsCalm job others s →
    slice_get job.sequences s ≡ Some q →
    ((m : Member) → slice_get q.members j ≡ Some m → IsNestedWithin MOST_DEPTH job.sequences m) →
    LetsGoOn job ran q j → LetsGoOn job others q j
goes-on job ran others s j q valid within live calm there nested go = record {
  decided = λ m at e. go.decided m at (sym (same m at) ∙ e);
  unfixed = λ m at short e. go.unfixed m at short (sym (same m at) ∙ e);
}
  where
    same : (m : Member) → slice_get q.members j ≡ Some m → decision job others m ≡ decision job ran m
    same m at = settles-value (decision job ran m) (decision job others m)
        (live-settles MOST_DEPTH job ran others m valid within (nested m at)
        (live-members job others s m valid live calm
        (record { node = q; there = there; index = j; at = at }))) (go.decided m at)

pub nested-member : (job : Job) (s j : ℕ) (q : Sequence) (m : Member) → IsValidJob job →
    slice_get job.sequences s ≡ Some q → slice_get q.members j ≡ Some m →
    IsNestedWithin MOST_DEPTH job.sequences m
nested-member job s j q m valid there at =
    by m (flat-get (IsMemberOf job)
    (λ (x : Sequence). x.members) job.sequences s j q m valid.members there at)
  where
    by : (x : Member) → IsMemberOf job x → IsNestedWithin MOST_DEPTH job.sequences x
    by (Alg a) low = tt
    by (Seq t) low = valid.nested t low

down : (depth : ℕ) (job : Job) (ran others : List (Option Outcome)) (number s : ℕ) → IsValidJob job →
    AreLiveWithin job ran others → depth ≤ MOST_DEPTH → IsNestedWithin depth job.sequences (Seq s) →
    is_reached_sequence (reached job ran) s ≡ true → is_reached_sequence (reached job others) s ≡ true →
    is_live_sequence job others s ≡ true → is_live job others number ≡ true →
    list_any (is_leaf_of number) (reached_within depth job.sequences (decision job ran) (Seq s)) ≡ true →
    is_reached (reached job others) number ≡ true
unfolding reached_within below
down zero job ran others number s valid within le nested came comes live live_leaf h = absurd nested
down (suc depth) job ran others number s valid within le nested came comes live live_leaf h =
    let q = opened (slice_get job.sequences s)
    (λ q. AllByRecursion (IsNestedWithin depth job.sequences) q.members) nested in
    let calm : IsCalm job others s = λ node there cutting. live-uncut job others number live_leaf (record {
      s = s;
      node = node;
      there = there;
      cutting = cutting;
      below_it = reached-below (suc depth) MOST_DEPTH job (decision job ran) number s le h;
    }) in
    let some : list_any (is_leaf_of number) (flat_map (reached_within depth job.sequences (decision job ran))
    (entered q.0 (map (decision job ran) q.0.members))) ≡ true =
    sym (ap (λ (o : Option Sequence). list_any (is_leaf_of number) (option_map_or (λ (x : Sequence).
    flat_map (reached_within depth job.sequences (decision job ran))
    (entered x (map (decision job ran) x.members)))
    o [])) q.1) ∙ h in
    let it = in-one (is_leaf_of number) (reached_within depth job.sequences (decision job ran))
    (entered q.0 (map (decision job ran) q.0.members)) some in
    let at = sym (entered-at q.0 (map (decision job ran) q.0.members) it.index
    (slice_get_within (entered q.0 (map (decision job ran) q.0.members)) it.index it.it it.at)) ∙ it.at in
    let was : IsReachedPlace job ran s it.index it.it =
    record { node = q.0; there = q.1; is_reached = came; is_entered = it.at } in
    let place : IsReachedPlace job others s it.index it.it =
    place-entered job others s it.index q.0 it.it q.1 comes at (λ order j less.
    goes-on job ran others s j q.0 valid within live calm q.1
    (λ m own. nested-member job s j q.0 m valid q.1 own)
    (place-waits job ran s it.index it.it was order j less)) in
    further it.it it.index was place
    (live-members job others s it.it valid live calm (record {
      node = q.0;
      there = q.1;
      index =
          it.index;
      at = at;
    }))
    (all-get (IsNestedWithin depth job.sequences) q.0.members it.index it.it q.2 at) it.some
    (λ t. down depth job ran others number t valid within (omega (arith, le)))
  where
    leaf-same : (d b : ℕ) → reached_within d job.sequences (decision job ran) (Alg b) ≡ Alg b ∷ []
    leaf-same zero b = refl
    leaf-same (suc d) b = refl

    or-nothing : (x : Bool) → (x || false) ≡ true → x ≡ true
    or-nothing true e = refl
    or-nothing false e = absurd (false≢true e)

    further : (m : Member) (i : ℕ) → IsReachedPlace job ran s i m → IsReachedPlace job others s i m →
        IsLiveMember job others m → IsNestedWithin depth job.sequences m →
        list_any (is_leaf_of number) (reached_within depth job.sequences (decision job ran) m) ≡ true →
        ((t : ℕ) → IsNestedWithin depth job.sequences (Seq t) →
        is_reached_sequence (reached job ran) t ≡ true → is_reached_sequence (reached job others) t ≡ true →
        is_live_sequence job others t ≡ true → is_live job others number ≡ true →
        list_any (is_leaf_of number) (reached_within depth job.sequences (decision job ran) (Seq t)) ≡ true →
        is_reached (reached job others) number ≡ true) →
        is_reached (reached job others) number ≡ true
    further (Alg b) i was place live_m deep some next =
        let same : b ≡ number = eqb-true b number (or-nothing (nat_eq b number)
        (sym (ap (list_any (is_leaf_of number)) (leaf-same depth b)) ∙ some)) in
        ap (is_reached (reached job others)) (sym same)
        ∙ place-algorithm job others s i b (valid.nested job.top valid.top) place
    further (Seq t) i was place live_m deep some next =
        next t deep (place-sequence job ran s i t (valid.nested job.top valid.top) was)
        (place-sequence job others s i t (valid.nested job.top valid.top) place) live_m live_leaf some

pub live-reached : (job : Job) (ran others : List (Option Outcome)) (number : ℕ) → IsValidJob job →
    AreLiveWithin job ran others → is_live job others number ≡ true →
    is_live_sequence job others job.top ≡ true → is_reached (reached job ran) number ≡ true →
    is_reached (reached job others) number ≡ true
unfolding reached
live-reached job ran others number valid within live top_live h =
    down MOST_DEPTH job ran others number job.top valid within (omega arith) (valid.nested job.top valid.top)
    (top-reached job ran) (top-reached job others) top_live live h
