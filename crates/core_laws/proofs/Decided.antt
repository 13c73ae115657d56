-- An event without a fault in which nothing waits has decided the top.
use Rattle.std.proofs.Common.{◌≡◌, ℕ, zero, suc, ◌+◌, ◌<◌, true, not, ◌++◌, List, [], ◌∷◌, length, slice_get, Option, Some, None, inl, inr, refl, sym, ap, ◌∙◌, arith}
use Rattle.std.proofs.lemmas.Bool.{and_parts, false≢true, false_from_ne_true, not-true}
use Rattle.std.proofs.lemmas.Option.{same_Some, none-some}
use Rattle.std.specs.List.{AllByRecursion, enumerate_from, flat_map, list_any}
use Rattle.event_laws.proofs.Nesting.{decision_within-leaf}
use Rattle.core_laws.proofs.Ends.{any-passes, end-there, made-at}
use Rattle.core_laws.proofs.OneWay.{Among, cut-above}
use Rattle.core_laws.proofs.Undecided.{IsOpenLeaf, open-leaf}
use Rattle.core_laws.proofs.Waiting.{all-get}
use Rattle.core_laws.specs.Statuses.{HasFault, HasWaiting, IsDecided}
use Rattle.hive_model.specs.Below.{is_algorithm_below}
use Rattle.hive_model.specs.ControlFlow.{IsMemberOf}
use Rattle.hive_model.specs.Decision.{decision, is_undecided, leaf_decision}
use Rattle.hive_model.specs.Event.{end_by, result_of}
use Rattle.hive_model.specs.EventRecord.{EventRecord}
use Rattle.hive_model.specs.Job.{Job}
use Rattle.hive_model.specs.Live.{cuts_algorithm, is_cutting, is_live}
use Rattle.hive_model.specs.Reached.{is_reached, reached}
use Rattle.hive_model.specs.Results.{Results, outcome_at, outcomes}
use Rattle.hive_model.specs.Sequence.{Sequence}
use Rattle.hive_model.specs.Valid.{IsValidJob}
use Rattle.hive_model.specs.declared.limits.TheConstants.{MOST_DEPTH}
use Rattle.hive_model.specs.declared.decision.Decision.TheVariants.{Undecided}
use Rattle.hive_model.specs.declared.outcome.Outcome.{Outcome}
use Rattle.hive_model.specs.declared.outcome.Outcome.TheVariants as outcome
use Rattle.hive_model.specs.declared.sequence.Member.TheVariants.{Alg, Seq}

leaf : (job : Job) (ran : List (Option Outcome)) (number : ℕ) →
    decision job ran (Alg number) ≡ leaf_decision (outcome_at ran number)
unfolding decision
leaf job ran number = decision_within-leaf MOST_DEPTH job.sequences ran number

-- a reached and live algorithm that decides nothing has faulted or waits
tells : (job : Job) (event : EventRecord) (ran : Results) (number : ℕ) → number < length job.algorithms →
    is_reached (reached job (outcomes ran)) number ≡ true → is_live job (outcomes ran) number ≡ true →
    (HasFault (result_of job event ran) → ⊥) → (HasWaiting (result_of job event ran) → ⊥) →
    (o : Option Outcome) → outcome_at (outcomes ran) number ≡ o → leaf_decision o ≡ Undecided → ⊥
unfolding result_of
tells job event ran number low entered live fine done (Some outcome.Accepted) e h = absurd (cc)
tells job event ran number low entered live fine done (Some outcome.Rejected) e h = absurd (cc)
tells job event ran number low entered live fine done (Some (outcome.Failed at fault)) e h = fine (record {
  number = number;
  at = at;
  fault = fault;
  there = end-there job (outcomes ran) number low
      ∙ ap (λ (o : Option Outcome). Some (end_by (is_reached (reached job (outcomes ran)) number)
      (is_live job (outcomes ran) number) o)) e;
})
tells job event ran number low entered live fine done None e h = done (record {
  number = number;
  there = end-there job (outcomes ran) number low ∙ waiting;
})
  where
    waiting : Some (end_by (is_reached (reached job (outcomes ran)) number)
        (is_live job (outcomes ran) number)
        (outcome_at (outcomes ran) number)) ≡ Some (end_by true true None)
    waiting = ap (λ (o : Option Outcome). Some (end_by (is_reached (reached job (outcomes ran)) number)
        (is_live job (outcomes ran) number) o)) e
        ∙ (ap (λ b. Some (end_by b (is_live job (outcomes ran) number) None)) entered
        ∙ ap (λ b. Some (end_by true b None)) live)

-- of a way of undecided sequences none is a decided cut node, so the leaf below it is live

pub enumerated : (from : ℕ) (sequences : List Sequence) (i s : ℕ) (q : Sequence) →
    slice_get (enumerate_from from sequences) i ≡ Some (s, q) →
    (s ≡ from + i) × (slice_get sequences i ≡ Some q)
enumerated from [] i s q h = absurd (none-some (s, q) h)
enumerated from (x ∷ sequences) zero s q h =
    let same = same_Some (from, x) (s, q) h in
    let own : from ≡ s = ap (λ (y : ℕ × Sequence). y.0) same in
    (omega (arith, own), ap (λ (y : ℕ × Sequence). Some y.1) same)
enumerated from (x ∷ sequences) (suc i) s q h =
    let it = enumerated (from + 1) sequences i s q h in
    let own = it.0 in
    (omega (arith, own), it.1)

open-among : (job : Job) (ran : List (Option Outcome)) (s : ℕ) (way : List ℕ) →
    AllByRecursion (λ (t : ℕ). decision job ran (Seq t) ≡ Undecided) way → Among s way →
    decision job ran (Seq s) ≡ Undecided
open-among job ran s [] all among = absurd among
open-among job ran s (t ∷ way) all (inl same) = ap (λ (u : ℕ). decision job ran (Seq u)) same ∙ all.0
open-among job ran s (t ∷ way) all (inr among) = open-among job ran s way all.1 among

leaf-live : (job : Job) (ran : List (Option Outcome)) → IsValidJob job → (it : IsOpenLeaf job ran) →
    is_live job ran it.number ≡ true
unfolding is_live
leaf-live job ran valid it =
    ap not (false_from_ne_true (list_any (cuts_algorithm job ran it.number)
    (enumerate_from 0 job.sequences)) (λ cut.
    let c = any-passes (cuts_algorithm job ran it.number) (enumerate_from 0 job.sequences) cut in
    let at = enumerated 0 job.sequences c.index c.it.0 c.it.1 c.there in
    let index : c.index ≡ c.it.0 = (let own = at.0 in omega (arith, own)) in
    let tests = and_parts (is_cutting job ran c.it) (is_algorithm_below job c.it.0 it.number) c.passes in
    let own = and_parts c.it.1.cut (not (is_undecided (decision job ran (Seq c.it.0)))) tests.0 in
    let few = valid.cuts.one_leaf c.it.0 it.number (record {
      node = c.it.1;
      there = ap (slice_get job.sequences) (sym index) ∙ at.1;
      cut = own.0;
      below = tests.1;
    }) in
    let among =
    cut-above job it.number it.s c.it.0 it.way valid it.is_way it.stands (omega (arith, few)) tests.1 in
    false≢true (sym (not-true (is_undecided (decision job ran (Seq c.it.0))) own.1)
    ∙ ap is_undecided (open-among job ran c.it.0 (it.s ∷ it.way) it.open_ones among))))

front-all : {Y : Type 0} (P : Y → Type 0) (ys zs : List Y) → AllByRecursion P (ys ++ zs) → AllByRecursion P ys
front-all P [] zs all = tt
front-all P (w ∷ ys) zs all = (all.0, front-all P ys zs all.1)

back-all : {Y : Type 0} (P : Y → Type 0) (ys zs : List Y) → AllByRecursion P (ys ++ zs) → AllByRecursion P zs
back-all P [] zs all = all
back-all P (w ∷ ys) zs all = back-all P ys zs all.1

pub flat-get : {X Y : Type 0} (P : Y → Type 0) (f : X → List Y) (xs : List X) (i j : ℕ) (x : X) (y : Y) →
    AllByRecursion P (flat_map f xs) → slice_get xs i ≡ Some x → slice_get (f x) j ≡ Some y → P y
flat-get P f [] i j x y all there at = absurd (none-some x there)
flat-get P f (z ∷ xs) zero j x y all there at =
    all-get P (f z) j y (front-all P (f z) (flat_map f xs) all)
    (ap (λ w. slice_get (f w) j) (same_Some z x there) ∙ at)
flat-get P f (z ∷ xs) (suc i) j x y all there at =
    flat-get P f xs i j x y (back-all P (f z) (flat_map f xs) all) there at

pub ok-decided : (job : Job) (event : EventRecord) (ran : Results) → IsValidJob job →
    (HasFault (result_of job event ran) → ⊥) → (HasWaiting (result_of job event ran) → ⊥) →
    IsDecided (result_of job event ran) job.top
unfolding result_of
ok-decided job event ran valid fine done = record {
  decision = decision job (outcomes ran) (Seq job.top);
  there = made-at (λ s. decision job (outcomes ran) (Seq s)) (length job.sequences) job.top valid.top;
  made = λ undecided.
      let it = open-leaf job (outcomes ran) valid undecided in
      let low = flat-get (IsMemberOf job) (λ (q : Sequence). q.members) job.sequences it.s it.stands.index
      it.stands.node (Alg it.number) valid.members it.stands.there it.stands.at in
      tells job event ran it.number low it.is_reached_by (leaf-live job (outcomes ran) valid it) fine done
      (outcome_at (outcomes ran) it.number) refl (sym (leaf job (outcomes ran) it.number) ∙ it.undecided);
}
