-- A complete run has ended each record once, with the result of that record alone.
use Rattle.std.proofs.Common.{◌≡◌, ℕ, suc, ◌+◌, ◌-◌, ◌<◌, ◌≤◌, nat_eq, Bool, true, false, cond, is_some, is_none, List, [], ◌∷◌, length, map, count_by, slice_get, Option, Some, None, refl, sym, subst, ap, ap₂, ◌∙◌, add-zero, arith}
use Rattle.std.proofs.lemmas.Bool.{eqb-true}
use Rattle.std.proofs.lemmas.Option.{same_Some, slice_get_within}
use Rattle.std.specs.List.{AllByRecursion, find, list_all}
use Rattle.std.specs.Option.{option_map_or}
use Rattle.event_laws.proofs.Uncut.{uncut-result}
use Rattle.event_laws.specs.Uncut.{HasNoCut}
use Rattle.core_laws.proofs.Counting.{count-cons, one_if}
use Rattle.core_laws.proofs.OncePlaces.{run-once}
use Rattle.core_laws.proofs.CutOff.{settled-agrees}
use Rattle.core_laws.proofs.States.{replay-sound}
use Rattle.core_laws.specs.Once.{AreOnce, HasEndedAs, ended_at, has_place}
use Rattle.core_laws.specs.Sound.{IsSoundEnd}
use Rattle.hive_model.specs.Agreement.{Agrees}
use Rattle.hive_model.specs.Event.{event_result}
use Rattle.hive_model.specs.EventRecord.{EventRecord}
use Rattle.hive_model.specs.EventResult.{EventResult}
use Rattle.hive_model.specs.Job.{Job}
use Rattle.hive_model.specs.Machine.{Busy, Finished, Machine}
use Rattle.hive_model.specs.Replay.{IsAtEnd, replay, results_from, results_in_order}
use Rattle.hive_model.specs.Valid.{IsValidJob}
use Rattle.hive_model.specs.declared.entry.Entry.{Entry}

-- empty slots hold no event

none-in : (p : Option Busy → Bool) (slots : List (Option Busy)) → p None ≡ false →
    list_all (λ (slot : Option Busy). is_none slot) slots ≡ true → count_by p slots ≡ 0
none-in p [] nothing empty = refl
none-in p (None ∷ slots) nothing empty = omega (
  arith,
  count-cons p None slots,
  ap one_if nothing,
  none-in p slots nothing empty,
)
none-in p (Some b ∷ slots) nothing empty = absurd (cc)

pub once-ended : (records : List EventRecord) (m : Machine) → AreOnce m → IsAtEnd records m → (place : ℕ) →
    0 < place → place ≤ length records → count_by (ended_at place) m.finished ≡ 1
once-ended records m it done place low high =
    let within : place ≤ m.admitted = omega (arith, high, done.all) in
    omega (arith, it.once place low within, none-in (has_place place) m.slots refl done.empty)

pub many-ended : (records : List EventRecord) (m : Machine) → AreOnce m → IsAtEnd records m →
    length m.finished ≡ length records
many-ended records m it done = omega (arith, it.many, none-in is_some m.slots refl done.empty, done.all)

-- what is there once is found

pub record IsFoundFirst {X : Type 0} (P : X → Type 0) (p : X → Bool) (xs : List X) : Type 0 where
  pub it : X
  pub found_is : find p xs ≡ Some it
  pub passes : p it ≡ true
  pub has : P it

pub find-one : {X : Type 0} (P : X → Type 0) (p : X → Bool) (xs : List X) → AllByRecursion P xs →
    0 < count_by p xs → IsFoundFirst P p xs
find-one P p [] all some = absurd (omega (arith, some))
find-one P p (x ∷ xs) all some = by (p x) refl (find-one P p xs all.1)
  where
    by : (t : Bool) → p x ≡ t → (0 < count_by p xs → IsFoundFirst P p xs) → IsFoundFirst P p (x ∷ xs)
    by true e rest = record {
      it = x;
      found_is = ap (λ (t : Bool). cond t (Some x) (find p xs)) e;
      passes = e;
      has = all.0;
    }
    by false e rest =
        let later = rest (omega (arith, some, count-cons p x xs, ap one_if e)) in
        record {
          it = later.it;
          found_is = ap (λ (t : Bool). cond t (Some x) (find p xs)) e ∙ later.found_is;
          passes = later.passes;
          has = later.has;
        }

-- results in order

pub record HasResult (f : ℕ → Option Finished) (place : ℕ) (result : EventResult) : Type 0 where
  pub it : Finished
  pub found_is : f place ≡ Some it
  pub result_is : it.result ≡ result

results-from : (job : Job) (all : List EventRecord) (place : ℕ) (finished : List Finished) →
    ((i : ℕ) (event : EventRecord) → slice_get all i ≡ Some event →
    HasResult (λ p. find (λ (f : Finished). nat_eq f.place p) finished) (place + i)
    (event_result job event)) →
    results_from (length all) place finished ≡ map (event_result job) all
results-from job [] place finished h = refl
results-from job (event ∷ all) place finished h =
    let first = h 0 event refl in
    let own : find (λ (f : Finished). nat_eq f.place place) finished ≡ Some first.it =
    ap (λ (p : ℕ). find (λ (f : Finished). nat_eq f.place p) finished) (sym (add-zero place))
    ∙ first.found_is in
    ap (λ (o : Option Finished). option_map_or
    (λ (f : Finished). f.result ∷ results_from (length all) (place + 1) finished) o []) own
    ∙ ap₂ ◌∷◌ first.result_is (results-from job all (place + 1) finished (λ i other there.
    let later = h (suc i) other there in
    let same : place + 1 + i ≡ place + suc i = omega arith in
    record {
      it = later.it;
      found_is = ap (λ (p : ℕ). find (λ (f : Finished). nat_eq f.place p) finished) same ∙ later.found_is;
      result_is = later.result_is;
    }))

pub complete-results : (job : Job) (slots : ℕ) (records : List EventRecord) (journal : List Entry)
    (m : Machine) → IsValidJob job → HasNoCut job → replay job slots records journal ≡ Some m →
    IsAtEnd records m → results_in_order m ≡ map (event_result job) records
unfolding results_in_order
complete-results job slots records journal m valid uncut run done =
    ap (λ (n : ℕ). results_from n 1 m.finished) done.all
    ∙ results-from job records 1 m.finished (λ i event there.
    let once = run-once job slots records journal m run in
    let sound = replay-sound job slots records journal m valid.numbered run in
    let within = slice_get_within records i event there in
    let one = once-ended records m once done (1 + i) (omega arith) (omega (arith, within)) in
    let f = find-one (IsSoundEnd job records m.admitted) (λ (f : Finished). nat_eq f.place (1 + i)) m.finished
    sound.ended (omega (arith, one)) in
    let at : f.it.place - 1 ≡ i = omega (arith, eqb-true f.it.place (1 + i) f.passes) in
    let same : f.has.event ≡ event = same_Some f.has.event event
    (sym f.has.there ∙ (ap (slice_get records) at ∙ there)) in
    record {
      it = f.it;
      found_is = f.found_is;
      result_is = f.has.told ∙ (uncut-result job f.has.event f.has.ran uncut f.has.within f.has.rests
          ∙ ap (event_result job) same);
    })

-- with cut nodes too, each record's end agrees with it
pub complete-agrees : (job : Job) (slots : ℕ) (records : List EventRecord) (journal : List Entry) (m : Machine)
    (i : ℕ) (event : EventRecord) → IsValidJob job → replay job slots records journal ≡ Some m →
    IsAtEnd records m → slice_get records i ≡ Some event → HasEndedAs m (i + 1) (Agrees job event)
complete-agrees job slots records journal m i event valid run done there =
    let once = run-once job slots records journal m run in
    let sound = replay-sound job slots records journal m valid.numbered run in
    let within = slice_get_within records i event there in
    let one = once-ended records m once done (i + 1) (omega arith) (omega (arith, within)) in
    let f = find-one (IsSoundEnd job records m.admitted) (ended_at (i + 1)) m.finished
    sound.ended (omega (arith, one)) in
    let at : f.it.place - 1 ≡ i = omega (arith, eqb-true f.it.place (i + 1) f.passes) in
    let same : f.has.event ≡ event = same_Some f.has.event event
    (sym f.has.there ∙ (ap (slice_get records) at ∙ there)) in
    record {
      end = f.it;
      found_is = f.found_is;
      result_is = subst (λ (e : EventRecord). Agrees job e f.it.result) same
          (subst (λ (r : EventResult). Agrees job f.has.event r) (sym f.has.told)
          (settled-agrees job f.has.event f.has.ran valid f.has.within f.has.rests));
    }
