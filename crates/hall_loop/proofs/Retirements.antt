-- An event ends beside workers, and its result waits.
use Rattle.std.proofs.Common.{◌≡◌, inl, inr, ℕ, zero, suc, ◌+◌, ◌-◌, ◌<◌, ◌≤◌, Bool, true, false, if◌then◌else◌, List, [], ◌∷◌, length, length-set, set, Option, Some, slice_get, take, refl, sym, ap, ◌∙◌, subst, arith}
use Rattle.std.proofs.lemmas.Bool.{cases_eq}
use Rattle.std.proofs.lemmas.Option.{same_Some}
use Rattle.std.specs.Prelude.{IsSomeAnd}
use Rattle.core_laws.proofs.Places.{flat-set_other, flat-set_same}
use Rattle.event_loop.proofs.Ran.{closed-before}
use Rattle.event_loop.proofs.Tallying.{counts-fewer, fits, place-known, tallied-retires}
use Rattle.event_loop.specs.Loop.{IsResultOf}
use Rattle.event_loop.specs.Waiting.{Waits, waiting_at}
use Rattle.hall_loop.proofs.Given.{begins-on, still-first}
use Rattle.hall_loop.proofs.Steps.{found-told, results-still, still}
use Rattle.hall_loop.proofs.Works.{history-one}
use Rattle.hall_loop.specs.Beside.{AreResultsOf, IsToldBy, Keeps, first_of}
use Rattle.hall_loop.specs.Others.{OthersWork}
use Rattle.hall_loop.specs.Window.{IsOwnAt, IsWindow}
use Rattle.hive_hall.specs.Calls.{Calls}
use Rattle.hive_hall.specs.Pass.{IsPassOf, job_of, seen, slots_of}
use Rattle.hive_hall.specs.Says.{RetireHere}
use Rattle.hive_hall.specs.declared.hall.Hall.{Hall}
use Rattle.hive_hall.specs.declared.pass.Pass.{Pass}
use Rattle.hive_model.specs.EventRecord.{EventRecord}
use Rattle.hive_model.specs.EventResult.{EventResult}
use Rattle.hive_model.specs.History.{BeginsWith, DeskState, records_of}
use Rattle.hive_model.specs.declared.entry.Entry.TheVariants as entry
use Rattle.hive_model.specs.declared.item.Item.TheVariants.{Entered}
use Rattle.report_text.specs.Counted.{IsCounted}
use Rattle.report_text.specs.declared.counts.Counts.{Counts}
use Rattle.scheduler_core.specs.Says.{is_closed}
use Rattle.text_model.specs.Whole.{is_failed, is_ok, is_stalled}
use Rattle.scheduler_core.specs.declared.answers.Finished.{Finished as Answer}

taken-at : (xs : List EventRecord) (n i : ℕ) → i < n → slice_get (take n xs) i ≡ slice_get xs i
taken-at xs zero i low = absurd (omega (arith, low))
taken-at [] (suc n) i low = refl
taken-at (x ∷ xs) (suc n) zero low = refl
taken-at (x ∷ xs) (suc n) (suc i) low = taken-at xs n i (omega (arith, low))

-- a result is put among those that wait
put-results : (hall : Hall) (given : List EventRecord) (handed index : ℕ) (waiting : Waits) (event : EventRecord)
    (r : EventResult) → AreResultsOf hall given handed waiting → index < length waiting →
    slice_get given (handed + index) ≡ Some event → IsResultOf (job_of hall) event r →
    AreResultsOf hall given handed (set waiting index (Some r))
put-results hall given handed index waiting event r are within there is i s e = elim (cases_eq i index) [
  | inl same ↦
      let mine : r ≡ s = same_Some r s
      (sym (flat-set_same waiting index (Some r) within)
      ∙ (ap (waiting_at (set waiting index (Some r))) (sym same) ∙ e)) in
      let at : slice_get given (handed + i) ≡ Some event = ap (λ (n : ℕ). slice_get given (handed + n)) same ∙ there in
      subst (λ (o : Option EventRecord). IsSomeAnd o (λ x. IsResultOf (job_of hall) x s)) (sym at)
      (subst (λ (x : EventResult). IsResultOf (job_of hall) event x) mine is)
  | inr differs ↦ are i s (sym (flat-set_other waiting index i (Some r) differs) ∙ e)
]

pub window-ended : (slots admitted handed index : ℕ) (counts now : Counts) (waiting later : Waits) (r : EventResult) →
    IsWindow slots admitted handed counts waiting → counts.events < admitted → IsCounted counts r.status now →
    later ≡ set waiting index (Some r) → IsWindow slots admitted handed now later
window-ended slots admitted handed index counts now waiting later r w low counted put =
    record {
      slots_few = w.slots_few;
      few = w.few;
      within = w.within;
      window = w.window;
      room = ap length put ∙ (length-set waiting index (Some r) ∙ w.room);
      ended = omega (arith, counted.events, low);
      ok = few-more (is_ok r.status) counts.ok now.ok counts.events now.events w.ok counted.events counted.ok;
      failed = few-more (is_failed r.status) counts.failed now.failed counts.events now.events w.failed counted.events
          counted.failed;
      stalled = few-more (is_stalled r.status) counts.stalled now.stalled counts.events now.events w.stalled counted.events
          counted.stalled;
    }
  where
    few-more : (b : Bool) (n m all more : ℕ) → n ≤ all → more ≡ all + 1 → m ≡ n + (if b then 1 else 0) → m ≤ more
    few-more true n m all more low e f = omega (arith, low, e, f)
    few-more false n m all more low e f = omega (arith, low, e, f)

pub within-waiting : (slots admitted handed : ℕ) (counts : Counts) (waiting : Waits) (place : ℕ) →
    IsWindow slots admitted handed counts waiting → IsOwnAt admitted handed counts.events place →
    place - handed - 1 < length waiting
within-waiting slots admitted handed counts waiting place w own =
    omega (arith, own.above, own.known, w.window, w.room)

module _ (hall : Hall) (p q : Pass) (waiting : Waits) (counts : Counts) (slots admitted handed : ℕ) (closed : Bool)
    (k : Keeps hall p waiting counts slots admitted handed closed) (pass : IsPassOf hall q) (f : Answer)
    (it : Calls (RetireHere (job_of hall) (slots_of hall) (Some f)) p q) where
  here : BeginsWith (seen q) it.found
  here = (Entered (entry.Retire it.step.added.0) ∷ [], it.step.added.1)

  begins-at : BeginsWith (seen q) (seen p)
  begins-at = begins-on (seen p) it.found (seen q) it.begins here

  before-told : OthersWork hall q → IsToldBy waiting counts admitted handed closed it.step.before
  before-told others =
      found-told hall p q waiting counts slots admitted handed closed k pass _ it here others it.step.before
      it.step.legal

  -- where the others only work, it is one of the loop's own events, which hadn't ended
  abbrev pub IsOwn : Type 0
  IsOwn = IsOwnAt admitted handed counts.events f.place

  pub is-own : OthersWork hall q → IsOwn
  is-own others =
      let t = before-told others in
      let s = it.step in
      let desk = s.still_legal.desk in
      record {
        above = (fits s.before s.after waiting handed counts f t.tally s.said desk).above;
        known = omega (arith, place-known s.before s.after waiting handed counts f t.tally s.said desk, t.all);
        fewer = omega (arith, counts-fewer s.before s.after waiting handed counts f t.tally s.said desk, t.all);
      }

  -- an event that isn't
  pub keeps-astray : (IsOwn → ⊥) → Keeps hall q waiting counts slots admitted handed closed
  keeps-astray astray = record {
    pass = pass;
    slots_are = k.slots_are;
    known = (still hall p q waiting counts slots admitted handed closed k pass begins-at).known;
    results = results-still hall p q waiting counts slots admitted handed closed k pass begins-at;
    told = λ others d legal. absurd (astray (is-own others));
  }

  -- one that is
  pub same-ended : first_of q admitted ≡ first_of p admitted
  same-ended = (still hall p q waiting counts slots admitted handed closed k pass begins-at).same

  module _ (own : IsOwn) (index : ℕ) (now : Counts) (later : Waits) (at : index ≡ f.place - handed - 1)
      (counted : IsCounted counts f.result.status now) (put : later ≡ set waiting index (Some f.result))
      (within : index < length waiting) where
    record-there : slice_get (first_of p admitted) (handed + index) ≡ Some it.step.said.event
    record-there =
        let s = it.step in
        let place : f.place - 1 ≡ handed + index = omega (arith, at, own.above) in
        let low : handed + index < admitted = omega (arith, place, own.above, own.known) in
        let found = still-first admitted (seen p) it.found it.begins k.known in
        ap (λ (l : List EventRecord). slice_get l (handed + index)) (sym found.same)
        ∙ (taken-at (records_of it.found) admitted (handed + index) low
        ∙ (ap (λ (l : List EventRecord). slice_get l (handed + index)) (sym s.legal.records)
        ∙ (ap (slice_get s.before.admitted) (sym place) ∙ s.said.record_is)))

    results-there : AreResultsOf hall (first_of q admitted) handed later
    results-there =
        let s = it.step in
        let is : IsResultOf (job_of hall) s.said.event f.result =
        subst (λ j. IsResultOf j s.said.event f.result) s.legal.job
        (record { agrees = s.said.agrees; result = s.said.result }) in
        let put_in = put-results hall (first_of p admitted) handed index waiting s.said.event f.result k.results within
        record-there is in
        subst (λ (l : List EventRecord). AreResultsOf hall l handed later)
        (sym (still hall p q waiting counts slots admitted handed closed k pass begins-at).same)
        (subst (λ (w : Waits). AreResultsOf hall (first_of p admitted) handed w) (sym put) put_in)

    pub keeps-ended : Keeps hall q later now slots admitted handed closed
    keeps-ended = record {
      pass = pass;
      slots_are = k.slots_are;
      known = (still hall p q waiting counts slots admitted handed closed k pass begins-at).known;
      results = results-there;
      told = λ others d legal.
          subst (λ (x : DeskState). IsToldBy later now admitted handed closed x)
          (sym (history-one (job_of hall) (slots_of hall) (seen q) d it.step.after legal it.step.still_legal))
          (ended-told (before-told others));
    }
      where
        ended-told : IsToldBy waiting counts admitted handed closed it.step.before →
            IsToldBy later now admitted handed closed it.step.after
        ended-told t =
            let s = it.step in
            let d = s.before in
            let records = ap (λ (x : DeskState). length x.admitted) s.said.appended in
            record {
              tally = tallied-retires d s.after waiting later handed index counts now f t.tally s.said
                  s.still_legal.desk at counted put;
              all = records ∙ t.all;
              last = ap is_closed s.said.appended
                  ∙ (closed-before d.journal (entry.Retire s.said.slot) refl ∙ t.last);
            }
