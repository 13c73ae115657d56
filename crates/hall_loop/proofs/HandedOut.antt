-- A result goes out.
use Rattle.std.proofs.Common.{◌≡◌, ℕ, zero, suc, ◌+◌, ◌<◌, Bool, List, [], ◌∷◌, ◌++◌, length, length-take-le, slice_get, Some, None, sym, ap, ◌∙◌, subst, arith}
use Rattle.std.proofs.lemmas.Option.{none-some, slice_get_within}
use Rattle.std.specs.Prelude.{IsSomeAnd}
use Rattle.event_loop.proofs.Tallying.{tallied-hands-out}
use Rattle.event_loop.proofs.Window.{length-moved}
use Rattle.event_loop.specs.Loop.{IsResultOf}
use Rattle.event_loop.specs.Waiting.{MovesUp, Waits, waiting_at}
use Rattle.hall_loop.specs.Beside.{AreResultsOf, Keeps, first_of}
use Rattle.hall_loop.specs.Window.{IsWindow}
use Rattle.hive_hall.specs.Pass.{job_of, seen}
use Rattle.hive_hall.specs.declared.hall.Hall.{Hall}
use Rattle.hive_hall.specs.declared.pass.Pass.{Pass}
use Rattle.hive_model.specs.EventRecord.{EventRecord}
use Rattle.hive_model.specs.EventResult.{EventResult}
use Rattle.hive_model.specs.History.{records_of}
use Rattle.report_text.specs.declared.counts.Counts.{Counts}
use Rattle.scheduler_core.proofs.Claims.{taken}

moved : (rest : Waits) (i : ℕ) (r : EventResult) → waiting_at (rest ++ None ∷ []) i ≡ Some r → waiting_at rest i ≡ Some r
moved [] zero r h = absurd (none-some r h)
moved [] (suc i) r h = absurd (none-some r h)
moved (o ∷ rest) zero r h = h
moved (o ∷ rest) (suc i) r h = moved rest i r h

-- a result that waits is that of a record
pub is-known : (hall : Hall) (given : List EventRecord) (handed i : ℕ) (waiting : Waits) (r : EventResult) →
    AreResultsOf hall given handed waiting → waiting_at waiting i ≡ Some r → handed + i < length given
is-known hall given handed i waiting r are there =
    let it = taken (slice_get given (handed + i)) (λ (x : EventRecord). IsResultOf (job_of hall) x r) (are i r there) in
    slice_get_within given (handed + i) it.value it.was

pub moved-results : (hall : Hall) (given : List EventRecord) (handed : ℕ) (old new : Waits) (r : EventResult) →
    AreResultsOf hall given handed old → MovesUp old (Some r) new → AreResultsOf hall given (handed + 1) new
moved-results hall given handed old new r are up i s there =
    let behind : waiting_at up.rest i ≡ Some s =
    moved up.rest i s (sym (ap (λ (w : Waits). waiting_at w i) up.is) ∙ there) in
    let was : waiting_at old (suc i) ≡ Some s = ap (λ (w : Waits). waiting_at w (suc i)) up.was ∙ behind in
    let at : handed + suc i ≡ handed + 1 + i = omega arith in
    subst (λ (n : ℕ). IsSomeAnd (slice_get given n) (λ event. IsResultOf (job_of hall) event s)) at (are (suc i) s was)

pub first-is : (hall : Hall) (given : List EventRecord) (handed : ℕ) (old new : Waits) (r : EventResult) →
    AreResultsOf hall given handed old → MovesUp old (Some r) new →
    IsSomeAnd (slice_get given handed) (λ event. IsResultOf (job_of hall) event r)
first-is hall given handed old new r are up =
    let at : handed + 0 ≡ handed = omega arith in
    subst (λ (n : ℕ). IsSomeAnd (slice_get given n) (λ event. IsResultOf (job_of hall) event r)) at
    (are 0 r (ap (λ (w : Waits). waiting_at w 0) up.was))

module _ (hall : Hall) (p : Pass) (old new : Waits) (counts : Counts) (slots admitted handed : ℕ) (closed : Bool)
    (r : EventResult) (k : Keeps hall p old counts slots admitted handed closed) (up : MovesUp old (Some r) new) where
  pub keeps-handing : Keeps hall p new counts slots admitted (handed + 1) closed
  keeps-handing = record {
    pass = k.pass;
    slots_are = k.slots_are;
    known = k.known;
    results = moved-results hall (first_of p admitted) handed old new r k.results up;
    told = λ others d legal.
        let t = k.told others d legal in
        record {
          tally = tallied-hands-out d old new handed counts r t.tally up;
          all = t.all;
          last = t.last;
        };
  }

  pub window-handing : IsWindow slots admitted handed counts old → IsWindow slots admitted (handed + 1) counts new
  window-handing w =
      let low : handed + 0 < length (first_of p admitted) =
      is-known hall (first_of p admitted) handed 0 old r k.results (ap (λ (x : Waits). waiting_at x 0) up.was) in
      let few : length (first_of p admitted) ≡ admitted =
      length-take-le admitted (records_of (seen p)) k.known in
      record {
        slots_few = w.slots_few;
        few = w.few;
        within = omega (arith, low, few);
        window = omega (arith, w.window);
        room = length-moved old new (Some r) up ∙ w.room;
        ended = w.ended;
        ok = w.ok;
        failed = w.failed;
        stalled = w.stalled;
      }
