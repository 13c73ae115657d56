-- A loop at its start.
use Rattle.std.proofs.Common.{◌≡◌, ℕ, ◌+◌, ◌*◌, ◌≤◌, false, List, [], ◌∷◌, ◌++◌, length, length-append, replicate, Some, None, refl, sym, ap, ◌∙◌, subst, arith}
use Rattle.std.proofs.lemmas.List.{length-replicate}
use Rattle.std.proofs.lemmas.List.Elements.{All-pop, All-weaker}
use Rattle.std.proofs.lemmas.Option.{none-some}
use Rattle.std.specs.Prelude.{All}
use Rattle.core_laws.proofs.Places.{flat-none}
use Rattle.event_loop.proofs.Tallying.{opening-tallied}
use Rattle.event_loop.specs.Waiting.{Waits, waiting_at}
use Rattle.expr_code.specs.Claim.{Done}
use Rattle.hall_loop.proofs.Works.{history-one}
use Rattle.hall_loop.specs.Beside.{AreResultsOf, IsToldBy, Keeps, first_of}
use Rattle.hall_loop.specs.Opened.{AreNewWorkers, IsNewWorker}
use Rattle.hall_loop.specs.Window.{IsWindow}
use Rattle.hive_hall.proofs.Histories.{is-history}
use Rattle.hive_hall.specs.Closing.{IsNewIn}
use Rattle.hive_hall.specs.Legal.{IsHistoryOf}
use Rattle.hive_hall.specs.Pass.{job_of, passes_of, seen, slots_of}
use Rattle.hive_hall.specs.declared.hall.Hall.{Hall}
use Rattle.hive_hall.specs.declared.pass.Pass.{Pass}
use Rattle.hive_model.specs.EventRecord.{EventRecord}
use Rattle.hive_model.specs.History.{DeskState, Participant, history}
use Rattle.hive_model.specs.Job.{Job}
use Rattle.hive_model.specs.Many.{Many}
use Rattle.hive_model.specs.declared.item.Item.{Item}
use Rattle.hive_model.specs.declared.limits.TheConstants.{MOST_SLOTS}
use Rattle.report_text.specs.declared.counts.Counts.{Counts}
use Rattle.scheduler_core.specs.Says.{opening_desk}
use Rattle.scheduler_core.specs.State.{IsDesk}

abbrev pub none_counted : Counts
none_counted = record { events = 0; ok = 0; failed = 0; stalled = 0 }

pub window-opening : (slots : ℕ) (waiting : Waits) (counts : Counts) → slots ≤ MOST_SLOTS →
    waiting ≡ replicate (2 * slots) None → counts ≡ none_counted → IsWindow slots 0 0 counts waiting
window-opening slots waiting counts few empty none = record {
  slots_few = few;
  few = omega arith;
  within = omega arith;
  window = omega arith;
  room = ap length empty ∙ length-replicate (2 * slots) None;
  ended = omega (arith, ap (λ (c : Counts). c.events) none);
  ok = omega (arith, ap (λ (c : Counts). c.ok) none);
  failed = omega (arith, ap (λ (c : Counts). c.failed) none);
  stalled = omega (arith, ap (λ (c : Counts). c.stalled) none);
}

nothing-waits : (hall : Hall) (given : List EventRecord) (n : ℕ) (waiting : Waits) → waiting ≡ replicate n None →
    AreResultsOf hall given 0 waiting
nothing-waits hall given n waiting empty i r there =
    absurd (none-some r (sym (flat-none n i) ∙ (sym (ap (λ (w : Waits). waiting_at w i) empty) ∙ there)))

pub keeps-opening : (hall : Hall) (p : Pass) (d : DeskState) (job : Job) (slots : ℕ) (waiting : Waits)
    (counts : Counts) → d ≡ opening_desk job slots → IsDesk d → job_of hall ≡ d.job → slots_of hall ≡ d.slots →
    IsNewIn hall d p → waiting ≡ replicate (2 * slots) None → counts ≡ none_counted →
    Keeps hall p waiting counts slots 0 0 false
keeps-opening hall p d job slots waiting counts opens desk job_is slots_are new empty none = record {
  pass = new.0;
  slots_are = sym (slots_are ∙ ap (λ (x : DeskState). x.slots) opens);
  known = omega arith;
  results = nothing-waits hall (first_of p 0) (2 * slots) waiting empty;
  told = λ others e legal.
      let here : IsHistoryOf (job_of hall) (slots_of hall) (history d None) d =
      is-history (job_of hall) (slots_of hall) d None (sym job_is) (sym slots_are) desk in
      let seen_is : seen p ≡ history d None = ap (λ (x : Participant Done). x.seen) new.1 in
      let same : e ≡ d = history-one (job_of hall) (slots_of hall) (history d None) e d
      (subst (λ (l : List Item). IsHistoryOf (job_of hall) (slots_of hall) l e) seen_is legal) here in
      subst (λ (x : DeskState). IsToldBy waiting counts 0 0 false x) (sym (same ∙ opens))
      (record {
        tally = opening-tallied job slots waiting counts (subst IsDesk opens desk) empty none;
        all = refl;
        last = refl;
      });
}

-- all passes but the last are the workers'
pub new-workers : (hall : Hall) (d : DeskState) (passes workers : Many Pass) (p : Pass) (count : ℕ) →
    passes_of hall ≡ count + 1 → length passes.items ≡ count + 1 → All (IsNewIn hall d) passes.items →
    passes.items ≡ workers.items ++ p ∷ [] → workers.spare ≡ passes.spare + 1 →
    AreNewWorkers hall workers × (length workers.items ≡ count) × IsNewIn hall d p
new-workers hall d passes workers p count many as_many all parts room =
    let size : length workers.items + 1 ≡ length passes.items =
    sym (ap (λ (l : List Pass). length l) parts ∙ length-append workers.items (p ∷ [])) in
    let both = All-pop (IsNewIn hall d) passes.items workers.items (Some p) parts all in (
      record {
        all = size ∙ (as_many ∙ sym many);
        new = All-weaker (IsNewIn hall d) (IsNewWorker hall)
            (λ q new. record { pass = new.0; none = ap (λ (x : Participant Done). x.own) new.1 }) workers.items both.0;
        room = omega (arith, room);
      },
      omega (arith, size, as_many),
      both.1,
    )
