-- The tally of a desk holds on, whatever comes next: a record, a claim or what came of one, an event that ends,
-- a result that is handed out, and that no further record comes. Claims may be outstanding all the while.
use Rattle.std.proofs.Common.{◌≡◌, ℕ, ◌+◌, ◌-◌, ◌*◌, ◌<◌, ◌≤◌, ◌^◌, true, List, [], ◌∷◌, ◌++◌, length, length-append, length-set, set, replicate, slice_get, Some, None, refl, ap, sym, ◌∙◌, subst, arith}
use Rattle.std.proofs.lemmas.List.{length-replicate}
use Rattle.std.proofs.lemmas.Option.{same_Some, slice_get_within}
use Rattle.std.specs.Prelude.{IsSomeAnd}
use Rattle.core_laws.proofs.OncePlaces.{run-once}
use Rattle.event_slots.specs.Slots.{claims_out}
use Rattle.hive_model.specs.EventRecord.{EventRecord}
use Rattle.hive_model.specs.EventResult.{EventResult}
use Rattle.hive_model.specs.History.{DeskState}
use Rattle.hive_model.specs.Job.{Job}
use Rattle.hive_model.specs.Machine.{Finished, Machine, opening}
use Rattle.hive_model.specs.Replay.{replay, replay_from}
use Rattle.hive_model.specs.declared.entry.Entry.{Entry}
use Rattle.hive_model.specs.declared.entry.Entry.TheVariants as entry
use Rattle.report_text.specs.Counted.{IsCounted}
use Rattle.report_text.specs.Tallied.{CountsAll}
use Rattle.report_text.specs.declared.counts.Counts.{Counts}
use Rattle.scheduler_core.proofs.Claims.{taken}
use Rattle.scheduler_core.specs.Says.{IsRetired, admitted_to, opening_desk, with_entry}
use Rattle.scheduler_core.specs.State.{IsDesk}
use Rattle.scheduler_core.specs.declared.answers.Finished.{Finished as Answer}
use Rattle.event_loop.proofs.Moves.{IsLed, all-admitted, ending, has-begun, has-closed, has-ended, has-moved, is_of_claim}
use Rattle.event_loop.proofs.Tallies.{counted-last, few-counted}
use Rattle.event_loop.proofs.Window.{first-record, is-above, length-moved, move-waits, none-wait, put-waits, wait-on}
use Rattle.event_loop.specs.Loop.{IsResultOf, results_of}
use Rattle.event_loop.specs.Running.{AreWaiting, IsQuiet, IsRunning, IsTallied}
use Rattle.event_loop.specs.Waiting.{MovesUp, Waits}

-- at first, no event has ended

pub opening-tallied : (job : Job) (slots : ℕ) (waiting : Waits) (counts : Counts) →
    IsDesk (opening_desk job slots) → waiting ≡ replicate (2 * slots) None →
    counts ≡ record { events = 0; ok = 0; failed = 0; stalled = 0 } →
    IsTallied (opening_desk job slots) waiting 0 counts
unfolding replay replay_from
opening-tallied job slots waiting counts desk empty zero = record {
  desk = desk;
  few = omega arith;
  within = omega arith;
  window = omega arith;
  room = ap length empty ∙ length-replicate (2 * slots) None;
  machine = opening slots;
  led = refl;
  slots = length-replicate slots None;
  counted = subst (CountsAll []) (sym zero) (record
      { events = refl; ok = refl; failed = refl; stalled = refl });
  holds = subst (λ w. AreWaiting job [] [] 0 w) (sym empty) (none-wait job [] (2 * slots));
}

-- where the same events have ended, the same results wait

same-waits : (job other : Job) (records same : List EventRecord) (finished now : List Finished) (handed : ℕ)
    (waiting later : Waits) → other ≡ job → same ≡ records → now ≡ finished → later ≡ waiting →
    AreWaiting job records finished handed waiting → AreWaiting other same now handed later
same-waits job other records same finished now handed waiting later e f g h it =
    subst (λ j. AreWaiting j same now handed later) (sym e)
    (subst (λ l. AreWaiting job l now handed later) (sym f)
    (subst (λ l. AreWaiting job records l handed later) (sym g)
    (subst (λ w. AreWaiting job records finished handed w) (sym h) it)))

pub led-of : (d : DeskState) (waiting : Waits) (handed : ℕ) (counts : Counts) →
    (t : IsTallied d waiting handed counts) → IsLed d t.machine
led-of d waiting handed counts t = record { led = t.led; slots = t.slots }

pub tallied-alike : (d after : DeskState) (waiting : Waits) (handed : ℕ) (counts : Counts) (next : Machine) →
    (t : IsTallied d waiting handed counts) → IsDesk after → IsLed after next →
    next.finished ≡ t.machine.finished →
    after.job ≡ d.job → after.slots ≡ d.slots → after.admitted ≡ d.admitted →
    IsTallied after waiting handed counts
tallied-alike d after waiting handed counts next t desk at finished job slots records =
    let size = ap length records in
    record {
      desk = desk;
      few = omega (arith, size, t.few);
      within = omega (arith, size, t.within);
      window = omega (arith, size, slots, t.window);
      room = t.room ∙ ap (λ n. 2 * n) (sym slots);
      machine = next;
      led = at.led;
      slots = at.slots;
      counted = subst (λ (l : List Finished). CountsAll (results_of l) counts) (sym finished) t.counted;
      holds = same-waits d.job after.job d.admitted after.admitted t.machine.finished next.finished handed
          waiting waiting job records finished refl t.holds;
    }

-- a claim, or what came of one
pub tallied-enters : (d after : DeskState) (waiting : Waits) (handed : ℕ) (counts : Counts) (e : Entry) →
    IsTallied d waiting handed counts → after ≡ with_entry d e → IsDesk after → is_of_claim e ≡ true →
    IsTallied after waiting handed counts
tallied-enters d after waiting handed counts e t appended desk kind =
    let it = has-moved d after t.machine e t.desk (led-of d waiting handed counts t) appended desk kind in
    tallied-alike d after waiting handed counts it.next t desk it.now it.finished
    (ap (λ (x : DeskState). x.job) appended) (ap (λ (x : DeskState). x.slots) appended)
    (ap (λ (x : DeskState). x.admitted) appended)

-- no further record comes
pub tallied-last : (d after : DeskState) (waiting : Waits) (handed : ℕ) (counts : Counts) →
    IsTallied d waiting handed counts → after ≡ with_entry d entry.Last → IsDesk after →
    IsTallied after waiting handed counts
tallied-last d after waiting handed counts t appended desk =
    let it = has-closed d after t.machine (led-of d waiting handed counts t) appended desk in
    tallied-alike d after waiting handed counts it.next t desk it.now it.finished
    (ap (λ (x : DeskState). x.job) appended) (ap (λ (x : DeskState). x.slots) appended)
    (ap (λ (x : DeskState). x.admitted) appended)

-- a record is admitted
pub tallied-admits : (d after : DeskState) (waiting : Waits) (handed slot : ℕ) (counts : Counts)
    (event : EventRecord) → IsTallied d waiting handed counts → after ≡ admitted_to d slot event → IsDesk after →
    length d.admitted < 2 ^ 32 - 1 → length d.admitted < handed + 2 * d.slots →
    IsTallied after waiting handed counts
tallied-admits d after waiting handed slot counts event t appended desk few room =
    let m = t.machine in
    let it = has-begun d after m slot event (led-of d waiting handed counts t) appended desk in
    let job : after.job ≡ d.job = ap (λ (x : DeskState). x.job) appended in
    let slots : after.slots ≡ d.slots = ap (λ (x : DeskState). x.slots) appended in
    let records : after.admitted ≡ d.admitted ++ event ∷ [] = ap (λ (x : DeskState). x.admitted) appended in
    let size : length after.admitted ≡ length d.admitted + 1 =
    ap length records ∙ length-append d.admitted (event ∷ []) in
    record {
      desk = desk;
      few = omega (arith, size, few);
      within = omega (arith, size, t.within);
      window = omega (arith, size, slots, room);
      room = t.room ∙ ap (λ n. 2 * n) (sym slots);
      machine = it.next;
      led = it.now.led;
      slots = it.now.slots;
      counted = subst (λ (l : List Finished). CountsAll (results_of l) counts) (sym it.finished) t.counted;
      holds = same-waits d.job after.job (d.admitted ++ event ∷ []) after.admitted m.finished it.next.finished
          handed waiting waiting job records it.finished refl
          (wait-on d.job d.admitted event m.finished handed waiting t.holds);
    }

-- a result is handed out

-- it is its record's
pub tallied-first : (d : DeskState) (old new : Waits) (handed : ℕ) (counts : Counts) (r : EventResult) →
    IsTallied d old handed counts → MovesUp old (Some r) new →
    IsSomeAnd (slice_get d.admitted handed) (λ event. IsResultOf d.job event r)
tallied-first d old new handed counts r t up =
    first-record d.job d.admitted t.machine.finished handed r old new t.holds up

pub tallied-hands-out : (d : DeskState) (old new : Waits) (handed : ℕ) (counts : Counts) (r : EventResult) →
    IsTallied d old handed counts → MovesUp old (Some r) new → IsTallied d new (handed + 1) counts
tallied-hands-out d old new handed counts r t up =
    let m = t.machine in
    let once = run-once d.job d.slots d.admitted d.journal m t.led in
    let all = all-admitted d m t.desk t.led in
    let first = taken (slice_get d.admitted handed) (λ event. IsResultOf d.job event r)
    (tallied-first d old new handed counts r t up) in
    let low = slice_get_within d.admitted handed first.value first.was in
    let size = length-moved old new (Some r) up in
    record {
      desk = t.desk;
      few = t.few;
      within = omega (arith, low);
      window = omega (arith, t.window);
      room = size ∙ t.room;
      machine = m;
      led = t.led;
      slots = t.slots;
      counted = t.counted;
      holds = move-waits d.job d.admitted m.finished handed r old new t.holds up
          (λ place far.
          let none = once.later place (omega (arith, far, all)) in
          omega (arith, none))
          (omega (arith, t.window, t.room));
    }

-- an event ends, and its result waits

pub place-known : (d after : DeskState) (waiting : Waits) (handed : ℕ) (counts : Counts) (f : Answer) →
    IsTallied d waiting handed counts → IsRetired d f after → IsDesk after → f.place ≤ length d.admitted
place-known d after waiting handed counts f t it desk =
    (has-ended d after t.machine f t.desk (led-of d waiting handed counts t) it desk).known

pub counts-fewer : (d after : DeskState) (waiting : Waits) (handed : ℕ) (counts : Counts) (f : Answer) →
    IsTallied d waiting handed counts → IsRetired d f after → IsDesk after → counts.events < length d.admitted
counts-fewer d after waiting handed counts f t it desk =
    let e = has-ended d after t.machine f t.desk (led-of d waiting handed counts t) it desk in
    let few = few-counted t.machine.finished counts t.counted in
    omega (arith, few.events, e.fewer)

-- what the code asks of the place and of the counts
pub record Fits (waiting : Waits) (handed : ℕ) (counts : Counts) (place : ℕ) : Type 0 where
  pub above : handed < place
  pub within : place ≤ handed + length waiting
  pub events : counts.events + 1 < 2 ^ 32
  pub ok : counts.ok + 1 < 2 ^ 32
  pub failed : counts.failed + 1 < 2 ^ 32
  pub stalled : counts.stalled + 1 < 2 ^ 32

pub fits : (d after : DeskState) (waiting : Waits) (handed : ℕ) (counts : Counts) (f : Answer) →
    IsTallied d waiting handed counts → IsRetired d f after → IsDesk after →
    Fits waiting handed counts f.place
fits d after waiting handed counts f t it desk =
    let m = t.machine in
    let e = has-ended d after m f t.desk (led-of d waiting handed counts t) it desk in
    let few = few-counted m.finished counts t.counted in
    record {
      above = is-above d.job d.admitted m.finished handed f.place waiting t.holds e.some e.first;
      within = omega (arith, e.known, t.window, t.room);
      events = omega (arith, few.events, e.fewer, t.few);
      ok = omega (arith, few.ok, e.fewer, t.few);
      failed = omega (arith, few.failed, e.fewer, t.few);
      stalled = omega (arith, few.stalled, e.fewer, t.few);
    }

pub tallied-retires : (d after : DeskState) (waiting later : Waits) (handed index : ℕ) (counts now : Counts)
    (f : Answer) →
    IsTallied d waiting handed counts → IsRetired d f after → IsDesk after → index ≡ f.place - handed - 1 →
    IsCounted counts f.result.status now → later ≡ set waiting index (Some f.result) →
    IsTallied after later handed now
tallied-retires d after waiting later handed index counts now f t it desk at counted put =
    let m = t.machine in
    let e = has-ended d after m f t.desk (led-of d waiting handed counts t) it desk in
    let keeps = e.keeps in
    let ok = fits d after waiting handed counts f t it desk in
    let place : f.place ≡ handed + 1 + index = omega (arith, at, ok.above) in
    let within : index < length waiting = omega (arith, place, ok.within) in
    let before : f.place - 1 ≡ handed + index = omega (arith, place) in
    let there : slice_get d.admitted (handed + index) ≡ Some it.event =
    sym (ap (slice_get d.admitted) before) ∙ it.record_is in
    let is : IsResultOf d.job it.event f.result = record { agrees = it.agrees; result = it.result } in
    let waits = put-waits d.job d.admitted m.finished handed index waiting (ending f) it.event t.holds e.first
    place
    within there is in
    let records = ap length keeps.records in
    record {
      desk = desk;
      few = omega (arith, records, t.few);
      within = omega (arith, records, t.within);
      window = omega (arith, records, keeps.slots, t.window);
      room = ap length put ∙ (length-set waiting index (Some f.result) ∙
          (t.room ∙ ap (λ n. 2 * n) (sym keeps.slots)));
      machine = e.next;
      led = e.now.led;
      slots = e.now.slots;
      counted = subst (λ (l : List Finished). CountsAll (results_of l) now) (sym e.finished)
          (counted-last m.finished (ending f) counts now t.counted counted);
      holds = same-waits d.job after.job d.admitted after.admitted (m.finished ++ ending f ∷ [])
          e.next.finished
          handed (set waiting index (Some f.result)) later keeps.job keeps.records e.finished put waits;
    }

-- and nothing is outstanding

pub is-quiet : (d : DeskState) (waiting : Waits) (handed : ℕ) (counts : Counts) →
    (k : IsRunning d waiting handed counts) → IsQuiet d k.tally.machine
is-quiet d waiting handed counts k = record { led = k.tally.led; slots = k.tally.slots; quiet = k.quiet }

pub running-of : (d : DeskState) (waiting : Waits) (handed : ℕ) (counts : Counts) (m : Machine) →
    IsTallied d waiting handed counts → IsQuiet d m → IsRunning d waiting handed counts
running-of d waiting handed counts m t q =
    let same : t.machine ≡ m = same_Some t.machine m (sym t.led ∙ q.led) in
    record { tally = t; quiet = ap (λ (n : Machine). claims_out n.slots) same ∙ q.quiet }
