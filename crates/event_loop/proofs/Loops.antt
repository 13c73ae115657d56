-- What each call of a loop leaves true.
use Rattle.std.proofs.Common.{◌≡◌, ℕ, ◌+◌, ◌*◌, ◌<◌, Bool, true, false, cond, is_none, is_some, List, [], ◌∷◌, length, count_by, replicate, slice_get, Option, Some, None, inl, inr, refl, ap, sym, ◌∙◌, subst, arith}
use Rattle.std.proofs.lemmas.Bool.{cases_lt}
use Rattle.std.proofs.lemmas.List.{length-replicate}
use Rattle.std.proofs.lemmas.List.Folds.{sum_by-replicate}
use Rattle.std.proofs.lemmas.Option.{same_Some, slice_get_within}
use Rattle.std.specs.List.{list_all}
use Rattle.std.specs.Prelude.{IsSomeAnd}
use Rattle.core_laws.proofs.Counting.{count-cons, one_if}
use Rattle.core_laws.proofs.LastEntry.{last-closes}
use Rattle.core_laws.proofs.OncePlaces.{run-once}
use Rattle.core_laws.specs.Once.{ended_at, has_place}
use Rattle.event_slots.specs.Slots.{claims_of}
use Rattle.hive_model.specs.EventRecord.{EventRecord}
use Rattle.hive_model.specs.EventResult.{EventResult}
use Rattle.hive_model.specs.History.{DeskState}
use Rattle.hive_model.specs.Job.{Job}
use Rattle.hive_model.specs.Machine.{Busy, Machine, opening}
use Rattle.hive_model.specs.Replay.{IsAtEnd, replay, replay_from}
use Rattle.report_text.specs.Tallied.{CountsAll}
use Rattle.report_text.specs.declared.counts.Counts.{Counts}
use Rattle.scheduler_core.proofs.Claims.{told}
use Rattle.scheduler_core.proofs.Keeping.{in-state}
use Rattle.scheduler_core.specs.Says.{IsOver, is_closed, is_empty, is_full, opening_desk}
use Rattle.scheduler_core.specs.State.{InState, IsDesk}
use Rattle.event_loop.proofs.Moves.{all-admitted}
use Rattle.event_loop.proofs.Ran.{work-is}
use Rattle.event_loop.proofs.Tallies.{counted-complete}
use Rattle.event_loop.proofs.Tallying.{is-quiet, opening-tallied, running-of, tallied-alike, tallied-first, tallied-hands-out}
use Rattle.event_loop.proofs.Window.{next-open}
use Rattle.event_loop.specs.Loop.{HandsOut, IsIdleAt, IsLoop, IsOverAt, KeepsOn, LoopState, NextHasEnded, TurnSays, results_of, work_at}
use Rattle.event_loop.specs.Performing.{IsAtRest, RanOn, RunSays}
use Rattle.event_loop.specs.Running.{DeskKeeps, EndsNone, IsGoing, IsRunning}
use Rattle.event_loop.specs.Waiting.{MovesUp, TakesFirst, Waits, waiting_at}
use Rattle.event_loop.specs.declared.turn.Turn.{Turn}
use Rattle.event_loop.specs.declared.turn.Turn.TheVariants as turns

-- the loop with these fields, as contracts see it
abbrev pub seen : DeskState → ℕ → Counts → LoopState
seen d handed counts = record { desk = d; handed = handed; counts = counts }

pub is-loop : (d : DeskState) (waiting : Waits) (handed : ℕ) (counts : Counts) →
    IsRunning d waiting handed counts →
    IsLoop (seen d handed counts)
is-loop d waiting handed counts k = record {
  desk = k.tally.desk;
  handed = k.tally.within;
  window = k.tally.window;
  counted = in-state d k.tally.machine (λ m. CountsAll (results_of m.finished) counts) k.tally.led
      k.tally.counted;
}

-- at first

begins : (job : Job) (slots : ℕ) (waiting : Waits) (counts : Counts) → IsDesk (opening_desk job slots) →
    waiting ≡ replicate (2 * slots) None → counts ≡ record { events = 0; ok = 0; failed = 0; stalled = 0 } →
    IsRunning (opening_desk job slots) waiting 0 counts
unfolding replay replay_from
begins job slots waiting counts desk empty zero =
    running-of (opening_desk job slots) waiting 0 counts (opening slots)
    (opening-tallied job slots waiting counts desk empty zero)
    (record {
      led = refl;
      slots = length-replicate slots None;
      quiet = sum_by-replicate claims_of slots None ∙ omega arith;
    })

pub begins-going : (job : Job) (slots count : ℕ) (d : DeskState) (waiting : Waits) (counts : Counts) →
    d ≡ opening_desk job slots → IsDesk d → count ≡ slots → waiting ≡ replicate (2 * count) None →
    counts ≡ record { events = 0; ok = 0; failed = 0; stalled = 0 } → IsGoing d waiting 0 counts false
begins-going job slots count d waiting counts is desk as_many empty zero = record {
  running = subst (λ (x : DeskState). IsRunning x waiting 0 counts) (sym is)
      (begins job slots waiting counts (subst IsDesk is desk)
      (empty ∙ ap (λ n. replicate {A = Option EventResult} (2 * n) None) as_many) zero);
  last = ap is_closed is;
}

-- a result goes out

pub goes-on : (d : DeskState) (old new : Waits) (handed : ℕ) (counts : Counts) (r : EventResult) →
    IsRunning d old handed counts → MovesUp old (Some r) new → IsRunning d new (handed + 1) counts
goes-on d old new handed counts r k up =
    running-of d new (handed + 1) counts k.tally.machine (tallied-hands-out d old new handed counts r k.tally up)
    (is-quiet d old handed counts k)

pub hands-out : (d : DeskState) (old new : Waits) (handed : ℕ) (counts : Counts) (r : EventResult) →
    IsRunning d old handed counts → MovesUp old (Some r) new →
    HandsOut (seen d handed counts) r (seen d (handed + 1) counts)
hands-out d old new handed counts r k up = record {
  desk = refl;
  counts = refl;
  handed = refl;
  result = tallied-first d old new handed counts r k.tally up;
}

-- after an algorithm was performed, or put back

pub ran-goes-on : (d after : DeskState) (waiting : Waits) (handed less : ℕ) (counts : Counts) →
    IsRunning d waiting handed counts → RanOn d less after → IsRunning after waiting handed counts
ran-goes-on d after waiting handed less counts k it =
    let m = k.tally.machine in
    let keeps = it.keeps in
    let same : it.old ≡ m = same_Some it.old m (sym it.was.led ∙ k.tally.led) in
    let finished : it.new.finished ≡ m.finished = it.finished ∙ ap (λ (n : Machine). n.finished) same in
    running-of after waiting handed counts it.new
    (tallied-alike d after waiting handed counts it.new k.tally it.desk
    (record { led = it.now.led; slots = it.now.slots }) finished keeps.job keeps.slots keeps.records) it.now

pub ran-less : (d after : DeskState) → RanOn d 1 after → work_at after < work_at d
ran-less d after it = omega (arith, work-is d it.old it.was.led, work-is after it.new it.now.led, it.work)

-- where nothing is in flight, every result was handed out

none-pass : (p : Option Busy → Bool) (slots : List (Option Busy)) → p None ≡ false →
    list_all (λ (slot : Option Busy). is_none slot) slots ≡ true → count_by p slots ≡ 0
none-pass p [] nothing empty = refl
none-pass p (None ∷ slots) nothing empty =
    omega (arith, count-cons p None slots, ap one_if nothing, none-pass p slots nothing empty)
none-pass p (Some b ∷ slots) nothing empty = absurd (cc)

pub all-handed : (d : DeskState) (waiting : Waits) (handed : ℕ) (counts : Counts) →
    (k : IsRunning d waiting handed counts) → waiting_at waiting 0 ≡ None → is_empty k.tally.machine ≡ true →
    handed ≡ length d.admitted
all-handed d waiting handed counts k none empty =
    let m = k.tally.machine in
    let once = run-once d.job d.slots d.admitted d.journal m k.tally.led in
    let all = all-admitted d m k.tally.desk k.tally.led in
    elim (cases_lt handed (length d.admitted)) [
      | inl low ↦
          let some : 0 < length waiting = omega (arith, k.tally.desk.some, k.tally.room) in
          let gone = next-open d.job d.admitted m.finished handed waiting k.tally.holds none some in
          let nowhere = none-pass (has_place (handed + 1)) m.slots refl empty in
          absurd (omega (
            arith,
            once.once (handed + 1) (omega arith) (omega (arith, low, all)),
            gone,
            nowhere,
          ))
      | inr high ↦ omega (arith, high, k.tally.within)
    ]

-- slots that are all empty aren't all busy
empty-free : (slots : List (Option Busy)) → list_all (λ (slot : Option Busy). is_none slot) slots ≡ true →
    0 < length slots → list_all (λ (slot : Option Busy). is_some slot) slots ≡ false
empty-free [] empty some = absurd (omega (arith, some))
empty-free (None ∷ slots) empty some = refl
empty-free (Some b ∷ slots) empty some = absurd (cc)

pub is-idle : (d : DeskState) (waiting : Waits) (handed : ℕ) (counts : Counts) →
    IsRunning d waiting handed counts →
    waiting_at waiting 0 ≡ None → InState d IsAtRest → IsIdleAt (seen d handed counts)
is-idle d waiting handed counts k none rests =
    let it = told (replay d.job d.slots d.admitted d.journal) IsAtRest k.tally.machine k.tally.led rests in
    let all = all-handed d waiting handed counts k none it.empty in
    let some : 0 < length k.tally.machine.slots = omega (arith, k.tally.slots, k.tally.desk.some) in
    record {
      all = all;
      room = record {
        on = sym (last-closes d.job d.slots d.admitted d.journal k.tally.machine k.tally.led) ∙ it.on;
        free = in-state d k.tally.machine (λ (m : Machine). is_full m ≡ false) k.tally.led
            (empty-free k.tally.machine.slots it.empty some);
        few = omega (arith, all, k.tally.desk.some);
      };
    }

pub is-over : (d : DeskState) (waiting : Waits) (handed : ℕ) (counts : Counts) →
    IsRunning d waiting handed counts →
    waiting_at waiting 0 ≡ None → InState d IsOver → IsOverAt (seen d handed counts)
is-over d waiting handed counts k none over =
    let m = k.tally.machine in
    let it = told (replay d.job d.slots d.admitted d.journal) IsOver m k.tally.led over in
    let done : IsAtEnd d.admitted m = record {
      closed = it.0;
      empty = it.1;
      all = all-admitted d m k.tally.desk k.tally.led;
    } in
    record {
      all = all-handed d waiting handed counts k none it.1;
      closed = sym (last-closes d.job d.slots d.admitted d.journal m k.tally.led) ∙ it.0;
      complete = in-state d m (IsAtEnd d.admitted) k.tally.led done;
      counts = λ uncut. counted-complete d.job d.slots d.admitted d.journal m counts k.tally.desk.valid uncut
          k.tally.led
          done k.tally.counted;
    }

-- a turn in which no event ended

still : (d mid : DeskState) (waiting same : Waits) (handed : ℕ) (counts as_many : Counts) →
    IsRunning d waiting handed counts → EndsNone d mid waiting same counts as_many →
    IsRunning mid same handed as_many
still d mid waiting same handed counts as_many k none =
    subst (λ (x : DeskState). IsRunning x same handed as_many) (sym none.same)
    (subst (λ (w : Waits). IsRunning d w handed as_many) (sym none.still_waiting)
    (subst (λ (x : Counts). IsRunning d waiting handed x) (sym none.as_many) k))

pub turn-running : (d mid after : DeskState) (waiting same : Waits) (handed : ℕ) (counts as_many : Counts)
    (answer : Turn) → IsRunning d waiting handed counts → EndsNone d mid waiting same counts as_many →
    RunSays mid answer after → IsRunning after same handed as_many
turn-running d mid after waiting same handed counts as_many answer k none says =
    go answer (still d mid waiting same handed counts as_many k none) says
  where
    go : (answer : Turn) → IsRunning mid same handed as_many → RunSays mid answer after →
        IsRunning after same handed as_many
    go (turns.Result r) now says = absurd says
    go turns.Went now says = ran-goes-on mid after same handed 1 as_many now says
    go turns.Idle now says = subst (λ (x : DeskState). IsRunning x same handed as_many) (sym says.0) now
    go turns.Over now says = subst (λ (x : DeskState). IsRunning x same handed as_many) (sym says.0) now
    go turns.NoMemory now says = ran-goes-on mid after same handed 0 as_many now says

pub turn-keeps : (d mid after : DeskState) (waiting same : Waits) (counts as_many : Counts) (answer : Turn) →
    EndsNone d mid waiting same counts as_many → RunSays mid answer after → is_closed after ≡ is_closed d
turn-keeps d mid after waiting same counts as_many answer none says = go answer says ∙ ap is_closed none.same
  where
    go : (answer : Turn) → RunSays mid answer after → is_closed after ≡ is_closed mid
    go (turns.Result r) says = absurd says
    go turns.Went says = says.keeps.closed
    go turns.Idle says = ap is_closed says.0
    go turns.Over says = ap is_closed says.0
    go turns.NoMemory says = says.keeps.closed

pub keeps-on : (d after : DeskState) (handed : ℕ) (counts now : Counts) → DeskKeeps d after →
    KeepsOn (seen d handed counts) (seen after handed now)
keeps-on d after handed counts now it = record {
  job = it.job;
  slots = it.slots;
  records = it.records;
  handed = refl;
  closed = it.closed;
}

pub turn-says : (d mid after : DeskState) (waiting same : Waits) (handed : ℕ) (counts as_many : Counts)
    (answer : Turn) → IsRunning d waiting handed counts → waiting_at waiting 0 ≡ None →
    EndsNone d mid waiting same counts as_many → RunSays mid answer after →
    TurnSays (seen d handed counts) answer (seen after handed as_many)
turn-says d mid after waiting same handed counts as_many answer k first none says =
    go answer (subst (λ (x : DeskState). RunSays x answer after) none.same says)
  where
    unchanged : after ≡ d → seen after handed as_many ≡ seen d handed counts
    unchanged e =
        ap (λ (x : DeskState). seen x handed as_many) e ∙ ap (λ (x : Counts). seen d handed x) none.as_many

    go : (answer : Turn) → RunSays d answer after →
        TurnSays (seen d handed counts) answer (seen after handed as_many)
    go (turns.Result r) says = absurd says
    go turns.Went says = (keeps-on d after handed counts as_many says.keeps, ran-less d after says)
    go turns.Idle says = (unchanged says.0, is-idle d waiting handed counts k first says.1)
    go turns.Over says = (unchanged says.0, is-over d waiting handed counts k first says.1)
    go turns.NoMemory says = keeps-on d after handed counts as_many says.keeps

-- a turn in which nothing was taken out
pub none-first : (d : DeskState) (old new : Waits) (handed : ℕ) (counts : Counts) →
    IsRunning d old handed counts →
    TakesFirst old None new → IsRunning d new handed counts × (waiting_at new 0 ≡ None)
none-first d old new handed counts k first = (
  subst (λ (w : Waits). IsRunning d w handed counts) (sym first.0) k,
  ap (λ (w : Waits). waiting_at w 0) first.0 ∙ first.1,
)

some-of : (o : Option EventRecord) (P : EventRecord → Type 0) → IsSomeAnd o P →
    (event : EventRecord) × (o ≡ Some event)
some-of (Some event) P it = (event, refl)
some-of None P it = absurd it

-- a result that waits at the first place is that of a record
pub waits-within : (d : DeskState) (waiting : Waits) (handed : ℕ) (counts : Counts) →
    IsRunning d waiting handed counts → is_some (waiting_at waiting 0) ≡ true → handed < length d.admitted
waits-within d waiting handed counts k waits = go (waiting_at waiting 0) refl waits
  where
    go : (o : Option EventResult) → waiting_at waiting 0 ≡ o → is_some o ≡ true → handed < length d.admitted
    go (Some r) e h =
        let it = some-of (slice_get d.admitted (handed + 0)) _ (k.tally.holds.results 0 r e) in
        let low = slice_get_within d.admitted (handed + 0) it.0 it.1 in
        omega (arith, low)
    go None e h = absurd (cc)

-- the first place is that of the next record
pub next-ended : (d : DeskState) (waiting : Waits) (handed : ℕ) (counts : Counts) (b : Bool) →
    IsRunning d waiting handed counts → b ≡ is_some (waiting_at waiting 0) → NextHasEnded (seen d handed counts) b
next-ended d waiting handed counts b k is =
    let t = k.tally in
    let some : 0 < length waiting = omega (arith, t.room, t.desk.some) in
    let next : handed + 1 + 0 ≡ handed + 1 = omega arith in
    in-state d t.machine (λ m. count_by (ended_at (handed + 1)) m.finished ≡ cond b 1 0) t.led
    (ap (λ n. count_by (ended_at n) t.machine.finished) (sym next)
    ∙ (t.holds.waits 0 some ∙ ap (λ (x : Bool). cond x 1 0) (sym is)))
