-- A claim, and then its Done or its Back: nothing is outstanding again.
use Rattle.std.proofs.Common.{◌≡◌, ℕ, Bool, true, false, ◌||◌, List, [], ◌∷◌, ◌++◌, length, Option, Some, refl, ap, sym, ◌∙◌, subst, arith}
use Rattle.std.proofs.lemmas.Bool.{false_from_ne_true}
use Rattle.std.proofs.lemmas.List.Folds.{list_any-append}
use Rattle.std.specs.List.{list_any}
use Rattle.std.specs.Option.{option_and_then, option_map_or}
use Rattle.core_laws.proofs.States.{replay-sound}
use Rattle.core_laws.specs.Closing.{is_last}
use Rattle.core_laws.specs.Sound.{IsSound}
use Rattle.expr_code.specs.Claim.{Claim as Work}
use Rattle.hive_model.specs.History.{DeskState}
use Rattle.hive_model.specs.Machine.{Busy, Machine}
use Rattle.hive_model.specs.Replay.{replay}
use Rattle.hive_model.specs.Step.{step}
use Rattle.hive_model.specs.declared.entry.Entry.{Entry}
use Rattle.hive_model.specs.declared.entry.Entry.TheVariants as entry
use Rattle.scheduler_core.proofs.Claims.{taken, told}
use Rattle.scheduler_core.proofs.Keeping.{in-state}
use Rattle.scheduler_core.specs.Says.{IsClaimed, IsIdle, IsOut, IsWorkOf, MayNotCome, is_closed, is_empty, with_entry}
use Rattle.scheduler_core.specs.State.{InState, IsDesk}
use Rattle.event_loop.proofs.Effects.{Effect, back-effect, claim-effect, done-effect}
use Rattle.event_loop.proofs.Entries.{back-step, claim-step, done-step, stepped}
use Rattle.event_loop.proofs.Quiet.{all-empty, none-there}
use Rattle.event_loop.specs.Loop.{work_at, work_in}
use Rattle.event_loop.specs.Performing.{IsAtRest, IsBooked, RanOn}
use Rattle.event_loop.specs.Running.{DeskKeeps, IsQuiet, NoneEnds}

-- a desk with one entry more

pub record Entered (d : DeskState) (m : Machine) (e : Entry) (after : DeskState) : Type 0 where
  pub next : Machine
  pub led : replay after.job after.slots after.admitted after.journal ≡ Some next
  pub steps : step d.job d.admitted d.journal m e ≡ Some next
  pub all : next.admitted ≡ length after.admitted

pub entered : (d after : DeskState) (m : Machine) (e : Entry) →
    replay d.job d.slots d.admitted d.journal ≡ Some m →
    after ≡ with_entry d e → IsDesk after → Entered d m e after
entered d after m e led appended desk =
    let t = taken (replay after.job after.slots after.admitted after.journal)
    (λ n. n.admitted ≡ length after.admitted)
    desk.legal in
    record {
      next = t.value;
      led = t.was;
      steps = stepped d.job d.slots d.admitted d.journal e m t.value led
          (subst (λ (x : DeskState). replay x.job x.slots x.admitted x.journal ≡ Some t.value) appended
          t.was);
      all = t.holds;
    }

or-false : (b : Bool) → (b || false) ≡ b
or-false true = refl
or-false false = refl

pub closed-before : (journal : List Entry) (e : Entry) → is_last e ≡ false →
    list_any is_last (journal ++ e ∷ []) ≡ list_any is_last journal
closed-before journal e no_last =
    list_any-append is_last journal (e ∷ [])
    ∙ (ap (λ b. list_any is_last journal || (b || false)) no_last ∙ or-false (list_any is_last journal))

pub keeps-entry : (d after : DeskState) (e : Entry) → after ≡ with_entry d e → is_last e ≡ false →
    DeskKeeps d after
keeps-entry d after e appended no_last = record {
  job = ap (λ (x : DeskState). x.job) appended;
  slots = ap (λ (x : DeskState). x.slots) appended;
  records = ap (λ (x : DeskState). x.admitted) appended;
  closed = ap is_closed appended ∙ closed-before d.journal e no_last;
}

pub keeps-twice : (d one two : DeskState) → DeskKeeps d one → DeskKeeps one two → DeskKeeps d two
keeps-twice d one two a b = record {
  job = b.job ∙ a.job;
  slots = b.slots ∙ a.slots;
  records = b.records ∙ a.records;
  closed = b.closed ∙ a.closed;
}

pub keeps-same : (d : DeskState) → DeskKeeps d d
keeps-same d = record { job = refl; slots = refl; records = refl; closed = refl }

pub work-is : (d : DeskState) (m : Machine) → replay d.job d.slots d.admitted d.journal ≡ Some m →
    work_at d ≡ work_in m
unfolding work_at
work-is d m led = ap (λ o. option_map_or work_in o 0) led

-- the claim and what came of it

ran : (d one two : DeskState) (v : Work) (e : Entry) (less : ℕ) (m : Machine) → IsDesk d → IsQuiet d m →
    IsClaimed d 0 v one → IsDesk one → two ≡ with_entry one e → is_last e ≡ false → IsDesk two →
    ((mid last : Machine) → IsSound one.job one.admitted mid →
    step one.job one.admitted one.journal mid e ≡ Some last → Effect mid last 0 1 less) →
    RanOn d less two
ran d one two v e less m desk q it one_desk appended no_last two_desk comes =
    let claim = entry.Claim it.slot v.algorithm v.clone 0 in
    let sound = replay-sound d.job d.slots d.admitted d.journal m desk.valid.numbered q.led in
    let first = entered d one m claim q.led it.appended one_desk in
    let a = claim-effect d.job d.admitted d.journal m first.next it.slot v.algorithm v.clone sound
    (claim-step d.job d.admitted d.journal m first.next it.slot v.algorithm v.clone 0 first.steps) in
    let second = entered one two first.next e first.led appended two_desk in
    let b = comes first.next second.next
    (replay-sound one.job one.slots one.admitted one.journal first.next one_desk.valid.numbered first.led)
    second.steps in
    let keeps = keeps-twice d one two (keeps-entry d one claim it.appended refl)
    (keeps-entry one two e appended no_last) in
    record {
      keeps = keeps;
      desk = two_desk;
      old = m;
      was = q;
      new = second.next;
      now = record {
        led = second.led;
        slots = b.alike.slots ∙ (a.alike.slots ∙ (q.slots ∙ sym keeps.slots));
        quiet = omega (arith, a.claims, b.claims, q.quiet);
      };
      finished = b.alike.finished ∙ a.alike.finished;
      work = omega (arith, a.work, b.work);
    }

pub ran-done : (d one two : DeskState) (v : Work) (m : Machine) → IsDesk d → IsQuiet d m →
    IsClaimed d 0 v one →
    IsDesk one → IsBooked one v two → IsDesk two → RanOn d 1 two
ran-done d one two v m desk q it one_desk booked two_desk =
    ran d one two v (entry.Done v.ticket booked.outcome) 1 m desk q it one_desk booked.appended refl two_desk
    (λ mid last sound steps. done-effect one.job one.admitted mid last sound
    (done-step one.job one.admitted one.journal mid last v.ticket booked.outcome steps))

pub ran-back : (d one two : DeskState) (v : Work) (m : Machine) → IsDesk d → IsQuiet d m →
    IsClaimed d 0 v one →
    IsDesk one → two ≡ with_entry one (entry.Back v.ticket) → IsDesk two → RanOn d 0 two
ran-back d one two v m desk q it one_desk appended two_desk =
    ran d one two v (entry.Back v.ticket) 0 m desk q it one_desk appended refl two_desk
    (λ mid last sound steps. back-effect mid last
    (back-step one.job one.admitted one.journal mid last v.ticket steps))

-- a claim that has just been handed out is outstanding
pub out-of : (d one : DeskState) (worker : ℕ) (v : Work) → IsClaimed d worker v one → InState one (IsOut v)
out-of d one worker v it =
    let t = taken (replay one.job one.slots one.admitted one.journal) (λ m. IsWorkOf m it.slot v) it.out in
    in-state one t.value (IsOut v) t.was (record { slot = it.slot; out = t.holds.out })

-- nothing may be claimed, and nothing may end
pub at-rest : (d : DeskState) (m : Machine) (running : ℕ) → IsDesk d → IsQuiet d m → NoneEnds d →
    InState d (IsIdle d running) → InState d IsAtRest
at-rest d m running desk q stays idle =
    let it = told (replay d.job d.slots d.admitted d.journal) (IsIdle d running) m q.led idle in
    let none = told (replay d.job d.slots d.admitted d.journal)
    (λ n. (slot : ℕ) → MayNotCome d n (entry.Retire slot)) m q.led stays in
    let sound = replay-sound d.job d.slots d.admitted d.journal m desk.valid.numbered q.led in
    let empty : is_empty m ≡ true = all-empty m.slots (λ slot b e.
    none-there d.job d.admitted d.journal m slot b desk.valid sound q.quiet
    (ap (option_and_then (λ (o : Option Busy). o)) e) (λ number clone. it.none slot number clone 0)
    (none slot)) in
    in-state d m IsAtRest q.led (record {
      empty = empty;
      on = false_from_ne_true m.closed (λ closed. it.on (closed, empty));
    })
