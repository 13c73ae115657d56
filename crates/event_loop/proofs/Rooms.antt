-- An event is admitted, or none is any more.
use Rattle.std.proofs.Common.{◌≡◌, ℕ, ◌+◌, ◌-◌, ◌*◌, ◌<◌, ◌≤◌, ◌^◌, ◌↔◌, IsTrue, nat_lt, not, Bool, true, false, ◌&&◌, is_some, List, [], ◌∷◌, length, count_by, Option, OnErr, OnOk, Result, Ok, Err, refl, ap, sym, ◌∙◌, subst, arith}
use Rattle.std.proofs.lemmas.Bool.{and_from, and_parts, lt-ltb, ltb-true, not-true}
use Rattle.std.specs.List.{list_all}
use Rattle.std.specs.declared.alloc.AllocError.{AllocError}
use Rattle.core_laws.proofs.Counting.{count-cons, one_if}
use Rattle.core_laws.proofs.OncePlaces.{run-once}
use Rattle.hive_model.specs.EventRecord.{EventRecord}
use Rattle.hive_model.specs.History.{DeskState}
use Rattle.hive_model.specs.Machine.{Busy}
use Rattle.hive_model.specs.Replay.{replay}
use Rattle.hive_model.specs.declared.entry.Entry.TheVariants as entry
use Rattle.report_text.specs.declared.counts.Counts.{Counts}
use Rattle.scheduler_core.proofs.Claims.{told}
use Rattle.scheduler_core.proofs.Keeping.{in-state}
use Rattle.scheduler_core.specs.Says.{LastSays, admitted_to, is_closed, is_full}
use Rattle.scheduler_core.specs.State.{IsDesk}
use Rattle.scheduler_core.specs.declared.answers.Said.{Said}
use Rattle.scheduler_core.specs.declared.answers.Said.TheVariants as said
use Rattle.event_loop.proofs.Loops.{seen}
use Rattle.event_loop.proofs.Moves.{all-admitted, has-begun, has-closed}
use Rattle.event_loop.proofs.Ran.{closed-before, work-is}
use Rattle.event_loop.proofs.Tallies.{few-counted}
use Rattle.event_loop.proofs.Tallying.{led-of, running-of, tallied-admits, tallied-last}
use Rattle.event_loop.specs.Loop.{Admits, Closes, HasRoom, work_at}
use Rattle.event_loop.specs.Running.{IsBrought, IsGoing, IsRunning}
use Rattle.event_loop.specs.Waiting.{Waits}

-- an event takes a slot

admits-running : (d after : DeskState) (waiting : Waits) (handed slot : ℕ) (counts : Counts)
    (event : EventRecord) →
    IsRunning d waiting handed counts → HasRoom (seen d handed counts) → length d.admitted + 1 < 2 ^ 32 →
    after ≡ admitted_to d slot event → IsDesk after → IsRunning after waiting handed counts
admits-running d after waiting handed slot counts event k room few appended desk =
    let t = k.tally in
    let it = has-begun d after t.machine slot event (led-of d waiting handed counts t) appended desk in
    running-of after waiting handed counts it.next
    (tallied-admits d after waiting handed slot counts event t appended desk (omega (arith, few)) room.few)
    (record { led = it.now.led; slots = it.now.slots; quiet = it.claims ∙ k.quiet })

admits : (d after : DeskState) (waiting : Waits) (handed slot : ℕ) (counts : Counts) (event : EventRecord) →
    IsRunning d waiting handed counts → HasRoom (seen d handed counts) → after ≡ admitted_to d slot event →
    IsDesk after → Admits (seen d handed counts) event (seen after handed counts)
admits d after waiting handed slot counts event k room appended desk =
    let t = k.tally in
    let it = has-begun d after t.machine slot event (led-of d waiting handed counts t) appended desk in
    record {
      job = ap (λ (x : DeskState). x.job) appended;
      slots = ap (λ (x : DeskState). x.slots) appended;
      records = ap (λ (x : DeskState). x.admitted) appended;
      handed = refl;
      counts = refl;
      on = ap is_closed appended
          ∙ (closed-before d.journal (entry.Admit slot (length d.admitted + 1)) refl ∙ room.on);
      work = work-is after it.next it.now.led
          ∙ (it.work ∙ ap (λ n. n + 1 + length d.job.algorithms) (sym (work-is d t.machine t.led)));
    }

-- what the call leaves, whether it had the memory or not

pub brought-running : (d after : DeskState) (waiting : Waits) (handed : ℕ) (counts : Counts)
    (event : EventRecord)
    (answer : Result (Unit {0}) AllocError) → IsRunning d waiting handed counts →
    HasRoom (seen d handed counts) →
    length d.admitted + 1 < 2 ^ 32 → OnOk answer (IsBrought d event after) → OnErr answer (after ≡ d) →
    IsDesk after →
    IsRunning after waiting handed counts
brought-running d after waiting handed counts event (Ok it) k room few brought same desk =
    admits-running d after waiting handed brought.slot counts event k room few brought.appended desk
brought-running d after waiting handed counts event (Err e) k room few brought same desk =
    subst (λ (x : DeskState). IsRunning x waiting handed counts) (sym same) k

pub brought-closed : (d after : DeskState) (event : EventRecord) (answer : Result (Unit {0}) AllocError) →
    OnOk answer (IsBrought d event after) → OnErr answer (after ≡ d) → is_closed after ≡ is_closed d
brought-closed d after event (Ok it) brought same =
    ap is_closed brought.appended ∙ closed-before d.journal (entry.Admit brought.slot (length d.admitted + 1))
    refl
brought-closed d after event (Err e) brought same = ap is_closed same

pub brought-admits : (d after : DeskState) (waiting : Waits) (handed : ℕ) (counts : Counts)
    (event : EventRecord)
    (answer : Result (Unit {0}) AllocError) → IsRunning d waiting handed counts →
    HasRoom (seen d handed counts) →
    OnOk answer (IsBrought d event after) → IsDesk after →
    OnOk answer (Admits (seen d handed counts) event (seen after handed counts))
brought-admits d after waiting handed counts event (Ok it) k room brought desk =
    admits d after waiting handed brought.slot counts event k room brought.appended desk
brought-admits d after waiting handed counts event (Err e) k room brought desk = tt

-- no further event comes

pub closes-running : (d after : DeskState) (waiting : Waits) (handed : ℕ) (counts : Counts) (answer : Said) →
    IsRunning d waiting handed counts → LastSays d answer after → IsDesk after →
    IsRunning after waiting handed counts
closes-running d after waiting handed counts said.Now k says desk =
    let t = k.tally in
    let it = has-closed d after t.machine (led-of d waiting handed counts t) says.0 desk in
    running-of after waiting handed counts it.next
    (tallied-last d after waiting handed counts t says.0 desk)
    (record { led = it.now.led; slots = it.now.slots; quiet = it.claims ∙ k.quiet })
closes-running d after waiting handed counts said.Before k says desk =
    subst (λ (x : DeskState). IsRunning x waiting handed counts) (sym says.0) k

pub closes : (d after : DeskState) (waiting : Waits) (handed : ℕ) (counts : Counts) (answer : Said) →
    IsRunning d waiting handed counts → LastSays d answer after → IsDesk after →
    Closes (seen d handed counts) (seen after handed counts)
closes d after waiting handed counts said.Now k says desk =
    let t = k.tally in
    let appended = says.0 in
    let it = has-closed d after t.machine (led-of d waiting handed counts t) appended desk in
    record {
      job = ap (λ (x : DeskState). x.job) appended;
      slots = ap (λ (x : DeskState). x.slots) appended;
      records = ap (λ (x : DeskState). x.admitted) appended;
      handed = refl;
      counts = refl;
      closed = it.closed;
      work = work-is after it.next it.now.led ∙ (it.work ∙ sym (work-is d t.machine t.led));
    }
closes d after waiting handed counts said.Before k says desk =
    let same = says.0 in
    record {
      job = ap (λ (x : DeskState). x.job) same;
      slots = ap (λ (x : DeskState). x.slots) same;
      records = ap (λ (x : DeskState). x.admitted) same;
      handed = refl;
      counts = refl;
      closed = ap is_closed same ∙ says.1;
      work = ap work_at same;
    }

pub last-closed : (d after : DeskState) (waiting : Waits) (handed : ℕ) (counts : Counts) (answer : Said) →
    IsRunning d waiting handed counts → LastSays d answer after → IsDesk after → is_closed after ≡ true
last-closed d after waiting handed counts answer k says desk =
    (closes d after waiting handed counts answer k says desk).closed

-- whether there is room

count-most : {X : Type 0} (p : X → Bool) (xs : List X) → count_by p xs ≤ length xs
count-most p [] = omega arith
count-most p (x ∷ xs) = by (p x) refl (count-most p xs)
  where
    by : (t : Bool) → p x ≡ t → count_by p xs ≤ length xs → count_by p (x ∷ xs) ≤ length (x ∷ xs)
    by true e rest = omega (arith, count-cons p x xs, ap one_if e, rest)
    by false e rest = omega (arith, count-cons p x xs, ap one_if e, rest)

-- fewer pass than there are exactly where not all do
all-by-count : {X : Type 0} (p : X → Bool) (xs : List X) →
    (list_all p xs ≡ false → count_by p xs < length xs) × (count_by p xs < length xs → list_all p xs ≡ false)
all-by-count p [] = (λ h. absurd (cc), λ h. absurd (omega (arith, h)))
all-by-count p (x ∷ xs) = by (p x) refl (all-by-count p xs)
  where
    by : (t : Bool) → p x ≡ t →
        (list_all p xs ≡ false → count_by p xs < length xs) ×
        (count_by p xs < length xs → list_all p xs ≡ false) →
        (list_all p (x ∷ xs) ≡ false → count_by p (x ∷ xs) < length (x ∷ xs))
        × (count_by p (x ∷ xs) < length (x ∷ xs) → list_all p (x ∷ xs) ≡ false)
    by true e rest = (
      λ h. (let low = rest.0 (sym (ap (λ t. t && list_all p xs) e) ∙ h) in
          omega (arith, count-cons p x xs, ap one_if e, low)),
      λ h. ap (λ t. t && list_all p xs) e
          ∙ rest.1 (omega (arith, count-cons p x xs, ap one_if e, h)),
    )
    by false e rest = (
      λ h. omega (arith, count-cons p x xs, ap one_if e, count-most p xs),
      λ h. ap (λ t. t && list_all p xs) e,
    )

-- how many slots are busy, as the counts tell it
pub busy-count : (d : DeskState) (waiting : Waits) (handed : ℕ) (counts : Counts) →
    (k : IsRunning d waiting handed counts) →
    count_by is_some k.tally.machine.slots + counts.events ≡ length d.admitted
busy-count d waiting handed counts k =
    let m = k.tally.machine in
    let once = run-once d.job d.slots d.admitted d.journal m k.tally.led in
    let many = once.many in
    let all = all-admitted d m k.tally.desk k.tally.led in
    let few = few-counted m.finished counts k.tally.counted in
    omega (arith, many, all, few.events)

pub room-there : (d : DeskState) (waiting : Waits) (handed : ℕ) (counts : Counts) (closed : Bool) →
    IsRunning d waiting handed counts → is_closed d ≡ closed → closed ≡ false →
    length d.admitted - counts.events < d.slots → length d.admitted < handed + 2 * d.slots →
    HasRoom (seen d handed counts)
room-there d waiting handed counts closed k last on free few =
    let m = k.tally.machine in
    let busy = busy-count d waiting handed counts k in
    let low : count_by is_some m.slots < length m.slots = omega (arith, busy, free, k.tally.slots) in
    record {
      on = last ∙ on;
      free = in-state d m (λ n. is_full n ≡ false) k.tally.led
          ((all-by-count (λ (s : Option Busy). is_some s) m.slots).1 low);
      few = few;
    }

pub room-means : (d : DeskState) (waiting : Waits) (handed : ℕ) (counts : Counts) →
    IsRunning d waiting handed counts →
    HasRoom (seen d handed counts) → length d.admitted - counts.events < d.slots
room-means d waiting handed counts k room =
    let m = k.tally.machine in
    let busy = busy-count d waiting handed counts k in
    let free = told (replay d.job d.slots d.admitted d.journal) (λ n. is_full n ≡ false) m k.tally.led
    room.free in
    let low : count_by is_some m.slots < length m.slots =
    (all-by-count (λ (s : Option Busy). is_some s) m.slots).0 free in
    omega (arith, busy, low, k.tally.slots)

-- what the code asks of its numbers
abbrev pub asks : Bool → ℕ → ℕ → ℕ → ℕ → Bool
asks closed admitted events handed slots =
    not closed && nat_lt (admitted - events) slots && nat_lt admitted (handed + 2 * slots)

pub room-asked : (d : DeskState) (waiting : Waits) (handed : ℕ) (counts : Counts) (closed : Bool)
    (admitted events slots : ℕ) → IsGoing d waiting handed counts closed → admitted ≡ length d.admitted →
    events ≡ counts.events → slots ≡ d.slots →
    IsTrue (asks closed admitted events handed slots) ↔ HasRoom (seen d handed counts)
room-asked d waiting handed counts closed admitted events slots k n e s = (
  λ h. (
      let parts = and_parts (not closed && nat_lt (admitted - events) slots)
      (nat_lt admitted (handed + 2 * slots)) h in
      let first = and_parts (not closed) (nat_lt (admitted - events) slots) parts.0 in
      let free : admitted - events < slots = ltb-true (admitted - events) slots first.1 in
      let few : admitted < handed + 2 * slots = ltb-true admitted (handed + 2 * slots) parts.1 in
      room-there d waiting handed counts closed k.running k.last (not-true closed first.0)
      (omega (arith, n, e, s, free)) (omega (arith, n, s, few))
      ),
  λ room. (
      let free : length d.admitted - counts.events < d.slots = room-means d waiting handed counts k.running
      room in
      let low : admitted - events < slots = omega (arith, n, e, s, free) in
      let few : admitted < handed + 2 * slots = omega (arith, n, s, room.few) in
      and_from _ _ (and_from _ _ (ap not (sym k.last ∙ room.on)) (lt-ltb (admitted - events) slots low))
      (lt-ltb admitted (handed + 2 * slots) few)
      ),
)
