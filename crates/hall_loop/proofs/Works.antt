-- Work leaves what has ended, whether the end was said, how many records were admitted, and how many slots there are.
use Rattle.std.proofs.Common.{◌≡◌, ℕ, true, false, IsSome, List, [], ◌∷◌, ◌++◌, length, Option, Some, None, refl, sym, ap, ◌∙◌, subst, append-nil, append_assoc, length-set}
use Rattle.std.proofs.lemmas.Bool.{true≢false}
use Rattle.std.proofs.lemmas.List.Elements.{All-cons, All-head, All-nil, All-tail}
use Rattle.std.proofs.lemmas.Option.{same_Some}
use Rattle.std.specs.List.{All}
use Rattle.std.specs.Option.{IsSomeAnd}
use Rattle.core_laws.proofs.States.{front-run}
use Rattle.hive_hall.specs.Legal.{IsHistoryOf}
use Rattle.hive_model.specs.EventRecord.{EventRecord}
use Rattle.hive_model.specs.History.{DeskState, journal_of, records_of}
use Rattle.hive_model.specs.Job.{Job}
use Rattle.hive_model.specs.Machine.{Busy, Machine}
use Rattle.hive_model.specs.Replay.{replay}
use Rattle.hive_model.specs.Step.{step, with_slot}
use Rattle.hive_model.specs.declared.entry.Entry.{Entry}
use Rattle.hive_model.specs.declared.entry.Entry.TheVariants.{Admit, Claim, Done, Back, Retire, Last}
use Rattle.hive_model.specs.declared.item.Item.{Item}
use Rattle.hive_model.specs.declared.item.Item.TheVariants.{Opening, Admitted, Entered, Stop}
use Rattle.event_loop.proofs.Entries.{back-step, claim-step, done-step, stepped}
use Rattle.hive_hall.proofs.Items.{journal-parts, records-parts}
use Rattle.hive_workers.specs.Items.{enters, is_work}
use Rattle.scheduler_core.specs.State.{IsDesk}
use Rattle.hall_loop.specs.Others.{AreWork}

-- items

abbrev IsWork : Item → Type 0
IsWork item = enters is_work item ≡ true

refused : (item : Item) (items : List Item) → enters is_work item ≡ false → AreWork (item ∷ items) → ⊥
refused item items other work = true≢false (sym (All-head IsWork item items work) ∙ other)

work-journal : (items : List Item) → AreWork items → All (λ (e : Entry). is_work e ≡ true) (journal_of items)
work-journal [] work = All-nil (λ (e : Entry). is_work e ≡ true)
work-journal (Opening job slots ∷ items) work = absurd (refused (Opening job slots) items refl work)
work-journal (Admitted slot place event ∷ items) work = absurd (refused (Admitted slot place event) items refl work)
work-journal (Entered e ∷ items) work =
    All-cons (λ (x : Entry). is_work x ≡ true) e (journal_of items) (All-head IsWork (Entered e) items work)
    (work-journal items (All-tail IsWork (Entered e) items work))
work-journal (Stop ∷ items) work = absurd (refused Stop items refl work)

work-records : (items : List Item) → AreWork items → records_of items ≡ []
work-records [] work = refl
work-records (Opening job slots ∷ items) work = absurd (refused (Opening job slots) items refl work)
work-records (Admitted slot place event ∷ items) work = absurd (refused (Admitted slot place event) items refl work)
work-records (Entered e ∷ items) work = work-records items (All-tail IsWork (Entered e) items work)
work-records (Stop ∷ items) work = absurd (refused Stop items refl work)

pub one-work : (e : Entry) → is_work e ≡ true → AreWork (Entered e ∷ [])
one-work e work = All-cons IsWork (Entered e) [] work (All-nil IsWork)

-- the journal has entries of work more, and no record was admitted
pub record AddsWork (front rest : List Item) : Type 0 where
  pub entries : List Entry
  pub work : All (λ (e : Entry). is_work e ≡ true) entries
  pub journal_more : journal_of (front ++ rest) ≡ journal_of front ++ entries
  pub records_same : records_of (front ++ rest) ≡ records_of front

pub work-parts : (front rest : List Item) → AreWork rest → AddsWork front rest
work-parts front rest work = record {
  entries = journal_of rest;
  work = work-journal rest work;
  journal_more = journal-parts front rest;
  records_same =
      records-parts front rest
      ∙ (ap (λ (l : List EventRecord). records_of front ++ l) (work-records rest work) ∙ append-nil (records_of front));
}

-- states

pub record WorkKeeps (m next : Machine) : Type 0 where
  pub finished : next.finished ≡ m.finished
  pub closed : next.closed ≡ m.closed
  pub admitted : next.admitted ≡ m.admitted
  pub slots : length next.slots ≡ length m.slots

keeps-all : (m next : Machine) → m ≡ next → WorkKeeps m next
keeps-all m next same = record {
  finished = ap (λ (it : Machine). it.finished) (sym same);
  closed = ap (λ (it : Machine). it.closed) (sym same);
  admitted = ap (λ (it : Machine). it.admitted) (sym same);
  slots = ap (λ (it : Machine). length it.slots) (sym same);
}

keeps-then : (m mid next : Machine) → WorkKeeps m mid → WorkKeeps mid next → WorkKeeps m next
keeps-then m mid next first then_on = record {
  finished = then_on.finished ∙ first.finished;
  closed = then_on.closed ∙ first.closed;
  admitted = then_on.admitted ∙ first.admitted;
  slots = then_on.slots ∙ first.slots;
}

keeps-slot : (m next : Machine) (slot : ℕ) (it : Option Busy) → with_slot m slot it ≡ next → WorkKeeps m next
keeps-slot m next slot it is = record {
  finished = ap (λ (x : Machine). x.finished) (sym is);
  closed = ap (λ (x : Machine). x.closed) (sym is);
  admitted = ap (λ (x : Machine). x.admitted) (sym is);
  slots = ap (λ (x : Machine). length x.slots) (sym is) ∙ length-set m.slots slot it;
}

work-step : (job : Job) (records : List EventRecord) (past : List Entry) (m next : Machine) (e : Entry) →
    is_work e ≡ true → step job records past m e ≡ Some next → WorkKeeps m next
work-step job records past m next (Admit slot place) work h = absurd (true≢false (sym work))
work-step job records past m next (Claim slot number clone worker) work h =
    keeps-slot m next slot _ (claim-step job records past m next slot number clone worker h).is
work-step job records past m next (Done ticket outcome) work h =
    let it = done-step job records past m next ticket outcome h in
    keeps-slot m next it.out.slot _ it.is
work-step job records past m next (Back ticket) work h =
    let it = back-step job records past m next ticket h in
    keeps-slot m next it.out.slot _ it.is
work-step job records past m next (Retire slot) work h = absurd (true≢false (sym work))
work-step job records past m next Last work h = absurd (true≢false (sym work))

-- a run leads to a state
record Leads (o : Option Machine) : Type 0 where
  state : Machine
  led : o ≡ Some state

run-leads : (o : Option Machine) → IsSome o → Leads o
run-leads (Some m) h = record { state = m; led = refl }
run-leads None h = absurd (cc)

leads-run : (o : Option Machine) (m : Machine) → o ≡ Some m → IsSome o
leads-run o m led = subst IsSome (sym led) refl

pub works-keep : (job : Job) (slots : ℕ) (records : List EventRecord) (journal entries : List Entry) (m next : Machine) →
    All (λ (e : Entry). is_work e ≡ true) entries → replay job slots records journal ≡ Some m →
    replay job slots records (journal ++ entries) ≡ Some next → WorkKeeps m next
works-keep job slots records journal [] m next work led now =
    keeps-all m next (same_Some m next
    (sym led ∙ (ap (replay job slots records) (sym (append-nil journal)) ∙ now)))
works-keep job slots records journal (e ∷ entries) m next work led now =
    let P : Entry → Type 0 = λ x. is_work x ≡ true in
    let later : replay job slots records ((journal ++ e ∷ []) ++ entries) ≡ Some next =
    ap (replay job slots records) (append_assoc journal (e ∷ []) entries) ∙ now in
    let it = run-leads (replay job slots records (journal ++ e ∷ []))
    (front-run job slots records (journal ++ e ∷ []) entries
    (leads-run (replay job slots records ((journal ++ e ∷ []) ++ entries)) next later)) in
    keeps-then m it.state next
    (work-step job records journal m it.state e (All-head P e entries work)
    (stepped job slots records journal e m it.state led it.led))
    (works-keep job slots records (journal ++ e ∷ []) entries it.state next (All-tail P e entries work) it.led later)

-- histories

-- one scheduler core tells a history
pub history-one : (job : Job) (slots : ℕ) (items : List Item) (d e : DeskState) → IsHistoryOf job slots items d →
    IsHistoryOf job slots items e → d ≡ e
history-one job slots items d e a b =
    let jobs : d.job ≡ e.job = a.job ∙ sym b.job in
    let counts : d.slots ≡ e.slots = a.slots ∙ sym b.slots in
    let journals : d.journal ≡ e.journal = a.journal ∙ sym b.journal in
    let records : d.admitted ≡ e.admitted = a.records ∙ sym b.records in
    λ i. record { job = jobs i; slots = counts i; journal = journals i; admitted = records i }

-- nothing was admitted and nothing ended
pub record EndsNothing (d : DeskState) (m : Machine) (after : DeskState) : Type 0 where
  pub job_same : after.job ≡ d.job
  pub slots_same : after.slots ≡ d.slots
  pub records_same : after.admitted ≡ d.admitted
  pub next : Machine
  pub led : replay after.job after.slots after.admitted after.journal ≡ Some next
  pub finished : next.finished ≡ m.finished
  pub closed : next.closed ≡ m.closed
  pub admitted : next.admitted ≡ m.admitted
  pub as_many : length next.slots ≡ length m.slots

legal-leads : (P : Machine → Type 0) (o : Option Machine) → IsSomeAnd o P → Leads o
legal-leads P (Some m) h = record { state = m; led = refl }
legal-leads P None h = absurd h

pub works-enter : (d after : DeskState) (entries : List Entry) (m : Machine) →
    after ≡ record d { journal = d.journal ++ entries } → All (λ (e : Entry). is_work e ≡ true) entries →
    IsDesk after → replay d.job d.slots d.admitted d.journal ≡ Some m → EndsNothing d m after
works-enter d after entries m appended work desk led =
    let it = legal-leads (λ (x : Machine). x.admitted ≡ length after.admitted)
    (replay after.job after.slots after.admitted after.journal) desk.legal in
    let now : replay d.job d.slots d.admitted (d.journal ++ entries) ≡ Some it.state =
    ap (λ (x : DeskState). replay x.job x.slots x.admitted x.journal) (sym appended) ∙ it.led in
    let keeps = works-keep d.job d.slots d.admitted d.journal entries m it.state work led now in
    record {
      job_same = ap (λ (x : DeskState). x.job) appended;
      slots_same = ap (λ (x : DeskState). x.slots) appended;
      records_same = ap (λ (x : DeskState). x.admitted) appended;
      next = it.state;
      led = it.led;
      finished = keeps.finished;
      closed = keeps.closed;
      admitted = keeps.admitted;
      as_many = keeps.slots;
    }

-- the history has more work
pub works-tell : (job : Job) (slots : ℕ) (front rest : List Item) (d after : DeskState) (m : Machine) →
    IsHistoryOf job slots front d → IsHistoryOf job slots (front ++ rest) after → AreWork rest →
    replay d.job d.slots d.admitted d.journal ≡ Some m → EndsNothing d m after
works-tell job slots front rest d after m legal later work led =
    let it = work-parts front rest work in
    let jobs : after.job ≡ d.job = later.job ∙ sym legal.job in
    let counts : after.slots ≡ d.slots = later.slots ∙ sym legal.slots in
    let journals : after.journal ≡ d.journal ++ it.entries =
    later.journal ∙ (it.journal_more ∙ ap (λ (l : List Entry). l ++ it.entries) (sym legal.journal)) in
    let records : after.admitted ≡ d.admitted = later.records ∙ (it.records_same ∙ sym legal.records) in
    let appended : after ≡ record d { journal = d.journal ++ it.entries } =
    λ i. record { job = jobs i; slots = counts i; journal = journals i; admitted = records i } in
    works-enter d after it.entries m appended it.work later.desk led
