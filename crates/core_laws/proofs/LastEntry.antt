-- Last stands in the journal exactly where the state is closed.
use Rattle.std.proofs.Common.{◌≡◌, ℕ, ◌+◌, nat_eq, Bool, true, false, not, ◌||◌, List, [], ◌∷◌, ◌++◌, length, slice_get, ◌-◌, Option, Some, None, IsSome, refl, sym, ap, ◌∙◌, subst, append_assoc}
use Rattle.std.proofs.lemmas.Bool.{and_parts, not-true, or_right}
use Rattle.std.proofs.lemmas.Option.{same_Some, none-some}
use Rattle.std.specs.List.{list_any}
use Rattle.core_laws.proofs.LongerJournals.{one-more-entry}
use Rattle.core_laws.proofs.States.{front-run}
use Rattle.core_laws.proofs.Steps.{after-some, when-some}
use Rattle.core_laws.specs.Closing.{is_last}
use Rattle.hive_model.specs.Algorithm.{Algorithm}
use Rattle.hive_model.specs.EventRecord.{EventRecord}
use Rattle.hive_model.specs.Job.{Job}
use Rattle.hive_model.specs.Machine.{Busy, Machine, opening}
use Rattle.hive_model.specs.Replay.{IsRun, replay, replay_from}
use Rattle.hive_model.specs.Step.{admitting, busy_at, claiming, found, putting_back, step}
use Rattle.hive_model.specs.declared.entry.Entry.{Entry}
use Rattle.hive_model.specs.declared.entry.Entry.TheVariants.{Admit, Claim, Done, Back, Retire, Last}

-- an event is admitted where nothing was closed

record IsOpen (m next : Machine) : Type 0 where
  before : m.closed ≡ false
  after : next.closed ≡ m.closed

admit-open : (job : Job) (m next : Machine) (slot place : ℕ) (at : Option (Option Busy))
    (event : Option EventRecord) → admitting job m slot place at event ≡ Some next → IsOpen m next
admit-open job m next slot place (Some None) (Some event) h =
    let w = when-some _ _ next h in
    record {
      before = not-true m.closed (and_parts (not m.closed) (nat_eq place (m.admitted + 1)) w.holds).0;
      after = ap (λ (it : Machine). it.closed) (sym w.is);
    }
admit-open job m next slot place (Some None) None h = absurd (none-some next h)
admit-open job m next slot place (Some (Some b)) event h = absurd (none-some next h)
admit-open job m next slot place None event h = absurd (none-some next h)

claim-closed : (job : Job) (ticket : ℕ) (m next : Machine) (slot number : ℕ) (clone : Option ℕ)
    (at : Option Busy) (of : Option Algorithm) →
    claiming job ticket m slot number clone at of ≡ Some next → next.closed ≡ m.closed
claim-closed job ticket m next slot number clone (Some b) (Some a) h =
    ap (λ (it : Machine). it.closed) (sym (when-some _ _ next h).is)
claim-closed job ticket m next slot number clone (Some b) None h = absurd (none-some next h)
claim-closed job ticket m next slot number clone None of h = absurd (none-some next h)

step-closed : (job : Job) (records : List EventRecord) (past : List Entry) (m next : Machine)
    (entry : Entry) → step job records past m entry ≡ Some next → next.closed ≡ (is_last entry || m.closed)
unfolding step
step-closed job records past m next (Admit slot place) h =
    (admit-open job m next slot place (slice_get m.slots slot) (slice_get records m.admitted) h).after
step-closed job records past m next (Claim slot number clone worker) h =
    claim-closed job (length past) m next slot number clone (busy_at m slot)
    (slice_get job.algorithms number) h
step-closed job records past m next (Done ticket outcome) h =
    let f = after-some _ (found past m ticket) next h in
    let a = after-some _ (slice_get job.algorithms f.value.number) next f.gives in
    ap (λ (it : Machine). it.closed) (sym (when-some _ _ next a.gives).is)
step-closed job records past m next (Back ticket) h =
    let f = after-some _ (found past m ticket) next h in
    ap (λ (it : Machine). it.closed) (sym (same_Some (putting_back m f.value) next f.gives))
step-closed job records past m next (Retire slot) h =
    let b = after-some _ (busy_at m slot) next h in
    let e = after-some _ (slice_get records (b.value.place - 1)) next b.gives in
    ap (λ (it : Machine). it.closed) (sym (when-some _ _ next e.gives).is)
step-closed job records past m next Last h =
    ap (λ (it : Machine). it.closed) (sym (when-some _ _ next h).is)

moved : (first rest before : Bool) → (rest || (first || before)) ≡ ((first || rest) || before)
moved true rest before = or_right rest true refl
moved false rest before = refl

closed-from : (job : Job) (records : List EventRecord) (past : List Entry) (m last : Machine)
    (journal : List Entry) → replay_from job records past m journal ≡ Some last →
    last.closed ≡ (list_any is_last journal || m.closed)
unfolding replay_from
closed-from job records past m last [] h = ap (λ (it : Machine). it.closed) (sym (same_Some m last h))
closed-from job records past m last (entry ∷ journal) h =
    let next = after-some _ (step job records past m entry) last h in
    closed-from job records (past ++ entry ∷ []) next.value last journal next.gives
    ∙ (ap (λ (it : Bool). list_any is_last journal || it)
    (step-closed job records past m next.value entry next.was)
    ∙ moved (is_last entry) (list_any is_last journal) m.closed)

or-false : (b : Bool) → (b || false) ≡ b
or-false true = refl
or-false false = refl

pub last-closes : (job : Job) (slots : ℕ) (records : List EventRecord) (journal : List Entry) (m : Machine) →
    replay job slots records journal ≡ Some m → m.closed ≡ list_any is_last journal
unfolding replay
last-closes job slots records journal m h =
    closed-from job records [] (opening slots) m journal h ∙ or-false (list_any is_last journal)

-- an entry inside a run

pub record IsStep (job : Job) (slots : ℕ) (records : List EventRecord) (front : List Entry) (entry : Entry) :
    Type 0 where
  pub before : Machine
  pub after : Machine
  pub led : replay job slots records front ≡ Some before
  pub steps : step job records front before entry ≡ Some after

pub inside : (job : Job) (slots : ℕ) (records : List EventRecord) (front back : List Entry) (entry : Entry) →
    IsRun job slots records (front ++ entry ∷ back) → IsStep job slots records front entry
inside job slots records front back entry run =
    by (replay job slots records (front ++ entry ∷ [])) refl
    (front-run job slots records (front ++ entry ∷ []) back
    (subst (IsRun job slots records) (sym (append_assoc front (entry ∷ []) back)) run))
  where
    by : (o : Option Machine) → replay job slots records (front ++ entry ∷ []) ≡ o → IsSome o →
        IsStep job slots records front entry
    by None e some = absurd (cc)
    by (Some next) e some =
        let it = after-some (λ (m : Machine). step job records front m entry)
        (replay job slots records front) next
        (sym (one-more-entry job slots records front entry) ∙ e) in
        record { before = it.value; after = next; led = it.was; steps = it.gives }

pub none-admitted : (job : Job) (slots : ℕ) (records : List EventRecord) (front back : List Entry)
    (slot place : ℕ) → IsRun job slots records (front ++ Admit slot place ∷ back) →
    list_any is_last front ≡ false
unfolding step
none-admitted job slots records front back slot place run =
    let it = inside job slots records front back (Admit slot place) run in
    sym (last-closes job slots records front it.before it.led)
    ∙ (admit-open job it.before it.after slot place (slice_get it.before.slots slot)
    (slice_get records it.before.admitted) it.steps).before

pub said-once : (job : Job) (slots : ℕ) (records : List EventRecord) (front back : List Entry) →
    IsRun job slots records (front ++ Last ∷ back) → list_any is_last front ≡ false
unfolding step
said-once job slots records front back run =
    let it = inside job slots records front back Last run in
    sym (last-closes job slots records front it.before it.led)
    ∙ not-true it.before.closed (when-some _ _ it.after it.steps).holds
