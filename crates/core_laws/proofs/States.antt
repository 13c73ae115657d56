-- Every step leaves each event in a slot sound, so every run does.
use Rattle.std.proofs.Common.{◌≡◌, ℕ, zero, suc, ◌+◌, ◌-◌, ◌<◌, ◌≤◌, nat_eq, true, false, not, ◌&&◌, is_some, List, [], ◌∷◌, ◌++◌, length, count_by, replicate, slice_get, slice_set, Option, Some, None, IsSome, inl, inr, refl, sym, ap, ◌∙◌, subst, arith}
use Rattle.std.proofs.lemmas.Bool.{and_parts, cases_eq, eqb-true, not-true}
use Rattle.std.proofs.lemmas.Option.{same_Some, none-some, slice_get_within}
use Rattle.std.specs.List.{AllByRecursion, list_any, range_with_len}
use Rattle.std.specs.Option.{option_and_then}
use Rattle.event_laws.proofs.Rounds.{none-enabled}
use Rattle.core_laws.proofs.Lending.{begun-exclusive, claimed-exclusive, emptied-keeps, fewer-exclusive, kept-fewer, none-fewer, opening-exclusive}
use Rattle.core_laws.proofs.OneEvent.{back-sound, begun-sound, claimed-sound, completed-sound, sound-within}
use Rattle.core_laws.proofs.Steps.{after-some, busy-other, busy-same, busy-within, found-is, when-some}
use Rattle.core_laws.specs.Sound.{AreSound, IsSound, IsSoundBusy, IsSoundEnd, IsSoundFor}
use Rattle.hive_model.specs.Algorithm.{Algorithm}
use Rattle.hive_model.specs.DataFlow.{AreNumberedFrom}
use Rattle.hive_model.specs.Enabled.{is_enabled}
use Rattle.hive_model.specs.Event.{result_of}
use Rattle.hive_model.specs.EventRecord.{EventRecord}
use Rattle.hive_model.specs.Execution.{execution}
use Rattle.hive_model.specs.Job.{Job}
use Rattle.hive_model.specs.Lending.{IsExclusive, has_clone, has_units, is_free, units_of, units_out}
use Rattle.hive_model.specs.Machine.{Busy, Finished, Machine, begun, opening}
use Rattle.hive_model.specs.Replay.{IsRun, replay, replay_from}
use Rattle.hive_model.specs.Results.{outcomes, store}
use Rattle.hive_model.specs.Step.{admitting, busy_at, can_claim, claimed, claiming, completed, completing, found, is_settled, putting_back, retiring, step, when, with_slot}
use Rattle.hive_model.specs.declared.entry.Entry.{Entry}
use Rattle.hive_model.specs.declared.entry.Entry.TheVariants.{Admit, Claim, Done, Back, Retire, Last}
use Rattle.hive_model.specs.declared.outcome.Outcome.{Outcome}
use Rattle.hive_model.specs.declared.product.Product.{Product}

-- the opening state has no event

pub nothing-there : (n slot : ℕ) → option_and_then (λ (o : Option Busy). o)
    (slice_get (replicate n None) slot)
    ≡ None
nothing-there zero slot = refl
nothing-there (suc n) zero = refl
nothing-there (suc n) (suc slot) = nothing-there n slot

opening-sound : (job : Job) (records : List EventRecord) (slots : ℕ) → AreSound job records (opening slots)
opening-sound job records slots slot b e = absurd (none-some b (sym (nothing-there slots slot) ∙ e))

-- what a slot gets is all that changes

slot-sound : (job : Job) (records : List EventRecord) (m : Machine) (slot : ℕ) (it : Option Busy) →
    AreSound job records m →
    slot < length m.slots → ((b : Busy) → it ≡ Some b → IsSoundBusy job records m.admitted b) →
    AreSound job records (with_slot m slot it)
slot-sound job records m slot it sound within own other b e =
    elim (cases_eq other slot) [
      | inl same ↦
          own b (sym (busy-same m slot it within) ∙ (ap (busy_at (with_slot m slot it)) (sym same) ∙ e))
      | inr differs ↦ sound other b (sym (busy-other m slot other it differs) ∙ e)
    ]

-- an event in its place, with other results or claims
same-place : (job : Job) (records : List EventRecord) (admitted : ℕ) (old new : Busy) →
    IsSoundBusy job records admitted old →
    new.place ≡ old.place → ((event : EventRecord) → IsSoundFor job event old → IsSoundFor job event new) →
    IsSoundBusy job records admitted new
same-place job records admitted old new it place sound = record {
  event = it.event;
  some = omega (arith, it.some, place);
  known = omega (arith, it.known, place);
  there = ap (λ (n : ℕ). slice_get records (n - 1)) place ∙ it.there;
  sound = sound it.event it.sound;
}

one-slot : (job : Job) (records : List EventRecord) (m : Machine) (slot : ℕ) (old new : Busy) →
    AreSound job records m →
    busy_at m slot ≡ Some old → new.place ≡ old.place →
    ((event : EventRecord) → IsSoundFor job event old → IsSoundFor job event new) →
    AreSound job records (with_slot m slot (Some new))
one-slot job records m slot old new sound there place stays =
    slot-sound job records m slot (Some new) sound (busy-within m slot old there)
    (λ b e. subst (IsSoundBusy job records m.admitted) (same_Some new b e)
    (same-place job records m.admitted old new (sound slot old there) place stays))

-- a record more was admitted

grown-busy : (job : Job) (records : List EventRecord) (m : Machine) → AreSound job records m →
    AreSound job records (record m { admitted = m.admitted + 1 })
grown-busy job records m sound slot b e =
    let it = sound slot b e in
    record {
      event = it.event;
      some = it.some;
      known = omega (arith, it.known);
      there = it.there;
      sound =
          it.sound;
    }

grown-ended : (job : Job) (records : List EventRecord) (admitted : ℕ) (all : List Finished) →
    AllByRecursion (IsSoundEnd job records admitted) all →
    AllByRecursion (IsSoundEnd job records (admitted + 1)) all
grown-ended job records admitted [] sound = tt
grown-ended job records admitted (f ∷ all) sound =
    let it = sound.0 in (
      record {
        event = it.event;
        some = it.some;
        known = omega (arith, it.known);
        there = it.there;
        ran = it.ran;
        within = it.within;
        rests = it.rests;
        told = it.told;
      },
      grown-ended job records admitted all sound.1,
    )

all-append : {X : Type 0} (P : X → Type 0) (xs : List X) (x : X) → AllByRecursion P xs → P x →
    AllByRecursion P (xs ++ x ∷ [])
all-append P [] x all h = (h, tt)
all-append P (y ∷ ys) x all h = (all.0, all-append P ys x all.1 h)

-- lending is a matter of the slots
again : (job : Job) (m other : Machine) → m.slots ≡ other.slots → IsExclusive job m → IsExclusive job other
again job m other same ex = record {
  clones = λ number k. subst (λ (slots : List (Option Busy)). count_by (has_clone number k) slots ≤ 1) same
      (ex.clones number k);
  units = λ r. subst (λ (slots : List (Option Busy)). units_out r job slots ≤ units_of r job) same
      (ex.units r);
}

-- the entries

first-place : (job : Job) (records : List EventRecord) (admitted place : ℕ) (event : EventRecord) →
    place ≡ admitted + 1 →
    slice_get records admitted ≡ Some event → IsSoundBusy job records (admitted + 1) (begun job place event)
unfolding begun
first-place job records admitted place event is there = record {
  event = event;
  some = omega arith;
  known = omega arith;
  there = (let before : place - 1 ≡ admitted = omega arith in ap (slice_get records) before ∙ there);
  sound = begun-sound job event place;
}

admit-sound : (job : Job) (records : List EventRecord) (m next : Machine) (slot place : ℕ)
    (at : Option (Option Busy))
    (found : Option EventRecord) → IsSound job records m → slice_get m.slots slot ≡ at →
    slice_get records m.admitted ≡ found →
    admitting job m slot place at found ≡ Some next → IsSound job records next
admit-sound job records m next slot place (Some None) (Some event) sound empty there h =
    let w = when-some _ _ next h in
    let tests = and_parts (not m.closed) (nat_eq place (m.admitted + 1)) w.holds in
    let is : place ≡ m.admitted + 1 = eqb-true place (m.admitted + 1) tests.1 in
    let later : Machine = record m { admitted = m.admitted + 1 } in
    subst (IsSound job records) w.is (record {
      busy = slot-sound job records later slot (Some (begun job place event))
          (grown-busy job records m sound.busy)
          (slice_get_within m.slots slot None empty)
          (λ b e. subst (IsSoundBusy job records (m.admitted + 1)) (same_Some (begun job place event) b e)
          (first-place job records m.admitted place event is there));
      ended = grown-ended job records m.admitted m.finished sound.ended;
      exclusive = again job _ _ refl (begun-exclusive job m slot place event empty sound.exclusive);
    })
admit-sound job records m next slot place (Some None) None sound empty there h = absurd (none-some next h)
admit-sound job records m next slot place (Some (Some b)) found sound empty there h =
    absurd (none-some next h)
admit-sound job records m next slot place None found sound empty there h = absurd (none-some next h)

claim-sound : (job : Job) (records : List EventRecord) (ticket : ℕ) (m next : Machine) (slot number : ℕ)
    (clone : Option ℕ)
    (at : Option Busy) (of : Option Algorithm) → IsSound job records m → busy_at m slot ≡ at →
    slice_get job.algorithms number ≡ of →
    claiming job ticket m slot number clone at of ≡ Some next → IsSound job records next
unfolding claimed
claim-sound job records ticket m next slot number clone (Some b) (Some a) sound there algorithm h =
    let w = when-some _ _ next h in
    let tests = and_parts (can_claim job b number)
    (is_free m.slots number a clone && has_units job m.slots a) w.holds in
    subst (IsSound job records) w.is (record {
      busy = one-slot job records m slot b (claimed b number a ticket clone) sound.busy there refl
          (λ event it. claimed-sound job event b number a ticket clone it algorithm tests.0);
      ended = sound.ended;
      exclusive = claimed-exclusive job m slot b number a ticket clone there
          (sound.busy slot b there).sound.as_many algorithm
          tests.1 sound.exclusive;
    })
claim-sound job records ticket m next slot number clone (Some b) None sound there algorithm h =
    absurd (none-some next h)
claim-sound job records ticket m next slot number clone None of sound there algorithm h =
    absurd (none-some next h)

done-sound : (job : Job) (records : List EventRecord) (past : List Entry) (m next : Machine) (ticket : ℕ)
    (outcome : Outcome) →
    AreNumberedFrom (length job.raws) job.algorithms → IsSound job records m →
    option_and_then (λ f. option_and_then (completing m outcome f) (slice_get job.algorithms f.number))
    (found past m ticket) ≡ Some next →
    IsSound job records next
unfolding completed
done-sound job records past m next ticket outcome numbered sound h =
    let f = after-some _ (found past m ticket) next h in
    let a = after-some _ (slice_get job.algorithms f.value.number) next f.gives in
    let w = when-some _ _ next a.gives in
    let it = found-is past m ticket f.value f.was in
    let later : Busy =
    completed f.value.busy f.value.number a.value (execution a.value f.value.claim.inputs) in
    subst (IsSound job records) w.is (record {
      busy = one-slot job records m f.value.slot f.value.busy
          (completed f.value.busy f.value.number a.value
          (execution a.value f.value.claim.inputs)) sound.busy it.busy refl
          (λ event s. completed-sound job event f.value.busy f.value.number a.value f.value.claim numbered s
          a.was it.claim);
      ended = sound.ended;
      exclusive = fewer-exclusive job m f.value.slot f.value.busy (Some later) it.busy sound.exclusive
          (kept-fewer job later f.value.busy (emptied-keeps f.value.busy later f.value.number refl));
    })

back-step-sound : (job : Job) (records : List EventRecord) (past : List Entry) (m next : Machine)
    (ticket : ℕ) →
    IsSound job records m → option_and_then (λ f. Some (putting_back m f)) (found past m ticket) ≡ Some next →
    IsSound job records next
back-step-sound job records past m next ticket sound h =
    let f = after-some _ (found past m ticket) next h in
    let it = found-is past m ticket f.value f.was in
    let later : Busy = record f.value.busy { claims = slice_set f.value.busy.claims f.value.number None } in
    subst (IsSound job records) (same_Some (putting_back m f.value) next f.gives) (record {
      busy = one-slot job records m f.value.slot f.value.busy later sound.busy it.busy refl
          (λ event s. back-sound job event f.value.busy f.value.number s);
      ended = sound.ended;
      exclusive = fewer-exclusive job m f.value.slot f.value.busy (Some later) it.busy sound.exclusive
          (kept-fewer job later f.value.busy (emptied-keeps f.value.busy later f.value.number refl));
    })

-- an event that ended: nothing is enabled in its results
settled-end : (job : Job) (records : List EventRecord) (admitted : ℕ) (b : Busy) (event : EventRecord) →
    IsSoundBusy job records admitted b → slice_get records (b.place - 1) ≡ Some event →
    is_settled job b ≡ true →
    IsSoundEnd job records admitted (record { place = b.place; result = result_of job event b.ran })
unfolding is_settled
settled-end job records admitted b event it there settled =
    let same : it.event ≡ event = same_Some it.event event (sym it.there ∙ there) in
    let sound : IsSoundFor job event b = subst (λ (e : EventRecord). IsSoundFor job e b) same it.sound in
    let tests = and_parts (not (list_any is_some b.claims)) _ settled in
    let none : list_any (is_enabled job (outcomes b.ran) (store job event b.ran))
    (range_with_len 0 (length job.algorithms)) ≡ false =
    ap (λ (places : List (Option Product)). list_any (is_enabled job (outcomes b.ran) places)
    (range_with_len 0 (length job.algorithms)))
    (sym sound.store_is) ∙ not-true _ tests.1 in
    record {
      event = event;
      some = it.some;
      known = it.known;
      there = there;
      ran = b.ran;
      within = sound-within job event b sound;
      rests = none-enabled job event b.ran none;
      told = refl;
    }

retire-sound : (job : Job) (records : List EventRecord) (m next : Machine) (slot : ℕ) →
    IsSound job records m →
    option_and_then (λ b. option_and_then (retiring job m slot b) (slice_get records (b.place - 1)))
    (busy_at m slot) ≡ Some next →
    IsSound job records next
retire-sound job records m next slot sound h =
    let b = after-some _ (busy_at m slot) next h in
    let e = after-some _ (slice_get records (b.value.place - 1)) next b.gives in
    let w = when-some _ _ next e.gives in
    subst (IsSound job records) w.is (record {
      busy = slot-sound job records m slot None sound.busy (busy-within m slot b.value b.was)
          (λ it no. absurd (none-some it no));
      ended = all-append _ m.finished _ sound.ended
          (settled-end job records m.admitted b.value e.value (sound.busy slot b.value b.was) e.was w.holds);
      exclusive = again job _ _ refl (fewer-exclusive job m slot b.value None b.was sound.exclusive
          (none-fewer job b.value));
    })

last-sound : (job : Job) (records : List EventRecord) (m next : Machine) → IsSound job records m →
    when (not m.closed) (record m { closed = true }) ≡ Some next → IsSound job records next
last-sound job records m next sound h =
    let w = when-some _ _ next h in
    subst (IsSound job records) w.is (record {
      busy = sound.busy;
      ended = sound.ended;
      exclusive =
          again job m _ refl sound.exclusive;
    })

pub step-sound : (job : Job) (records : List EventRecord) (past : List Entry) (m next : Machine)
    (entry : Entry) →
    AreNumberedFrom (length job.raws) job.algorithms → IsSound job records m →
    step job records past m entry ≡ Some next →
    IsSound job records next
unfolding step
step-sound job records past m next (Admit slot place) numbered sound h =
    admit-sound job records m next slot place (slice_get m.slots slot)
    (slice_get records m.admitted) sound refl refl h
step-sound job records past m next (Claim slot number clone worker) numbered sound h =
    claim-sound job records (length past) m next slot number clone (busy_at m slot)
    (slice_get job.algorithms number) sound refl refl h
step-sound job records past m next (Done ticket outcome) numbered sound h =
    done-sound job records past m next ticket outcome numbered sound h
step-sound job records past m next (Back ticket) numbered sound h =
    back-step-sound job records past m next ticket sound h
step-sound job records past m next (Retire slot) numbered sound h =
    retire-sound job records m next slot sound h
step-sound job records past m next Last numbered sound h = last-sound job records m next sound h

replay_from-sound : (job : Job) (records : List EventRecord) (past : List Entry) (m last : Machine)
    (journal : List Entry) →
    AreNumberedFrom (length job.raws) job.algorithms → IsSound job records m →
    replay_from job records past m journal ≡ Some last →
    IsSound job records last
unfolding replay_from
replay_from-sound job records past m last [] numbered sound h =
    subst (IsSound job records) (same_Some m last h) sound
replay_from-sound job records past m last (entry ∷ journal) numbered sound h =
    let it = after-some _ (step job records past m entry) last h in
    replay_from-sound job records (past ++ entry ∷ []) it.value last journal numbered
    (step-sound job records past m it.value entry numbered sound it.was) it.gives

pub opening-are-sound : (job : Job) (records : List EventRecord) (slots : ℕ) →
    IsSound job records (opening slots)
opening-are-sound job records slots = record {
  busy = opening-sound job records slots;
  ended = tt;
  exclusive = opening-exclusive job slots;
}

pub replay-sound : (job : Job) (slots : ℕ) (records : List EventRecord) (journal : List Entry) (m : Machine) →
    AreNumberedFrom (length job.raws) job.algorithms → replay job slots records journal ≡ Some m →
    IsSound job records m
unfolding replay
replay-sound job slots records journal m numbered h =
    replay_from-sound job records [] (opening slots) m journal numbered
    (opening-are-sound job records slots) h

-- the beginning of a run is a run

front-from : (job : Job) (records : List EventRecord) (past : List Entry) (m last : Machine)
    (front back : List Entry) →
    replay_from job records past m (front ++ back) ≡ Some last → IsSome (replay_from job records past m front)
unfolding replay_from
front-from job records past m last [] back h = refl
front-from job records past m last (entry ∷ front) back h =
    let it = after-some _ (step job records past m entry) last h in
    ap (λ (o : Option Machine). is_some (option_and_then
    (λ next. replay_from job records (past ++ entry ∷ []) next front) o)) it.was
    ∙ front-from job records (past ++ entry ∷ []) it.value last front back it.gives

pub front-run : (job : Job) (slots : ℕ) (records : List EventRecord) (front back : List Entry) →
    IsRun job slots records (front ++ back) → IsRun job slots records front
unfolding replay
front-run job slots records front back h = by
    (replay_from job records [] (opening slots) (front ++ back)) refl h
  where
    by : (o : Option Machine) → replay_from job records [] (opening slots) (front ++ back) ≡ o → IsSome o →
        IsSome (replay_from job records [] (opening slots) front)
    by (Some last) e h = front-from job records [] (opening slots) last front back e
    by None e h = absurd (cc)
