-- An event that ends: nothing is out in it and nothing is enabled, so its result agrees with its record.
use Rattle.std.proofs.Common.{◌≡◌, ℕ, ◌+◌, ◌-◌, ◌<◌, ◌≤◌, Bool, true, false, not, is_some, List, [], ◌∷◌, ◌++◌, count_by, length, set, slice_get, Option, Some, None, refl, ap, sym, ◌∙◌, subst, arith}
use Rattle.std.proofs.lemmas.Bool.{and_parts, not-true}
use Rattle.std.proofs.lemmas.List.{length-set}
use Rattle.std.proofs.lemmas.Option.{none-some, same_Some, slice_get_within}
use Rattle.std.specs.List.{list_any, range_with_len}
use Rattle.std.specs.Option.{option_map}
use Rattle.std.specs.Prelude.{IsSomeAnd}
use Rattle.core_laws.proofs.CutOff.{settled-agrees}
use Rattle.core_laws.proofs.OneEvent.{sound-within}
use Rattle.core_laws.proofs.States.{replay-sound}
use Rattle.core_laws.specs.Sound.{IsSoundBusy}
use Rattle.event_laws.proofs.Rounds.{none-enabled}
use Rattle.event_laws.proofs.Uncut.{uncut-result}
use Rattle.event_laws.specs.Rest.{NothingIsEnabled}
use Rattle.event_laws.specs.Uncut.{HasNoCut}
use Rattle.event_slots.specs.Booking.{result_in}
use Rattle.event_slots.specs.Slots.{AreSlotsOf, Slots, busy_in}
use Rattle.hive_model.specs.Agreement.{Agrees}
use Rattle.hive_model.specs.Enabled.{is_enabled}
use Rattle.hive_model.specs.Event.{decisions_of, ends_of, event_result, result_of, status_of}
use Rattle.hive_model.specs.EventRecord.{EventRecord}
use Rattle.hive_model.specs.EventResult.{EventResult}
use Rattle.hive_model.specs.History.{DeskState}
use Rattle.hive_model.specs.Job.{Job}
use Rattle.hive_model.specs.Machine.{Busy, Machine, claim_at}
use Rattle.hive_model.specs.Results.{outcomes, store}
use Rattle.hive_model.specs.Step.{busy_at, is_settled, step, with_slot}
use Rattle.hive_model.specs.Valid.{IsValidJob}
use Rattle.hive_model.specs.declared.entry.Entry.{Entry}
use Rattle.hive_model.specs.declared.entry.Entry.TheVariants.{Retire}
use Rattle.scheduler_core.proofs.Claims.{given, taken, told}
use Rattle.scheduler_core.proofs.Entries.{busy-spelled, none-retires, retires}
use Rattle.scheduler_core.proofs.Keeping.{as-many, entered, in-state, kept-on, of-job, seen_of}
use Rattle.scheduler_core.proofs.Owing.{none-left, owed-changed}
use Rattle.scheduler_core.specs.Says.{IsRetired, MayNotCome, RetireSays, with_entry}
use Rattle.scheduler_core.specs.State.{InState, IsKept, owed_by}
use Rattle.scheduler_core.specs.declared.answers.Finished.{Finished}

-- an event that has settled, in this slot

pub record Rests (job : Job) (m : Machine) (slot : ℕ) : Type 0 where
  pub busy : Busy
  pub there : busy_at m slot ≡ Some busy
  pub settled : is_settled job busy ≡ true

abbrev pub Settles : Job → Slots → ℕ → Type 0
Settles job it slot = (slots : List (Option Busy)) → AreSlotsOf job slots it →
    IsSomeAnd (busy_in slots slot) (λ b. is_settled job b ≡ true)

pub rests-of : (job seen : Job) (records : List EventRecord) (journal : List Entry) (it : Slots) (closed : Bool)
    (owed spare slot : ℕ) → (k : IsKept job records journal it closed owed spare) → seen ≡ job →
    Settles seen it slot → Rests job k.machine slot
rests-of job seen records journal it closed owed spare slot k same settles =
    let here : Settles job it slot = subst (λ j. Settles j it slot) same settles in
    let b = taken (busy_in k.machine.slots slot) (λ b. is_settled job b ≡ true) (here k.machine.slots k.slots) in
    record { busy = b.value; there = sym (busy-spelled k.machine slot) ∙ b.was; settled = b.holds }

none-outstanding : (job : Job) (b : Busy) → is_settled job b ≡ true → list_any is_some b.claims ≡ false
unfolding is_settled
none-outstanding job b h = not-true (list_any is_some b.claims) (and_parts (not (list_any is_some b.claims)) _ h).0

rests-there : (job : Job) (event : EventRecord) (b : Busy) → is_settled job b ≡ true →
    b.store ≡ store job event b.ran → NothingIsEnabled job event b.ran
unfolding is_settled
rests-there job event b h store_is =
    let none = not-true
    (list_any (is_enabled job (outcomes b.ran) b.store) (range_with_len 0 (length job.algorithms)))
    (and_parts (not (list_any is_some b.claims)) _ h).1 in
    none-enabled job event b.ran
    (subst (λ s. list_any (is_enabled job (outcomes b.ran) s) (range_with_len 0 (length job.algorithms)) ≡ false)
    store_is none)

-- where no event has settled

abbrev pub NoneSettles : Job → Slots → Type 0
NoneSettles job it = (slots : List (Option Busy)) → AreSlotsOf job slots it →
    (slot : ℕ) (b : Busy) → busy_in slots slot ≡ Some b → is_settled job b ≡ false

pub none-says : (job seen : Job) (records : List EventRecord) (journal : List Entry) (it : Slots) (closed : Bool)
    (owed spare : ℕ) (d : DeskState) (answer : Option Finished) →
    IsKept job records journal it closed owed spare → seen ≡ job → seen_of job records journal it ≡ d →
    NoneSettles seen it → answer ≡ None → RetireSays d answer d
none-says job seen records journal it closed owed spare d answer k same sees none is =
    let here : NoneSettles job it = subst (λ j. NoneSettles j it) same none in
    let m = k.machine in
    let own = seen_of job records journal it in
    subst (λ a. RetireSays d a d) (sym is) (
      refl,
      subst (λ e. InState e (λ n. (slot : ℕ) → MayNotCome e n (Retire slot))) sees
          (in-state own m (λ n. (slot : ℕ) → MayNotCome own n (Retire slot)) k.led
          (λ slot. none-retires job records journal m slot
          (λ b there. here m.slots k.slots slot b (busy-spelled m slot ∙ there)))),
    )

-- its place and its record

abbrev pub IsPlaceIn : Slots → ℕ → Option ℕ → Type 0
IsPlaceIn it slot place = (j : Job) (slots : List (Option Busy)) → AreSlotsOf j slots it →
    place ≡ option_map (λ (b : Busy). b.place) (busy_in slots slot)

place-is : (job : Job) (records : List EventRecord) (journal : List Entry) (it : Slots) (closed : Bool)
    (owed spare slot : ℕ) (place : Option ℕ) → (k : IsKept job records journal it closed owed spare) →
    (r : Rests job k.machine slot) → IsPlaceIn it slot place → place ≡ Some r.busy.place
place-is job records journal it closed owed spare slot place k r is =
    is job k.machine.slots k.slots ∙ ap (option_map (λ (b : Busy). b.place)) (busy-spelled k.machine slot ∙ r.there)

pub has-place : (job seen : Job) (records : List EventRecord) (journal : List Entry) (it : Slots) (closed : Bool)
    (owed spare slot : ℕ) (place : Option ℕ) → IsKept job records journal it closed owed spare → seen ≡ job →
    Settles seen it slot → IsPlaceIn it slot place → place ≡ None → ⊥
has-place job seen records journal it closed owed spare slot place k same settles is none =
    let r = rests-of job seen records journal it closed owed spare slot k same settles in
    none-some r.busy.place (sym none ∙ place-is job records journal it closed owed spare slot place k r is)

-- the record at its place
pub record Known (job : Job) (records : List EventRecord) (m : Machine) (slot place : ℕ) : Type 0 where
  pub rests : Rests job m slot
  pub place_is : rests.busy.place ≡ place
  pub sound : IsSoundBusy job records m.admitted rests.busy
  pub some : 1 ≤ place
  pub within : place ≤ length records

pub known : (job seen : Job) (records : List EventRecord) (journal : List Entry) (it : Slots) (closed : Bool)
    (owed spare slot place : ℕ) (answer : Option ℕ) → (k : IsKept job records journal it closed owed spare) →
    seen ≡ job → Settles seen it slot → IsPlaceIn it slot answer → answer ≡ Some place →
    Known job records k.machine slot place
known job seen records journal it closed owed spare slot place answer k same settles is was =
    let r = rests-of job seen records journal it closed owed spare slot k same settles in
    let mine : r.busy.place ≡ place =
    same_Some _ _ (sym (place-is job records journal it closed owed spare slot answer k r is) ∙ was) in
    let sound = (replay-sound job (length it.seats) records journal k.machine k.valid.numbered k.led).busy slot r.busy
    r.there in
    record {
      rests = r;
      place_is = mine;
      sound = sound;
      some = omega (arith, mine, sound.some);
      within = omega (arith, mine, sound.known, k.all);
    }

-- the slot is empty then

ended : Machine → ℕ → Busy → Job → EventRecord → Machine
ended m slot b job event = record (with_slot m slot None) {
  finished = m.finished ++ record { place = b.place; result = result_of job event b.ran } ∷ [];
}

ended-owes : (job : Job) (m : Machine) (slot : ℕ) (r : Rests job m slot) →
    owed_by (with_slot m slot None) + 1 ≡ owed_by m
ended-owes job m slot r =
    let none = none-left r.busy (none-outstanding job r.busy r.settled) in
    let sums = owed-changed m slot r.busy None r.there in
    omega (arith, none, sums)

pub owed-some : (job : Job) (records : List EventRecord) (journal : List Entry) (it : Slots) (closed : Bool)
    (owed spare slot : ℕ) → (k : IsKept job records journal it closed owed spare) → Rests job k.machine slot →
    1 ≤ owed
owed-some job records journal it closed owed spare slot k r =
    let owes = ended-owes job k.machine slot r in
    omega (arith, owes, k.owes)

pub spare-some : (job : Job) (records : List EventRecord) (journal : List Entry) (it : Slots) (closed : Bool)
    (owed spare slot : ℕ) → (k : IsKept job records journal it closed owed spare) → Rests job k.machine slot →
    0 < spare
spare-some job records journal it closed owed spare slot k r =
    let owes = ended-owes job k.machine slot r in
    omega (arith, owes, k.owes, k.room)

abbrev pub Empties : Job → ℕ → Slots → Slots → Type 0
Empties job slot old new = (slots : List (Option Busy)) (b : Busy) → AreSlotsOf job slots old →
    busy_in slots slot ≡ Some b → is_settled job b ≡ true → AreSlotsOf job (set slots slot None) new

slots-ended : (job seen : Job) (m : Machine) (slot : ℕ) (old new : Slots) → seen ≡ job →
    AreSlotsOf job m.slots old → (r : Rests job m slot) → Empties seen slot old new →
    AreSlotsOf job (set m.slots slot None) new
slots-ended job seen m slot old new same slots r empties =
    let here : Empties job slot old new = subst (λ j. Empties j slot old new) same empties in
    here m.slots r.busy slots (busy-spelled m slot ∙ r.there) r.settled

pub ended-kept : (job seen : Job) (records : List EventRecord) (journal longer : List Entry) (old new : Slots)
    (closed : Bool) (owed spare room slot place : ℕ) →
    (k : IsKept job records journal old closed owed spare) → seen ≡ job → Known job records k.machine slot place →
    Empties seen slot old new → longer ≡ journal ++ Retire slot ∷ [] → room + 1 ≡ spare →
    IsKept job records longer new closed (owed - 1) room
unfolding ended
ended-kept job seen records journal longer old new closed owed spare room slot place k same it empties grown less =
    let m = k.machine in
    let r = it.rests in
    let next = ended m slot r.busy job it.sound.event in
    let slots = slots-ended job seen m slot old new same k.slots r empties in
    let owes : owed_by next + 1 ≡ owed_by m = ended-owes job m slot r in
    kept-on job (length old.seats) records journal longer (Retire slot) m next new closed (owed - 1) room k.valid k.some
    k.fitting k.led
    (retires job records journal m slot r.busy it.sound.event r.there it.sound.there r.settled) grown
    (as-many job m.slots (set m.slots slot None) old new k.slots slots (length-set m.slots slot None))
    k.all k.last slots (omega (arith, owes, k.owes)) (omega (arith, owes, k.owes, k.room, less))

-- its result

result-is : (job : Job) (event : EventRecord) (b : Busy) (number : ℕ) → number ≡ event.event →
    b.store ≡ store job event b.ran → result_in job b number ≡ result_of job event b.ran
unfolding result_of
result-is job event b number e store_is =
    ap (λ n. result_in job b n) e
    ∙ ap (λ s. record {
      event = event.event;
      status = status_of (ends_of job (outcomes b.ran));
      decisions = decisions_of job (outcomes b.ran);
      ends = ends_of job (outcomes b.ran);
      store = s;
    }) store_is

abbrev pub Results : Job → ℕ → ℕ → Slots → EventResult → Type 0
Results job slot number it result = (slots : List (Option Busy)) (b : Busy) → AreSlotsOf job slots it →
    busy_in slots slot ≡ Some b → result ≡ result_in job b number

abbrev pub IsNumberAt : List EventRecord → ℕ → ℕ → Type 0
IsNumberAt records place number =
    IsSomeAnd (slice_get records (place - 1)) (λ (event : EventRecord). number ≡ event.event)

pub ended-says : (job seen : Job) (records shown : List EventRecord) (journal longer : List Entry) (old new : Slots)
    (closed : Bool) (owed spare slot place number : ℕ) (result : EventResult) (d : DeskState) →
    (k : IsKept job records journal old closed owed spare) → seen ≡ job → seen_of job records journal old ≡ d →
    Known job records k.machine slot place → shown ≡ records → IsNumberAt shown place number →
    Results seen slot number old result → Empties seen slot old new → longer ≡ journal ++ Retire slot ∷ [] →
    IsRetired d (record { place = place; result = result }) (seen_of job records longer new)
ended-says job seen records shown journal longer old new closed owed spare slot place number result d k same sees it
    shows numbers results empties grown =
    let m = k.machine in
    let r = it.rests in
    let b = r.busy in
    let event = it.sound.event in
    let sound = it.sound.sound in
    let there : slice_get records (place - 1) ≡ Some event =
    ap (λ p. slice_get records (p - 1)) (sym it.place_is) ∙ it.sound.there in
    let number_is : number ≡ event.event =
    told (slice_get records (place - 1)) (λ (e : EventRecord). number ≡ e.event) event there
    (subst (λ l. IsNumberAt l place number) shows numbers) in
    let here : Results job slot number old result = subst (λ j. Results j slot number old result) same results in
    let is : result ≡ result_of job event b.ran =
    here m.slots b k.slots (busy-spelled m slot ∙ r.there) ∙ result-is job event b number number_is sound.store_is in
    let rests = rests-there job event b r.settled sound.store_is in
    let within = sound-within job event b sound in
    let slots = slots-ended job seen m slot old new same k.slots r empties in
    let seats = as-many job m.slots (set m.slots slot None) old new k.slots slots (length-set m.slots slot None) in
    let f : Finished = record { place = place; result = result } in
    subst (λ e. IsRetired e f (seen_of job records longer new)) sees
    (record {
      slot = slot;
      appended = entered job records journal longer (Retire slot) old new seats grown;
      there = in-state (seen_of job records journal old) m
          (λ n. IsSomeAnd (busy_at n slot) (λ (x : Busy). x.place ≡ place)) k.led
          (given (busy_at m slot) (λ (x : Busy). x.place ≡ place) b r.there it.place_is);
      event = event;
      record_is = there;
      agrees = subst (Agrees job event) (sym is) (settled-agrees job event b.ran k.valid within rests);
      result = λ none. is ∙ uncut-result job event b.ran none within rests;
      told = in-state (seen_of job records journal old) m
          (λ n. IsSomeAnd (busy_at n slot) (λ (x : Busy). result ≡ result_of job event x.ran)) k.led
          (given (busy_at m slot) (λ (x : Busy). result ≡ result_of job event x.ran) b r.there is);
    })
