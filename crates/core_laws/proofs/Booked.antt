-- An algorithm that has run for an event is booked for it no more.
use Rattle.std.proofs.Common.{◌≡◌, ◌≢◌, ℕ, zero, suc, ◌+◌, ◌-◌, ◌<◌, ◌≤◌, nat_eq, Bool, true, false, not, cond, List, [], ◌∷◌, ◌++◌, length, count_by, set, slice_get, slice_set, Option, Some, None, IsSome, inl, inr, refl, sym, ap, ◌∙◌, subst, arith}
use Rattle.std.proofs.lemmas.Bool.{and_parts, cases_eq, eq-eqb, eqb-true, false≢true}
use Rattle.std.proofs.lemmas.Option.{same_Some, none-some, slice_get_within}
use Rattle.std.specs.Option.{option_map_or}
use Rattle.event_laws.proofs.Additions.{length-additions}
use Rattle.event_laws.proofs.Rounds.{can_run-parts}
use Rattle.core_laws.proofs.Counting.{count-cons, one_if}
use Rattle.core_laws.proofs.Lending.{changed}
use Rattle.core_laws.proofs.OncePlaces.{opening-once, step-once}
use Rattle.core_laws.proofs.Places.{flat-set_same, get-set_other}
use Rattle.core_laws.proofs.States.{opening-are-sound, step-sound}
use Rattle.core_laws.proofs.Steps.{after-some, busy-other, busy-same, busy-within, found-is, when-some}
use Rattle.core_laws.specs.Bookings.{bookings, bookings_from, books, is_of}
use Rattle.core_laws.specs.Once.{AreOnce, has_place}
use Rattle.core_laws.specs.Sound.{IsSound}
use Rattle.hive_model.specs.Algorithm.{Algorithm}
use Rattle.hive_model.specs.DataFlow.{AreNumberedFrom}
use Rattle.hive_model.specs.EventRecord.{EventRecord}
use Rattle.hive_model.specs.Execution.{Execution, execution}
use Rattle.hive_model.specs.Job.{Job}
use Rattle.hive_model.specs.Machine.{Busy, Machine, begun, opening}
use Rattle.hive_model.specs.Replay.{IsRun, replay, replay_from}
use Rattle.hive_model.specs.Results.{Results, ran_at}
use Rattle.hive_model.specs.Step.{Found, admitting, busy_at, claimed, claiming, completed, found, putting_back, step, with_slot}
use Rattle.hive_model.specs.Valid.{IsValidJob}
use Rattle.hive_model.specs.declared.entry.Entry.{Entry}
use Rattle.hive_model.specs.declared.entry.Entry.TheVariants.{Admit, Claim, Done, Back, Retire, Last}
use Rattle.hive_model.specs.declared.outcome.Outcome.{Outcome}

-- the event of that place was admitted, and where it is in a slot, the algorithm has run

record HasRun (place number : ℕ) (m : Machine) : Type 0 where
  admitted : place ≤ m.admitted
  ran : (slot : ℕ) (b : Busy) → busy_at m slot ≡ Some b → b.place ≡ place → ran_at b.ran number ≢ None

-- the slot gets an event of another place, or one in which it has run
ran-slot : (place number : ℕ) (m : Machine) (slot : ℕ) (it : Option Busy) → HasRun place number m →
    slot < length m.slots →
    ((b : Busy) → it ≡ Some b → b.place ≡ place → ran_at b.ran number ≢ None) →
    HasRun place number (with_slot m slot it)
ran-slot place number m slot it has within own = record {
  admitted = has.admitted;
  ran = λ other b e at. elim (cases_eq other slot) [
    | inl same ↦
        own b (sym (busy-same m slot it within) ∙ (ap (busy_at (with_slot m slot it)) (sym same) ∙ e)) at
    | inr differs ↦ has.ran other b (sym (busy-other m slot other it differs) ∙ e) at
  ];
}

-- an event stays in its slot with what has run
kept-ran : (place number : ℕ) (m : Machine) (slot : ℕ) (old new : Busy) → HasRun place number m →
    busy_at m slot ≡ Some old → new.place ≡ old.place →
    (ran_at old.ran number ≢ None → ran_at new.ran number ≢ None) →
    HasRun place number (with_slot m slot (Some new))
kept-ran place number m slot old new has there same stays =
    ran-slot place number m slot (Some new) has (busy-within m slot old there) (λ b e at.
    let is : new ≡ b = same_Some new b e in
    subst (λ (x : Busy). ran_at x.ran number ≢ None) is
    (stays (has.ran slot old there (sym same ∙ (ap (λ (x : Busy). x.place) is ∙ at)))))

set-stays : (ran : Results) (n k : ℕ) (it : Execution) → ran_at ran k ≢ None →
    ran_at (set ran n (Some it)) k ≢ None
set-stays [] n k it h = h
set-stays (x ∷ ran) zero zero it h = λ e. none-some it (sym e)
set-stays (x ∷ ran) zero (suc k) it h = h
set-stays (x ∷ ran) (suc n) zero it h = h
set-stays (x ∷ ran) (suc n) (suc k) it h = set-stays ran n k it h

-- the entries

admit-ran : (job : Job) (place number : ℕ) (m next : Machine) (slot event_place : ℕ)
    (at : Option (Option Busy)) (event : Option EventRecord) → HasRun place number m →
    slice_get m.slots slot ≡ at → admitting job m slot event_place at event ≡ Some next →
    HasRun place number next
unfolding begun
admit-ran job place number m next slot event_place (Some None) (Some event) has empty h =
    let w = when-some _ _ next h in
    let is : event_place ≡ m.admitted + 1 = eqb-true event_place (m.admitted + 1)
    (and_parts (not m.closed) (nat_eq event_place (m.admitted + 1)) w.holds).1 in
    let low : place ≤ m.admitted = has.admitted in
    let it = ran-slot place number m slot (Some (begun job event_place event)) has
    (slice_get_within m.slots slot None empty)
    (λ b e at.
    let own : event_place ≡ b.place = ap (λ (x : Busy). x.place)
    (same_Some (begun job event_place event) b e) in
    absurd (omega (arith, own, at, is, low))) in
    subst (HasRun place number) w.is (record { admitted = omega (arith, low); ran = it.ran })
admit-ran job place number m next slot event_place (Some None) None has empty h = absurd (none-some next h)
admit-ran job place number m next slot event_place (Some (Some b)) event has empty h =
    absurd (none-some next h)
admit-ran job place number m next slot event_place None event has empty h = absurd (none-some next h)

claim-ran : (job : Job) (place number ticket : ℕ) (m next : Machine) (slot algorithm : ℕ)
    (clone : Option ℕ) (at : Option Busy) (of : Option Algorithm) → HasRun place number m →
    busy_at m slot ≡ at → claiming job ticket m slot algorithm clone at of ≡ Some next →
    HasRun place number next
unfolding claimed
claim-ran job place number ticket m next slot algorithm clone (Some b) (Some a) has there h =
    let w = when-some _ _ next h in
    subst (HasRun place number) w.is
    (kept-ran place number m slot b (claimed b algorithm a ticket clone) has there refl (λ it. it))
claim-ran job place number ticket m next slot algorithm clone (Some b) None has there h =
    absurd (none-some next h)
claim-ran job place number ticket m next slot algorithm clone None of has there h = absurd (none-some next h)

step-ran : (job : Job) (records : List EventRecord) (place number : ℕ) (past : List Entry) (m next : Machine)
    (entry : Entry) → HasRun place number m → step job records past m entry ≡ Some next →
    HasRun place number next
unfolding step completed
step-ran job records place number past m next (Admit slot event_place) has h =
    admit-ran job place number m next slot event_place (slice_get m.slots slot)
    (slice_get records m.admitted) has refl h
step-ran job records place number past m next (Claim slot algorithm clone worker) has h =
    claim-ran job place number (length past) m next slot algorithm clone (busy_at m slot)
    (slice_get job.algorithms algorithm) has refl h
step-ran job records place number past m next (Done ticket outcome) has h =
    let f = after-some _ (found past m ticket) next h in
    let a = after-some _ (slice_get job.algorithms f.value.number) next f.gives in
    let w = when-some _ _ next a.gives in
    let was = found-is past m ticket f.value f.was in
    let it : Execution = execution a.value f.value.claim.inputs in
    let new : Busy = completed f.value.busy f.value.number a.value it in
    subst (HasRun place number) w.is
    (kept-ran place number m f.value.slot f.value.busy new has was.busy refl
    (set-stays f.value.busy.ran f.value.number number it))
step-ran job records place number past m next (Back ticket) has h =
    let f = after-some _ (found past m ticket) next h in
    let was = found-is past m ticket f.value f.was in
    let new : Busy = record f.value.busy { claims = slice_set f.value.busy.claims f.value.number None } in
    subst (HasRun place number) (same_Some (putting_back m f.value) next f.gives)
    (kept-ran place number m f.value.slot f.value.busy new has was.busy refl (λ it. it))
step-ran job records place number past m next (Retire slot) has h =
    let b = after-some _ (busy_at m slot) next h in
    let e = after-some _ (slice_get records (b.value.place - 1)) next b.gives in
    let w = when-some _ _ next e.gives in
    let it = ran-slot place number m slot None has (busy-within m slot b.value b.was)
    (λ x e. absurd (none-some x e)) in
    subst (HasRun place number) w.is (record { admitted = it.admitted; ran = it.ran })
step-ran job records place number past m next Last has h =
    let w = when-some _ _ next h in
    subst (HasRun place number) w.is (record { admitted = has.admitted; ran = has.ran })

-- an event is in one slot alone

counts : {X : Type 0} (p : X → Bool) (xs : List X) (i : ℕ) (x : X) → slice_get xs i ≡ Some x →
    p x ≡ true → 0 < count_by p xs
counts p [] i x there h = absurd (none-some x there)
counts p (y ∷ xs) zero x there h =
    omega (arith, count-cons p y xs, ap one_if (ap p (same_Some y x there) ∙ h))
counts p (y ∷ xs) (suc i) x there h = omega (arith, count-cons p y xs, counts p xs i x there h)

busy-there : (m : Machine) (slot : ℕ) (b : Busy) → busy_at m slot ≡ Some b →
    slice_get m.slots slot ≡ Some (Some b)
busy-there m slot b e =
    let it = after-some (λ (o : Option Busy). o) (slice_get m.slots slot) b e in
    it.was ∙ ap Some it.gives

alone : (m : Machine) (slot other : ℕ) (b c : Busy) → AreOnce m → 0 < b.place → b.place ≤ m.admitted →
    busy_at m slot ≡ Some b → busy_at m other ≡ Some c → c.place ≡ b.place → other ≢ slot → ⊥
alone m slot other b c once low high there also same differs =
    let p = has_place b.place in
    let still : slice_get (set m.slots slot None) other ≡ Some (Some c) =
    get-set_other m.slots slot other None differs ∙ busy-there m other c also in
    let more : 0 < count_by p (set m.slots slot None) = counts p (set m.slots slot None) other (Some c) still
    (eq-eqb c.place b.place same) in
    absurd (omega (
      arith,
      more,
      changed (λ s. one_if (p s)) m slot b None there,
      ap one_if (eq-eqb b.place b.place refl),
      once.once b.place low high,
    ))

-- after its Done it has run

done-ran : (job : Job) (records : List EventRecord) (past : List Entry) (m next : Machine) (ticket : ℕ)
    (outcome : Outcome) (f : Found) → IsSound job records m → AreOnce m →
    step job records past m (Done ticket outcome) ≡ Some next → found past m ticket ≡ Some f →
    HasRun f.busy.place f.number next
unfolding step completed
done-ran job records past m next ticket outcome f sound once h is =
    let g = after-some _ (found past m ticket) next h in
    let same : g.value ≡ f = same_Some g.value f (sym g.was ∙ is) in
    subst (λ (x : Found). HasRun x.busy.place x.number next) same
    (let a = after-some _ (slice_get job.algorithms g.value.number) next g.gives in
    let w = when-some _ _ next a.gives in
    let was = found-is past m ticket g.value g.was in
    let it : Execution = execution a.value g.value.claim.inputs in
    let new : Busy = completed g.value.busy g.value.number a.value it in
    let own = sound.busy g.value.slot g.value.busy was.busy in
    let low : g.value.number < length g.value.busy.ran =
    omega (
      arith,
      slice_get_within job.algorithms g.value.number a.value a.was,
      length-additions job own.event g.value.busy.ran own.sound.made,
    ) in
    subst (HasRun g.value.busy.place g.value.number) w.is (record {
      admitted = own.known;
      ran = λ slot b e at. elim (cases_eq slot g.value.slot) [
        | inl here ↦
            let mine : new ≡ b = same_Some new b
            (sym (busy-same m g.value.slot (Some new) (busy-within m g.value.slot g.value.busy was.busy))
            ∙ (ap (busy_at (with_slot m g.value.slot (Some new))) (sym here) ∙ e)) in
            subst (λ (x : Busy). ran_at x.ran g.value.number ≢ None) mine
            (λ none. none-some it (sym none ∙ flat-set_same g.value.busy.ran g.value.number (Some it) low))
        | inr other ↦
            absurd (alone m g.value.slot slot g.value.busy b once own.some own.known was.busy
            (sym (busy-other m g.value.slot slot (Some new) other) ∙ e) at other)
      ];
    }))

-- what an entry books

record IsBooking (place number : ℕ) (past : List Entry) (m : Machine) (entry : Entry) : Type 0 where
  ticket : ℕ
  outcome : Outcome
  entry_is : entry ≡ Done ticket outcome
  claim : Found
  found_is : found past m ticket ≡ Some claim
  at : claim.busy.place ≡ place
  of : claim.number ≡ number

done-books : (place number : ℕ) (past : List Entry) (m : Machine) (ticket : ℕ) (outcome : Outcome)
    (o : Option Found) → found past m ticket ≡ o → option_map_or (is_of place number) o false ≡ true →
    IsBooking place number past m (Done ticket outcome)
done-books place number past m ticket outcome None e h = absurd (false≢true h)
done-books place number past m ticket outcome (Some f) e h =
    let both = and_parts (nat_eq f.busy.place place) (nat_eq f.number number) h in
    record {
      ticket = ticket;
      outcome = outcome;
      entry_is = refl;
      claim = f;
      found_is = e;
      at = eqb-true f.busy.place place both.0;
      of = eqb-true f.number number both.1;
    }

books-what : (place number : ℕ) (past : List Entry) (m : Machine) (entry : Entry) →
    books place number past m entry ≡ true → IsBooking place number past m entry
books-what place number past m (Admit slot event) h = absurd (false≢true h)
books-what place number past m (Claim slot algorithm clone worker) h = absurd (false≢true h)
books-what place number past m (Done ticket outcome) h =
    done-books place number past m ticket outcome (found past m ticket) refl h
books-what place number past m (Back ticket) h = absurd (false≢true h)
books-what place number past m (Retire slot) h = absurd (false≢true h)
books-what place number past m Last h = absurd (false≢true h)

booked-ran : (job : Job) (records : List EventRecord) (place number : ℕ) (past : List Entry)
    (m next : Machine) (entry : Entry) → IsSound job records m → AreOnce m →
    step job records past m entry ≡ Some next → books place number past m entry ≡ true →
    HasRun place number next
booked-ran job records place number past m next entry sound once h e =
    let b = books-what place number past m entry e in
    let ran = done-ran job records past m next b.ticket b.outcome b.claim sound once
    (ap (step job records past m) (sym b.entry_is) ∙ h) b.found_is in
    subst (λ (p : ℕ). HasRun p number next) b.at
    (subst (λ (n : ℕ). HasRun b.claim.busy.place n next) b.of ran)

-- what has run is booked by no entry
not-booked : (job : Job) (records : List EventRecord) (place number : ℕ) (past : List Entry) (m : Machine)
    (entry : Entry) → IsSound job records m → HasRun place number m →
    books place number past m entry ≡ true → ⊥
not-booked job records place number past m entry sound has e =
    let b = books-what place number past m entry e in
    let was = found-is past m b.ticket b.claim b.found_is in
    let own = sound.busy b.claim.slot b.claim.busy was.busy in
    let claim = own.sound.claims b.claim.number b.claim.claim was.claim in
    let unrun = (can_run-parts job own.event b.claim.busy.ran b.claim.number claim.runs).unrun in
    has.ran b.claim.slot b.claim.busy was.busy b.at (ap (ran_at b.claim.busy.ran) (sym b.of) ∙ unrun)

none-more : (job : Job) (records : List EventRecord) (place number : ℕ) (past : List Entry)
    (m last : Machine) (journal : List Entry) → AreNumberedFrom (length job.raws) job.algorithms →
    IsSound job records m → HasRun place number m → replay_from job records past m journal ≡ Some last →
    bookings_from job records place number past m journal ≡ 0
unfolding bookings_from replay_from
none-more job records place number past m last [] numbered sound has h = refl
none-more job records place number past m last (entry ∷ journal) numbered sound has h =
    let next = after-some _ (step job records past m entry) last h in
    let rest = none-more job records place number (past ++ entry ∷ []) next.value last journal numbered
    (step-sound job records past m next.value entry numbered sound next.was)
    (step-ran job records place number past m next.value entry has next.was) next.gives in
    let there = ap (λ (o : Option Machine). option_map_or
    (λ it. bookings_from job records place number (past ++ entry ∷ []) it journal) o 0) next.was in
    by (books place number past m entry) refl (not-booked job records place number past m entry sound has)
    _ (there ∙ rest)
  where
    by : (t : Bool) → books place number past m entry ≡ t →
        (books place number past m entry ≡ true → ⊥) → (later : ℕ) → later ≡ 0 → cond t 1 0 + later ≡ 0
    by true e never later none = absurd (never e)
    by false e never later none = omega (arith, none)

few-booked : (job : Job) (records : List EventRecord) (place number : ℕ) (past : List Entry)
    (m last : Machine) (journal : List Entry) → AreNumberedFrom (length job.raws) job.algorithms →
    IsSound job records m → AreOnce m → replay_from job records past m journal ≡ Some last →
    bookings_from job records place number past m journal ≤ 1
unfolding bookings_from replay_from
few-booked job records place number past m last [] numbered sound once h = omega arith
few-booked job records place number past m last (entry ∷ journal) numbered sound once h =
    let next = after-some _ (step job records past m entry) last h in
    let later = step-sound job records past m next.value entry numbered sound next.was in
    let rest = few-booked job records place number (past ++ entry ∷ []) next.value last journal numbered
    later (step-once job records past m next.value entry once next.was) next.gives in
    let there = ap (λ (o : Option Machine). option_map_or
    (λ it. bookings_from job records place number (past ++ entry ∷ []) it journal) o 0) next.was in
    by (books place number past m entry) refl _ (omega (arith, there, rest))
    (λ e. there ∙ none-more job records place number (past ++ entry ∷ []) next.value last journal numbered
    later
    (booked-ran job records place number past m next.value entry sound once next.was e) next.gives)
  where
    by : (t : Bool) → books place number past m entry ≡ t → (more : ℕ) → more ≤ 1 →
        (books place number past m entry ≡ true → more ≡ 0) → cond t 1 0 + more ≤ 1
    by true e more few none = omega (arith, none e)
    by false e more few none = omega (arith, few)

pub booked-once : (job : Job) (slots : ℕ) (records : List EventRecord) (journal : List Entry)
    (place number : ℕ) → IsValidJob job → IsRun job slots records journal →
    bookings job slots records place number journal ≤ 1
unfolding bookings replay
booked-once job slots records journal place number valid run =
    by (replay_from job records [] (opening slots) journal) refl run
  where
    by : (o : Option Machine) → replay_from job records [] (opening slots) journal ≡ o → IsSome o →
        bookings_from job records place number [] (opening slots) journal ≤ 1
    by None e some = absurd (cc)
    by (Some last) e some = few-booked job records place number [] (opening slots) last journal
        valid.numbered (opening-are-sound job records slots) (opening-once slots) e
