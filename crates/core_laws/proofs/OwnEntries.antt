-- Each outstanding claim has its own entry in the journal, by its ticket.
use Rattle.std.proofs.Common.{◌≡◌, ℕ, zero, suc, ◌-◌, ◌<◌, List, [], ◌∷◌, ◌++◌, length, set, slice_get, Option, Some, None, inl, inr, refl, sym, ap, ◌∙◌, subst, arith, append-nil, append_assoc}
use Rattle.std.proofs.lemmas.Bool.{cases_eq}
use Rattle.std.proofs.lemmas.Option.{same_Some, none-some, slice_get_within}
use Rattle.std.specs.Option.{option_flatten}
use Rattle.core_laws.proofs.Places.{emptied, flat-none, flat-set_other, flat-set_same}
use Rattle.core_laws.proofs.States.{nothing-there}
use Rattle.core_laws.proofs.Steps.{after-some, busy-other, busy-same, busy-within, found-is, when-some}
use Rattle.core_laws.specs.Tickets.{HasEntry, HaveEntries}
use Rattle.hive_model.proofs.Lists.{slice_get-append_front}
use Rattle.hive_model.specs.Algorithm.{Algorithm}
use Rattle.hive_model.specs.EventRecord.{EventRecord}
use Rattle.hive_model.specs.Execution.{execution}
use Rattle.hive_model.specs.Job.{Job}
use Rattle.hive_model.specs.Machine.{Busy, Machine, Outstanding, begun, claim_at, opening}
use Rattle.hive_model.specs.Replay.{replay, replay_from}
use Rattle.hive_model.specs.Step.{admitting, busy_at, claimed, claiming, completed, found, putting_back, step, with_slot}
use Rattle.hive_model.specs.declared.entry.Entry.{Entry}
use Rattle.hive_model.specs.declared.entry.Entry.TheVariants.{Admit, Claim, Done, Back, Retire, Last}

-- entries stay where they are

last-entry : (past : List Entry) (entry : Entry) → slice_get (past ++ entry ∷ []) (length past) ≡ Some entry
last-entry [] entry = refl
last-entry (first ∷ past) entry = last-entry past entry

keeps-entry : (past : List Entry) (entry : Entry) (slot number : ℕ) (claim : Outstanding) →
    HasEntry past slot number claim →
    HasEntry (past ++ entry ∷ []) slot number claim
keeps-entry past entry slot number claim it = record {
  worker = it.worker;
  there = slice_get-append_front past (entry ∷ []) claim.ticket
      (slice_get_within past claim.ticket _ it.there) ∙ it.there;
}

keep-entries : (past : List Entry) (entry : Entry) (m : Machine) → HaveEntries past m →
    HaveEntries (past ++ entry ∷ []) m
keep-entries past entry m all slot b number claim there mine =
    keeps-entry past entry slot number claim (all slot b number claim there mine)

-- a place that holds something is there
slot-there : (claims : List (Option Outstanding)) (number : ℕ) (own claim : Outstanding) →
    option_flatten (slice_get (set claims number (Some own)) number) ≡ Some claim → number < length claims
slot-there [] number own claim h = absurd (none-some claim h)
slot-there (c ∷ claims) zero own claim h = omega arith
slot-there (c ∷ claims) (suc number) own claim h = let later = slot-there claims number own claim h in
    omega arith

-- one slot changes

one-changed : (past : List Entry) (m : Machine) (slot : ℕ) (it : Option Busy) → HaveEntries past m →
    slot < length m.slots →
    ((b : Busy) (number : ℕ) (claim : Outstanding) → it ≡ Some b → claim_at b number ≡ Some claim →
    HasEntry past slot number claim) →
    HaveEntries past (with_slot m slot it)
one-changed past m slot it all within own other b number claim there mine =
    elim (cases_eq other slot) [
      | inl same ↦
          subst (λ (s : ℕ). HasEntry past s number claim) (sym same)
          (own b number claim (sym (busy-same m slot it within)
          ∙ (ap (busy_at (with_slot m slot it)) (sym same) ∙ there)) mine)
      | inr differs ↦ all other b number claim (sym (busy-other m slot other it differs) ∙ there) mine
    ]

-- what an emptied place leaves of the claims
left-claim : (old : Busy) (number n : ℕ) (claim : Outstanding) →
    option_flatten (slice_get (set old.claims number None) n) ≡ Some claim → claim_at old n ≡ Some claim
left-claim old number n claim e =
    elim (cases_eq n number) [
      | inl same ↦ absurd (none-some claim (sym (emptied old.claims number n (sym same)) ∙ e))
      | inr other ↦ sym (flat-set_other old.claims number n None other) ∙ e
    ]

fewer-claims : (past : List Entry) (m : Machine) (slot : ℕ) (old new : Busy) (number : ℕ) →
    HaveEntries past m →
    busy_at m slot ≡ Some old → new.claims ≡ set old.claims number None →
    HaveEntries past (with_slot m slot (Some new))
fewer-claims past m slot old new number all there claims =
    one-changed past m slot (Some new) all (busy-within m slot old there) (λ b n claim e mine.
    let is : new ≡ b = same_Some new b e in
    let mine_new : claim_at new n ≡ Some claim = ap (λ (x : Busy). claim_at x n) is ∙ mine in
    all slot old n claim there
    (left-claim old number n claim (ap (λ (cs : List (Option Outstanding)). option_flatten (slice_get cs n))
    (sym claims) ∙ mine_new)))

-- the entries

admit-entries : (job : Job) (past : List Entry) (m next : Machine) (slot place : ℕ)
    (at : Option (Option Busy))
    (found : Option EventRecord) → HaveEntries past m → slice_get m.slots slot ≡ at →
    admitting job m slot place at found ≡ Some next → HaveEntries past next
unfolding begun
admit-entries job past m next slot place (Some None) (Some event) all empty h =
    let w = when-some _ _ next h in
    subst (HaveEntries past) w.is
    (one-changed past m slot (Some (begun job place event)) all (slice_get_within m.slots slot None empty)
    (λ b n claim e mine.
    let is : begun job place event ≡ b = same_Some (begun job place event) b e in
    absurd (none-some claim (sym (flat-none (length job.algorithms) n)
    ∙ (ap (λ (x : Busy). claim_at x n) is ∙ mine)))))
admit-entries job past m next slot place (Some None) None all empty h = absurd (none-some next h)
admit-entries job past m next slot place (Some (Some b)) found all empty h = absurd (none-some next h)
admit-entries job past m next slot place None found all empty h = absurd (none-some next h)

claim-entries : (job : Job) (past : List Entry) (m next : Machine) (slot number : ℕ) (clone : Option ℕ)
    (worker : ℕ)
    (at : Option Busy) (of : Option Algorithm) → HaveEntries past m → busy_at m slot ≡ at →
    claiming job (length past) m slot number clone at of ≡ Some next →
    HaveEntries (past ++ Claim slot number clone worker ∷ []) next
unfolding claimed
claim-entries job past m next slot number clone worker (Some old) (Some a) all there h =
    let w = when-some _ _ next h in
    let entry = Claim slot number clone worker in
    let new : Busy = claimed old number a (length past) clone in
    subst (HaveEntries (past ++ entry ∷ [])) w.is
    (one-changed (past ++ entry ∷ []) m slot (Some new) (keep-entries past entry m all)
    (busy-within m slot old there) (λ b n claim e mine.
    let is : new ≡ b = same_Some new b e in
    let mine_new : claim_at new n ≡ Some claim = ap (λ (x : Busy). claim_at x n) is ∙ mine in
    elim (cases_eq n number) [
      | inl same ↦
          let here : option_flatten (slice_get new.claims number) ≡ Some claim =
          ap (λ (i : ℕ). option_flatten (slice_get new.claims i)) (sym same) ∙ mine_new in
          own-entry past old.claims slot number n clone worker _ claim same here refl refl
      | inr other ↦
          keeps-entry past entry slot n claim
          (all slot old n claim there (sym (flat-set_other old.claims number n _ other) ∙ mine_new))
    ]))
  where
    own-entry : (past : List Entry) (claims : List (Option Outstanding)) (slot number n : ℕ)
        (clone : Option ℕ) (worker : ℕ)
        (own claim : Outstanding) → n ≡ number →
        option_flatten (slice_get (set claims number (Some own)) number) ≡ Some claim →
        own.ticket ≡ length past → own.clone ≡ clone →
        HasEntry (past ++ Claim slot number clone worker ∷ []) slot n claim
    own-entry past claims slot number n clone worker own claim same here ticket copy =
        let within : number < length claims = slot-there claims number own claim here in
        let is : own ≡ claim = same_Some own claim (sym (flat-set_same claims number (Some own) within)
        ∙ here) in
        subst (λ (i : ℕ). HasEntry (past ++ Claim slot number clone worker ∷ []) slot i claim) (sym same)
        (subst (HasEntry (past ++ Claim slot number clone worker ∷ []) slot number) is (record {
          worker = worker;
          there =
              ap (slice_get (past ++ Claim slot number clone worker ∷ [])) ticket
              ∙ (last-entry past (Claim slot number clone worker)
              ∙ ap (λ (c : Option ℕ). Some (Claim slot number c worker)) (sym copy));
        }))
claim-entries job past m next slot number clone worker (Some old) None all there h = absurd (none-some next h)
claim-entries job past m next slot number clone worker None of all there h = absurd (none-some next h)

step-entries : (job : Job) (records : List EventRecord) (past : List Entry) (m next : Machine)
    (entry : Entry) → HaveEntries past m →
    step job records past m entry ≡ Some next → HaveEntries (past ++ entry ∷ []) next
unfolding step completed
step-entries job records past m next (Admit slot place) all h =
    keep-entries past (Admit slot place) next
    (admit-entries job past m next slot place (slice_get m.slots slot)
    (slice_get records m.admitted) all refl h)
step-entries job records past m next (Claim slot number clone worker) all h =
    claim-entries job past m next slot number clone worker (busy_at m slot)
    (slice_get job.algorithms number) all refl h
step-entries job records past m next (Done ticket outcome) all h =
    let f = after-some _ (found past m ticket) next h in
    let a = after-some _ (slice_get job.algorithms f.value.number) next f.gives in
    let w = when-some _ _ next a.gives in
    let it = found-is past m ticket f.value f.was in
    let new : Busy = completed f.value.busy f.value.number a.value (execution a.value f.value.claim.inputs) in
    keep-entries past (Done ticket outcome) next (subst (HaveEntries past) w.is
    (fewer-claims past m f.value.slot f.value.busy new f.value.number all it.busy refl))
step-entries job records past m next (Back ticket) all h =
    let f = after-some _ (found past m ticket) next h in
    let it = found-is past m ticket f.value f.was in
    let new : Busy = record f.value.busy { claims = set f.value.busy.claims f.value.number None } in
    keep-entries past (Back ticket) next (subst (HaveEntries past)
    (same_Some (putting_back m f.value) next f.gives)
    (fewer-claims past m f.value.slot f.value.busy new f.value.number all it.busy refl))
step-entries job records past m next (Retire slot) all h =
    let b = after-some _ (busy_at m slot) next h in
    let e = after-some _ (slice_get records (b.value.place - 1)) next b.gives in
    let w = when-some _ _ next e.gives in
    keep-entries past (Retire slot) next (subst (HaveEntries past) w.is
    (one-changed past m slot None all (busy-within m slot b.value b.was)
    (λ it n claim none mine. absurd (none-some it none))))
step-entries job records past m next Last all h =
    let w = when-some _ _ next h in
    keep-entries past Last next (subst (HaveEntries past) w.is all)

entries-from : (job : Job) (records : List EventRecord) (past : List Entry) (m last : Machine)
    (journal : List Entry) →
    HaveEntries past m → replay_from job records past m journal ≡ Some last →
    HaveEntries (past ++ journal) last
unfolding replay_from
entries-from job records past m last [] all h =
    subst (λ (them : List Entry). HaveEntries them last) (sym (append-nil past))
    (subst (HaveEntries past) (same_Some m last h) all)
entries-from job records past m last (entry ∷ journal) all h =
    let it = after-some _ (step job records past m entry) last h in
    subst (λ (them : List Entry). HaveEntries them last) (append_assoc past (entry ∷ []) journal)
    (entries-from job records (past ++ entry ∷ []) it.value last journal
    (step-entries job records past m it.value entry all it.was) it.gives)

pub own-entries : (job : Job) (slots : ℕ) (records : List EventRecord) (journal : List Entry) (m : Machine) →
    replay job slots records journal ≡ Some m → HaveEntries journal m
unfolding replay
own-entries job slots records journal m h =
    entries-from job records [] (opening slots) m journal
    (λ slot b number claim there mine. absurd (none-some b (sym (nothing-there slots slot) ∙ there))) h
