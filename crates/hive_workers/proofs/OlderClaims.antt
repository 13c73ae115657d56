-- A claim that is outstanding was claimed once: what a later state has outstanding from earlier entries, the earlier
-- state had outstanding too, and a claim that was booked or put back never is again.
use Rattle.std.proofs.Common.{◌≡◌, ◌⊎◌, ℕ, zero, suc, ◌-◌, ◌<◌, List, [], ◌∷◌, ◌++◌, length, set, slice_get, Option, Some, None, inl, inr, refl, sym, ap, ◌∙◌, subst, arith, append-nil, append_assoc, length-append}
use Rattle.std.proofs.lemmas.Bool.{cases_eq}
use Rattle.std.proofs.lemmas.Option.{same_Some, none-some, slice_get_within}
use Rattle.std.specs.Option.{option_flatten}
use Rattle.core_laws.proofs.Places.{emptied, flat-none}
use Rattle.core_laws.proofs.Steps.{after-some, busy-other, busy-same, busy-within, found-is, when-some}
use Rattle.core_laws.specs.Tickets.{HaveEntries}
use Rattle.expr_code.specs.Claim.{Claim as Work}
use Rattle.hive_model.specs.Algorithm.{Algorithm}
use Rattle.hive_model.specs.EventRecord.{EventRecord}
use Rattle.hive_model.specs.Execution.{execution}
use Rattle.hive_model.specs.Job.{Job}
use Rattle.hive_model.specs.Machine.{Busy, Machine, Outstanding, begun, claim_at, opening}
use Rattle.hive_model.specs.Replay.{replay, replay_from}
use Rattle.hive_model.specs.Step.{Found, admitting, busy_at, claimed, claiming, completed, found, found_by, putting_back, step, with_slot}
use Rattle.hive_model.specs.declared.entry.Entry.{Entry}
use Rattle.hive_model.specs.declared.entry.Entry.TheVariants.{Admit, Claim, Done, Back, Retire, Last}
use Rattle.hive_model.specs.declared.outcome.Outcome.{Outcome}
use Rattle.scheduler_core.specs.Says.{IsOutIn}
use Rattle.hive_workers.specs.Outstanding.{IsOutAt, IsWorkFor}

-- the claims of one event

emptied-one : (claims : List (Option Outstanding)) (number n : ℕ) (c : Outstanding) →
    option_flatten (slice_get (set claims number None) n) ≡ Some c → option_flatten (slice_get claims n) ≡ Some c
emptied-one [] number n c h = h
emptied-one (x ∷ claims) zero zero c h = absurd (none-some c h)
emptied-one (x ∷ claims) zero (suc n) c h = h
emptied-one (x ∷ claims) (suc number) zero c h = h
emptied-one (x ∷ claims) (suc number) (suc n) c h = emptied-one claims number n c h

claimed-one : (claims : List (Option Outstanding)) (number n : ℕ) (own c : Outstanding) →
    option_flatten (slice_get (set claims number (Some own)) n) ≡ Some c →
    (own ≡ c) ⊎ (option_flatten (slice_get claims n) ≡ Some c)
claimed-one [] number n own c h = inr h
claimed-one (x ∷ claims) zero zero own c h = inl (same_Some own c h)
claimed-one (x ∷ claims) zero (suc n) own c h = inr h
claimed-one (x ∷ claims) (suc number) zero own c h = inr h
claimed-one (x ∷ claims) (suc number) (suc n) own c h = claimed-one claims number n own c h

-- one slot changes

one-changed : (m : Machine) (slot : ℕ) (it : Option Busy) (other number : ℕ) (c : Outstanding) →
    slot < length m.slots →
    ((b : Busy) → it ≡ Some b → claim_at b number ≡ Some c → IsOutAt m slot number c) →
    IsOutAt (with_slot m slot it) other number c → IsOutAt m other number c
one-changed m slot it other number c within own out =
    elim (cases_eq other slot) [
      | inl same ↦
          subst (λ (s : ℕ). IsOutAt m s number c) (sym same)
          (own out.0 (sym (busy-same m slot it within)
          ∙ (ap (busy_at (with_slot m slot it)) (sym same) ∙ out.1)) out.2)
      | inr differs ↦ (out.0, sym (busy-other m slot other it differs) ∙ out.1, out.2)
    ]

fewer-claims : (m : Machine) (slot : ℕ) (old new : Busy) (number : ℕ) → busy_at m slot ≡ Some old →
    new.claims ≡ set old.claims number None → (other n : ℕ) (c : Outstanding) →
    IsOutAt (with_slot m slot (Some new)) other n c → IsOutAt m other n c
fewer-claims m slot old new number there claims other n c out =
    one-changed m slot (Some new) other n c (busy-within m slot old there) (λ b e mine.
    let mine_new : claim_at new n ≡ Some c = ap (λ (x : Busy). claim_at x n) (same_Some new b e) ∙ mine in (
      old,
      there,
      emptied-one old.claims number n c
          (ap (λ (cs : List (Option Outstanding)). option_flatten (slice_get cs n)) (sym claims) ∙ mine_new),
    )) out

-- one entry more

admit-older : (job : Job) (m next : Machine) (slot place : ℕ) (at : Option (Option Busy))
    (record_is : Option EventRecord) (other number : ℕ) (c : Outstanding) → slice_get m.slots slot ≡ at →
    admitting job m slot place at record_is ≡ Some next → IsOutAt next other number c → IsOutAt m other number c
unfolding begun
admit-older job m next slot place (Some None) (Some event) other number c empty h out =
    let w = when-some _ _ next h in
    let new : Busy = begun job place event in
    one-changed m slot (Some new) other number c (slice_get_within m.slots slot None empty)
    (λ b e mine. absurd (none-some c (sym (flat-none (length job.algorithms) number)
    ∙ (ap (λ (x : Busy). claim_at x number) (same_Some new b e) ∙ mine))))
    (subst (λ (x : Machine). IsOutAt x other number c) (sym w.is) out)
admit-older job m next slot place (Some None) None other number c empty h out = absurd (none-some next h)
admit-older job m next slot place (Some (Some b)) record_is other number c empty h out = absurd (none-some next h)
admit-older job m next slot place None record_is other number c empty h out = absurd (none-some next h)

claim-older : (job : Job) (ticket : ℕ) (m next : Machine) (slot number : ℕ) (clone : Option ℕ) (at : Option Busy)
    (of : Option Algorithm) (other n : ℕ) (c : Outstanding) → busy_at m slot ≡ at →
    claiming job ticket m slot number clone at of ≡ Some next → IsOutAt next other n c → c.ticket < ticket →
    IsOutAt m other n c
unfolding claimed
claim-older job ticket m next slot number clone (Some old) (Some a) other n c there h out less =
    let w = when-some _ _ next h in
    let new : Busy = claimed old number a ticket clone in
    one-changed m slot (Some new) other n c (busy-within m slot old there) (λ b e mine.
    let mine_new : claim_at new n ≡ Some c = ap (λ (x : Busy). claim_at x n) (same_Some new b e) ∙ mine in
    elim (claimed-one old.claims number n _ c mine_new) [
      | inl own ↦ absurd (late _ c own less)
      | inr before ↦ (old, there, before)
    ]) (subst (λ (x : Machine). IsOutAt x other n c) (sym w.is) out)
  where
    late : (own c : Outstanding) → own ≡ c → c.ticket < own.ticket → ⊥
    late own c same less = let e = ap (λ (x : Outstanding). x.ticket) same in omega arith
claim-older job ticket m next slot number clone (Some old) None other n c there h out less =
    absurd (none-some next h)
claim-older job ticket m next slot number clone None of other n c there h out less = absurd (none-some next h)

step-older : (job : Job) (records : List EventRecord) (past : List Entry) (m next : Machine) (entry : Entry)
    (slot number : ℕ) (c : Outstanding) → step job records past m entry ≡ Some next → IsOutAt next slot number c →
    c.ticket < length past → IsOutAt m slot number c
unfolding step completed
step-older job records past m next (Admit at place) slot number c h out less =
    admit-older job m next at place (slice_get m.slots at) (slice_get records m.admitted) slot number c refl h out
step-older job records past m next (Claim at claims clone worker) slot number c h out less =
    claim-older job (length past) m next at claims clone (busy_at m at) (slice_get job.algorithms claims) slot number c
    refl h out less
step-older job records past m next (Done ticket outcome) slot number c h out less =
    let f = after-some _ (found past m ticket) next h in
    let a = after-some _ (slice_get job.algorithms f.value.number) next f.gives in
    let w = when-some _ _ next a.gives in
    let it = found-is past m ticket f.value f.was in
    let new : Busy = completed f.value.busy f.value.number a.value (execution a.value f.value.claim.inputs) in
    fewer-claims m f.value.slot f.value.busy new f.value.number it.busy refl slot number c
    (subst (λ (x : Machine). IsOutAt x slot number c) (sym w.is) out)
step-older job records past m next (Back ticket) slot number c h out less =
    let f = after-some _ (found past m ticket) next h in
    let it = found-is past m ticket f.value f.was in
    let new : Busy = record f.value.busy { claims = set f.value.busy.claims f.value.number None } in
    fewer-claims m f.value.slot f.value.busy new f.value.number it.busy refl slot number c
    (subst (λ (x : Machine). IsOutAt x slot number c) (sym (same_Some (putting_back m f.value) next f.gives)) out)
step-older job records past m next (Retire at) slot number c h out less =
    let b = after-some _ (busy_at m at) next h in
    let e = after-some _ (slice_get records (b.value.place - 1)) next b.gives in
    let w = when-some _ _ next e.gives in
    one-changed m at None slot number c (busy-within m at b.value b.was) (λ it none mine. absurd (none-some it none))
    (subst (λ (x : Machine). IsOutAt x slot number c) (sym w.is) out)
step-older job records past m next Last slot number c h out less =
    let w = when-some _ _ next h in
    subst (λ (x : Machine). IsOutAt x slot number c) (sym w.is) out

-- more entries

entries-older : (job : Job) (records : List EventRecord) (past : List Entry) (m last : Machine)
    (journal : List Entry) (slot number : ℕ) (c : Outstanding) →
    replay_from job records past m journal ≡ Some last → IsOutAt last slot number c → c.ticket < length past →
    IsOutAt m slot number c
unfolding replay_from
entries-older job records past m last [] slot number c h out less =
    subst (λ (x : Machine). IsOutAt x slot number c) (sym (same_Some m last h)) out
entries-older job records past m last (entry ∷ journal) slot number c h out less =
    let it = after-some _ (step job records past m entry) last h in
    let longer = length-append past (entry ∷ []) in
    step-older job records past m it.value entry slot number c it.was
    (entries-older job records (past ++ entry ∷ []) it.value last journal slot number c it.gives out (omega arith))
    less

rest-of-run : (job : Job) (records : List EventRecord) (past : List Entry) (first m last : Machine)
    (front back : List Entry) → replay_from job records past first front ≡ Some m →
    replay_from job records past first (front ++ back) ≡ Some last →
    replay_from job records (past ++ front) m back ≡ Some last
unfolding replay_from
rest-of-run job records past first m last [] back h whole =
    ap (λ (them : List Entry). replay_from job records them m back) (append-nil past)
    ∙ (ap (λ (x : Machine). replay_from job records past x back) (sym (same_Some first m h)) ∙ whole)
rest-of-run job records past first m last (entry ∷ front) back h whole =
    let a = after-some _ (step job records past first entry) m h in
    let b = after-some _ (step job records past first entry) last whole in
    let same : a.value ≡ b.value = same_Some a.value b.value (sym a.was ∙ b.was) in
    ap (λ (them : List Entry). replay_from job records them m back) (sym (append_assoc past (entry ∷ []) front))
    ∙ rest-of-run job records (past ++ entry ∷ []) a.value m last front back a.gives
    (ap (λ (x : Machine). replay_from job records (past ++ entry ∷ []) x (front ++ back)) same ∙ b.gives)

-- a claim of the earlier entries that is outstanding later was outstanding then
pub older-claims : (job : Job) (slots : ℕ) (records : List EventRecord) (front back : List Entry) (m last : Machine)
    (slot number : ℕ) (c : Outstanding) → replay job slots records front ≡ Some m →
    replay job slots records (front ++ back) ≡ Some last → IsOutAt last slot number c → c.ticket < length front →
    IsOutAt m slot number c
unfolding replay
older-claims job slots records front back m last slot number c h whole out less =
    entries-older job records front m last back slot number c
    (rest-of-run job records [] (opening slots) m last front back h whole) out less

-- a claim by its ticket

pub record NamesClaim (past : List Entry) (ticket slot number : ℕ) : Type 0 where
  pub clone : Option ℕ
  pub worker : ℕ
  pub there : slice_get past ticket ≡ Some (Claim slot number clone worker)

claimed_slot : Option Entry → ℕ
claimed_slot (Some (Claim slot number clone worker)) = slot
claimed_slot other = 0

claimed_number : Option Entry → ℕ
claimed_number (Some (Claim slot number clone worker)) = number
claimed_number other = 0

-- a ticket names one slot and algorithm
one-name : (past : List Entry) (ticket slot number other n : ℕ) → NamesClaim past ticket slot number →
    NamesClaim past ticket other n → (other ≡ slot) × (n ≡ number)
unfolding claimed_slot claimed_number
one-name past ticket slot number other n it also =
    let same = sym also.there ∙ it.there in
    (ap claimed_slot same, ap claimed_number same)

found-names : (past : List Entry) (m : Machine) (ticket : ℕ) (f : Found) → found past m ticket ≡ Some f →
    NamesClaim past ticket f.slot f.number
unfolding found
found-names past m ticket f h =
    let it = after-some (found_by m ticket) (slice_get past ticket) f h in
    by it.value it.was it.gives
  where
    by : (entry : Entry) → slice_get past ticket ≡ Some entry → found_by m ticket entry ≡ Some f →
        NamesClaim past ticket f.slot f.number
    by (Claim slot number clone worker) was gives =
        let b = after-some _ (busy_at m slot) f gives in
        let c = after-some _ (claim_at b.value number) f b.gives in
        let w = when-some _ _ f c.gives in
        record {
          clone = clone;
          worker = worker;
          there = was ∙ ap (λ (x : Found). Some (Claim x.slot x.number clone worker)) w.is;
        }
    by (Admit slot place) was gives = absurd (none-some f gives)
    by (Done other outcome) was gives = absurd (none-some f gives)
    by (Back other) was gives = absurd (none-some f gives)
    by (Retire slot) was gives = absurd (none-some f gives)
    by Last was gives = absurd (none-some f gives)

out-names : (past : List Entry) (m : Machine) (slot number : ℕ) (c : Outstanding) → HaveEntries past m →
    IsOutAt m slot number c → NamesClaim past c.ticket slot number
out-names past m slot number c all out =
    let it = all slot out.0 number c out.1 out.2 in
    record { clone = c.clone; worker = it.worker; there = it.there }

-- a claim that was found and whose place is emptied isn't outstanding any more
gone : (past : List Entry) (m : Machine) (ticket : ℕ) (f : Found) (new : Busy) → HaveEntries past m →
    found past m ticket ≡ Some f → new.claims ≡ set f.busy.claims f.number None → (slot number : ℕ)
    (c : Outstanding) → IsOutAt (with_slot m f.slot (Some new)) slot number c → c.ticket ≡ ticket → ⊥
gone past m ticket f new all h claims slot number c out same =
    let it = found-is past m ticket f h in
    let before = fewer-claims m f.slot f.busy new f.number it.busy claims slot number c out in
    let named = subst (λ (t : ℕ). NamesClaim past t slot number) same (out-names past m slot number c all before) in
    let one = one-name past ticket f.slot f.number slot number (found-names past m ticket f h) named in
    let here : Some new ≡ Some out.0 = sym (busy-same m f.slot (Some new) (busy-within m f.slot f.busy it.busy))
    ∙ (ap (busy_at (with_slot m f.slot (Some new))) (sym one.0) ∙ out.1) in
    let mine : claim_at new number ≡ Some c =
    ap (λ (x : Busy). claim_at x number) (same_Some new out.0 here) ∙ out.2 in
    none-some c (sym (emptied f.busy.claims f.number number (sym one.1))
    ∙ (ap (λ (cs : List (Option Outstanding)). option_flatten (slice_get cs number)) (sym claims) ∙ mine))

pub done-gone : (job : Job) (records : List EventRecord) (past : List Entry) (m next : Machine) (ticket : ℕ)
    (outcome : Outcome) → HaveEntries past m → step job records past m (Done ticket outcome) ≡ Some next →
    (slot number : ℕ) (c : Outstanding) → IsOutAt next slot number c → c.ticket ≡ ticket → ⊥
unfolding step completed
done-gone job records past m next ticket outcome all h slot number c out same =
    let f = after-some _ (found past m ticket) next h in
    let a = after-some _ (slice_get job.algorithms f.value.number) next f.gives in
    let w = when-some _ _ next a.gives in
    let new : Busy = completed f.value.busy f.value.number a.value (execution a.value f.value.claim.inputs) in
    gone past m ticket f.value new all f.was refl slot number c
    (subst (λ (x : Machine). IsOutAt x slot number c) (sym w.is) out) same

pub back-gone : (job : Job) (records : List EventRecord) (past : List Entry) (m next : Machine) (ticket : ℕ) →
    HaveEntries past m → step job records past m (Back ticket) ≡ Some next →
    (slot number : ℕ) (c : Outstanding) → IsOutAt next slot number c → c.ticket ≡ ticket → ⊥
unfolding step
back-gone job records past m next ticket all h slot number c out same =
    let f = after-some _ (found past m ticket) next h in
    let new : Busy = record f.value.busy { claims = set f.value.busy.claims f.value.number None } in
    gone past m ticket f.value new all f.was refl slot number c
    (subst (λ (x : Machine). IsOutAt x slot number c) (sym (same_Some (putting_back m f.value) next f.gives)) out) same

-- what is outstanding with the ticket of work that was handed out is that work's claim
pub handed-out : (past : List Entry) (m : Machine) (slot : ℕ) (v : Work) → HaveEntries past m →
    IsOutIn m slot v.ticket v.algorithm v.clone v.inputs →
    (other n : ℕ) (c : Outstanding) → IsOutAt m other n c → c.ticket ≡ v.ticket → IsWorkFor v n c
handed-out past m slot v all it other n c out same =
    let own = out-names past m slot v.algorithm (record { ticket = v.ticket; clone = v.clone; inputs = v.inputs }) all
    (it.busy, it.there, it.claim) in
    let named = subst (λ (t : ℕ). NamesClaim past t other n) same (out-names past m other n c all out) in
    let one = one-name past v.ticket slot v.algorithm other n own named in
    let busy : out.0 ≡ it.busy = same_Some out.0 it.busy (sym out.1 ∙ (ap (busy_at m) one.0 ∙ it.there)) in
    let is : c ≡ record { ticket = v.ticket; clone = v.clone; inputs = v.inputs } = same_Some c _
    (sym out.2 ∙ (ap (λ (b : Busy). claim_at b n) busy ∙ (ap (claim_at it.busy) one.1 ∙ it.claim))) in
    record {
      ticket = sym same;
      algorithm = sym one.1;
      clone = sym (ap (λ (x : Outstanding). x.clone) is);
      inputs = sym (ap (λ (x : Outstanding). x.inputs) is);
    }
