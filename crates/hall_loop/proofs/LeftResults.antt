-- Results that are left are booked one by one: none that was given to the desk is outstanding afterwards.
use Rattle.std.proofs.Common.{◌≡◌, ℕ, List, [], ◌∷◌, ◌++◌, append-nil, append_assoc, length, set, slice_get, Some, None, inl, inr, refl, sym, ap, ◌∙◌, subst}
use Rattle.std.proofs.lemmas.Bool.{cases_eq}
use Rattle.std.proofs.lemmas.List.Elements.{All-head, All-nil, All-push, All-rest, All-same, All-weaker}
use Rattle.std.proofs.lemmas.Option.{none-some, same_Some}
use Rattle.std.specs.Option.{option_flatten}
use Rattle.std.specs.Prelude.{All}
use Rattle.core_laws.proofs.OwnEntries.{own-entries}
use Rattle.core_laws.proofs.Places.{emptied, flat-set_other}
use Rattle.core_laws.proofs.Steps.{busy-other, busy-same, busy-within}
use Rattle.event_loop.proofs.Entries.{DoneStep, done-step}
use Rattle.event_loop.proofs.Ran.{entered}
use Rattle.expr_code.specs.Claim.{Claim as Work, Done, IsOfJob}
use Rattle.hall_loop.proofs.Recalls.{enters-none, enters-one}
use Rattle.hall_loop.specs.Settled.{BooksAll, Enters}
use Rattle.hive_model.specs.Execution.{execution}
use Rattle.hive_model.specs.History.{DeskState}
use Rattle.hive_model.specs.Job.{Job}
use Rattle.hive_model.specs.Machine.{Busy, Machine, Outstanding, claim_at}
use Rattle.hive_model.specs.Replay.{replay}
use Rattle.hive_model.specs.Step.{busy_at, completed, with_slot}
use Rattle.hive_model.specs.declared.entry.Entry.TheVariants as entry
use Rattle.hive_workers.proofs.OlderClaims.{done-gone}
use Rattle.hive_workers.specs.Items.{is_done}
use Rattle.scheduler_core.proofs.Claims.{taken}
use Rattle.scheduler_core.proofs.Keeping.{in-state}
use Rattle.scheduler_core.specs.Says.{IsNotOut, IsOut, with_entry}
use Rattle.scheduler_core.specs.State.{InState, IsDesk}

-- one result more

left-over : (old : Busy) (number n : ℕ) (c : Outstanding) →
    option_flatten (slice_get (set old.claims number None) n) ≡ Some c → claim_at old n ≡ Some c
left-over old number n c h =
    elim (cases_eq n number) [
      | inl same ↦ absurd (none-some c (sym (emptied old.claims number n (sym same)) ∙ h))
      | inr other ↦ sym (flat-set_other old.claims number n None other) ∙ h
    ]

-- what is outstanding after it was so before
out-before : (job : Job) (m next : Machine) (w : Work) → DoneStep job m next → IsOut w next → IsOut w m
unfolding completed
out-before job m next w it now =
    let f = it.out in
    let new : Busy = completed f.busy f.number it.algorithm (execution it.algorithm f.claim.inputs) in
    let o = subst (IsOut w) (sym it.is) now in
    elim (cases_eq o.slot f.slot) [
      | inl same ↦
          let is : new ≡ o.out.busy = same_Some new o.out.busy
          (sym (busy-same m f.slot (Some new) (busy-within m f.slot f.busy it.out_is.busy))
          ∙ (ap (busy_at (with_slot m f.slot (Some new))) (sym same) ∙ o.out.there)) in
          record {
            slot = f.slot;
            out = record {
              busy = f.busy;
              there = it.out_is.busy;
              claim = left-over f.busy f.number w.algorithm _
                  (ap (λ (x : Busy). claim_at x w.algorithm) is ∙ o.out.claim);
            };
          }
      | inr differs ↦
          record {
            slot = o.slot;
            out = record {
              busy = o.out.busy;
              there = sym (busy-other m f.slot o.slot (Some new) differs) ∙ o.out.there;
              claim = o.out.claim;
            };
          }
    ]

abbrev books : DeskState → Done → DeskState → Type 0
books d v after = after ≡ with_entry d (entry.Done v.claim.ticket v.left.outcome)

stays-gone : (d after : DeskState) (v : Done) (w : Work) → books d v after → IsDesk after →
    InState d (IsNotOut w) → InState after (IsNotOut w)
stays-gone d after v w appended desk gone =
    let t = taken (replay d.job d.slots d.admitted d.journal) (IsNotOut w) gone in
    let e = entered d after t.value (entry.Done v.claim.ticket v.left.outcome) t.was appended desk in
    let s = done-step d.job d.admitted d.journal t.value e.next v.claim.ticket v.left.outcome e.steps in
    in-state after e.next (IsNotOut w) e.led (λ out. t.holds (out-before d.job t.value e.next w s out))

goes : (d after : DeskState) (v : Done) → books d v after → IsDesk d → IsDesk after →
    InState after (IsNotOut v.claim)
goes d after v appended was desk =
    let t = taken (replay d.job d.slots d.admitted d.journal) (λ m. m.admitted ≡ length d.admitted) was.legal in
    let e = entered d after t.value (entry.Done v.claim.ticket v.left.outcome) t.was appended desk in
    in-state after e.next (IsNotOut v.claim) e.led (λ out.
    done-gone d.job d.admitted d.journal t.value e.next v.claim.ticket v.left.outcome
    (own-entries d.job d.slots d.admitted d.journal t.value t.was) e.steps out.slot v.claim.algorithm
    (record { ticket = v.claim.ticket; clone = v.claim.clone; inputs = v.claim.inputs })
    (out.out.busy, out.out.there, out.out.claim) refl)

-- while they are booked

abbrev IsGone : DeskState → Done → Type 0
IsGone d v = InState d (IsNotOut v.claim)

abbrev OfJob : Job → Done → Type 0
OfJob job v = IsOfJob job v.claim

-- of all, these are still left
pub record IsBooking (first d : DeskState) (all left : List Done) : Type 0 where
  pub results : Enters is_done first d
  pub desk : IsDesk d
  pub of_job : All (OfJob first.job) left
  pub given : List Done
  pub parts : all ≡ given ++ left
  pub gone : All (IsGone d) given

pub booking-none : (d : DeskState) (all : List Done) → IsDesk d → All (OfJob d.job) all → IsBooking d d all all
booking-none d all desk of_job = record {
  results = enters-none is_done d;
  desk = desk;
  of_job = of_job;
  given = [];
  parts = refl;
  gone = All-nil (IsGone d);
}

pub booking-job : (first d : DeskState) (v : Done) (all left rest : List Done) → IsBooking first d all left →
    left ≡ v ∷ rest → IsOfJob d.job v.claim
booking-job first d v all left rest it next =
    subst (λ (j : Job). IsOfJob j v.claim) (sym (ap (λ (x : DeskState). x.job) it.results.appended))
    (All-head (OfJob first.job) v rest
    (All-same (OfJob first.job) (v ∷ rest) left (sym next) it.of_job))

one-given : (given left rest all : List Done) (v : Done) → all ≡ given ++ left → left ≡ v ∷ rest →
    all ≡ (given ++ v ∷ []) ++ rest
one-given given left rest all v parts next =
    parts ∙ (ap (λ (l : List Done). given ++ l) next ∙ sym (append_assoc given (v ∷ []) rest))

pub books-one : (first d after : DeskState) (v : Done) (all left rest : List Done) →
    IsBooking first d all left → left ≡ v ∷ rest → books d v after → IsDesk after → IsBooking first after all rest
books-one first d after v all left rest it next appended desk = record {
  results = enters-one is_done first d after (entry.Done v.claim.ticket v.left.outcome) it.results appended refl;
  desk = desk;
  of_job = All-rest (OfJob first.job) v rest left next it.of_job;
  given = it.given ++ v ∷ [];
  parts = one-given it.given left rest all v it.parts next;
  gone = All-push (IsGone after) it.given v
      (All-weaker (IsGone d) (IsGone after) (λ w was. stays-gone d after v w.claim appended desk was) it.given it.gone)
      (goes d after v appended it.desk desk);
}

pub drops-one : (first d after : DeskState) (v : Done) (all left rest : List Done) →
    IsBooking first d all left → left ≡ v ∷ rest → after ≡ d → IsGone d v → IsDesk after →
    IsBooking first after all rest
drops-one first d after v all left rest it next same none desk = record {
  results = subst (Enters is_done first) (sym same) it.results;
  desk = desk;
  of_job = All-rest (OfJob first.job) v rest left next it.of_job;
  given = it.given ++ v ∷ [];
  parts = one-given it.given left rest all v it.parts next;
  gone = subst (λ (x : DeskState). All (IsGone x) (it.given ++ v ∷ [])) (sym same)
      (All-push (IsGone d) it.given v it.gone none);
}

pub all-booked : (first d : DeskState) (all left : List Done) → IsBooking first d all left → left ≡ [] →
    BooksAll first all d
all-booked first d all left it none = record {
  results = it.results;
  none_out = All-same (IsGone d) all it.given
      (it.parts ∙ (ap (λ (l : List Done). it.given ++ l) none ∙ append-nil it.given)) it.gone;
}
