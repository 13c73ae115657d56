-- A claim of an event in its slot: what it needs, and what stays tied after it.
use Rattle.std.proofs.Common.{◌≡◌, ◌⊎◌, inl, inr, ℕ, ◌+◌, ◌<◌, ◌≤◌, Bool, true, false, not, ◌&&◌, is_some, List, length, map, set, get_or, slice_get, Option, Some, None, refl, sym, ap, subst, ◌∙◌, arith}
use Rattle.std.proofs.lemmas.Bool.{and_from, and_parts, cases_lt}
use Rattle.std.proofs.lemmas.List.{length-map, length-set}
use Rattle.std.proofs.lemmas.Option.{get_or_from_slice_get, slice_get-map, slice_get_read}
use Rattle.std.specs.Arc.{arc_value}
use Rattle.std.specs.Option.{option_map}
use Rattle.std.specs.declared.alloc.Global.{Global}
use Rattle.std.specs.declared.sync.Arc.{Arc}
use Rattle.clone_pools.specs.Loans.{Pools, can_lend}
use Rattle.event_flow.specs.Events.{IsFlowFor, bare}
use Rattle.event_flow.specs.Flow.{Flow, claim_in}
use Rattle.event_flow.specs.Steps.{with_claim}
use Rattle.event_laws.proofs.Executions.{all_at}
use Rattle.event_laws.proofs.Validity.{valid-performs}
use Rattle.expr_code.specs.Claim.{Claim, claim_of}
use Rattle.hive_model.specs.Algorithm.{Algorithm}
use Rattle.hive_model.specs.Enabled.{inputs_in, is_enabled}
use Rattle.hive_model.specs.Job.{Job}
use Rattle.hive_model.specs.Lending.{has_units, is_free}
use Rattle.hive_model.specs.Machine.{Busy, Outstanding, claim_at}
use Rattle.hive_model.specs.Results.{outcomes}
use Rattle.hive_model.specs.Runnable.{CanPerform}
use Rattle.hive_model.specs.Step.{can_claim, claimed}
use Rattle.hive_model.specs.Valid.{IsValidJob}
use Rattle.hive_model.specs.declared.lent.Lent.{Lent as Loan}
use Rattle.hive_model.specs.declared.product.Product.{Product}
use Rattle.loan_laws.proofs.OneClaim.{pools-after-lend}
use Rattle.loan_laws.proofs.WhatIsLent.{lent-may-be, one-may-be-lent}
use Rattle.loan_laws.specs.Loans.{ArePoolsOf}
use Rattle.event_slots.specs.Attempts.{AreRefused, IsBorrowed}
use Rattle.event_slots.specs.Claiming.{IsTaken, OneMayBeClaimed, may_claim}
use Rattle.event_slots.specs.Slots.{AreSlotsOf, IsSeatOf, Seat, Slots, busy_in}
use Rattle.event_flow.proofs.Agreeing.{claim-same}
use Rattle.event_flow.proofs.Following.{claim-of_job, claimed-follows}
use Rattle.event_slots.proofs.Found.{HasEvent, event-there, holds-of}
use Rattle.event_slots.proofs.Ties.{board-kept, event-changed}

-- the flow of a job has as many algorithms
pub needs-length : (job : Job) (f : Flow) → IsFlowFor job f → length f.needs ≡ length job.algorithms
needs-length job f of_job = ap length of_job.needs_are ∙ length-map job.algorithms (λ (a : Algorithm).
    a.inputs)

no-claim : (o : Option Outstanding) → not (is_some o) ≡ true → o ≡ None
no-claim None e = refl
no-claim (Some c) e = absurd (cc)

unclaimed : (job : Job) (b : Busy) (number : ℕ) → can_claim job b number ≡ true → claim_at b number ≡ None
unfolding can_claim
unclaimed job b number can =
    no-claim (claim_at b number)
    (and_parts (is_enabled job (outcomes b.ran) b.store number) (not (is_some (claim_at b number))) can).1

pub claim-fits : (job : Job) (slots : List (Option Busy)) (it : Slots) (slot : ℕ) (b : Busy) (number : ℕ) →
    (has : HasEvent job slots it slot b) → number < length job.algorithms → can_claim job b number ≡ true →
    (number < length has.seat.flow.needs) × (claim_in has.seat.flow number ≡ None)
claim-fits job slots it slot b number has within can = (
  omega (arith, needs-length job has.seat.flow has.of_job),
  ap (λ f. claim_in f number) has.flow ∙ claim-same job b number
      ∙ ap (option_map bare) (unclaimed job b number can),
)

seat-claimed : (job : Job) (b : Busy) (seat : Seat) (number : ℕ) (a : Algorithm) (ticket : ℕ)
    (clone : Option ℕ) →
    IsSeatOf job (Some b) seat →
    IsSeatOf job (Some (claimed b number a ticket clone))
    (record seat { flow = with_claim seat.flow number (record { ticket = ticket; clone = clone }) })
unfolding claimed
seat-claimed job b seat number a ticket clone is = (
  is.0,
  ap (λ (f : Flow). with_claim f number (record { ticket = ticket; clone = clone })) is.1
      ∙ sym (claimed-follows job b number a ticket clone),
  record { ran = is.2.ran; store = is.2.store; claims = length-set b.claims number _ ∙ is.2.claims },
  claim-of_job job seat.flow number (record { ticket = ticket; clone = clone }) is.3,
)

same-store : (b : Busy) (number : ℕ) (a : Algorithm) (ticket : ℕ) (clone : Option ℕ) →
    (claimed b number a ticket clone).store ≡ b.store
unfolding claimed
same-store b number a ticket clone = refl

pub claim-tied : (job : Job) (slots : List (Option Busy)) (old : Slots) (slot : ℕ) (b : Busy) (number : ℕ)
    (a : Algorithm)
    (ticket : ℕ) (clone : Option ℕ) (seat : Seat) (later : List Seat) (pools : Pools) →
    AreSlotsOf job slots old → busy_in slots slot ≡ Some b → slice_get old.seats slot ≡ Some seat →
    later ≡ set old.seats slot (record seat {
      flow = with_claim seat.flow number (record {
        ticket = ticket;
        clone = clone;
      });
    }) →
    ArePoolsOf job (set slots slot (Some (claimed b number a ticket clone))) pools →
    AreSlotsOf job (set slots slot (Some (claimed b number a ticket clone)))
    (record { bodies = old.bodies; seats = later; board = old.board; pools = pools; order = old.order })
claim-tied job slots old slot b number a ticket clone seat later pools are busy at sits lends =
    let it = event-there job slots old slot b are busy in
    let next = claimed b number a ticket clone in
    event-changed job slots old slot b next _ later old.board pools are busy
    (seat-claimed job b seat number a ticket clone (are.seats slot (Some b) seat it.there at)) sits
    (are.board ∙ board-kept job slots slot b next it.there (same-store b number a ticket clone)) lends

-- the answers

pub is-taken : (job : Job) (slots : List (Option Busy)) (slot ticket place number : ℕ) (b : Busy)
    (a body : Algorithm) (lent : Loan)
    (v : Claim) (new : Slots) →
    busy_in slots slot ≡ Some b → slice_get job.algorithms number ≡ Some a → v ≡ claim_of ticket place body
    lent →
    place ≡ b.place → body ≡ a → lent.algorithm ≡ number → lent.scratch.inputs ≡ inputs_in b.store a.inputs →
    may_claim job slots b number a lent.clone ≡ true →
    AreSlotsOf job (set slots slot (Some (claimed b number a ticket lent.clone))) new →
    IsTaken job slots ticket slot v new
is-taken job slots slot ticket place number b a body lent v new busy of_job is at same named inputs may tied =
    subst (λ (w : Claim). IsTaken job slots ticket slot w new) (sym is)
    (holds-of (busy_in slots slot) _ b busy
    (holds-of (slice_get job.algorithms lent.algorithm) _ a (ap (slice_get job.algorithms) named ∙ of_job) (
      ap (λ n. may_claim job slots b n a lent.clone) named ∙ may,
      filled ticket place b.place lent.algorithm lent.clone body a lent.scratch.inputs (inputs_in b.store
          a.inputs) at same inputs,
      subst (λ n. AreSlotsOf job (set slots slot (Some (claimed b n a ticket lent.clone))) new) (sym named)
          tied,
    )))
  where
    filled : (t p q n : ℕ) (c : Option ℕ) (x y : Algorithm) (i j : List Product) → p ≡ q → x ≡ y → i ≡ j →
        ◌≡◌ {A = Claim} (record { ticket = t; place = p; algorithm = n; clone = c; body = x; inputs = i })
        (record { ticket = t; place = q; algorithm = n; clone = c; body = y; inputs = j })
    filled t p q n c x y i j e f g = cc

pub may-be-claimed : (job : Job) (slots : List (Option Busy)) (it new : Pools) (number place : ℕ) (b : Busy)
    (a : Algorithm)
    (store : List (Option Product)) (lent : Loan) → ArePoolsOf job slots it → slice_get job.algorithms number
    ≡ Some a →
    can_claim job b number ≡ true → IsBorrowed it store a number place lent new →
    may_claim job slots b number a lent.clone ≡ true
may-be-claimed job slots it new number place b a store lent pools of_job can is =
    and_from (can_claim job b number) _ can
    (ap (λ (c : Option ℕ). is_free slots number a c && has_units job slots a) (sym is.same)
    ∙ lent-may-be job slots it new number place a is.loan pools of_job is.lends)

pub pools-claimed : (job : Job) (slots : List (Option Busy)) (it new : Pools) (slot number place ticket : ℕ)
    (b : Busy)
    (a : Algorithm) (store : List (Option Product)) (lent : Loan) → ArePoolsOf job slots it →
    slice_get slots slot ≡ Some (Some b) → slice_get job.algorithms number ≡ Some a → can_claim job b number
    ≡ true →
    number < length b.claims → IsBorrowed it store a number place lent new →
    ArePoolsOf job (set slots slot (Some (claimed b number a ticket lent.clone))) new
pools-claimed job slots it new slot number place ticket b a store lent pools there of_job can within is =
    subst (λ (c : Option ℕ). ArePoolsOf job (set slots slot (Some (claimed b number a ticket c))) new) is.same
    (pools-after-lend job slots it new slot number b a is.loan ticket place pools there of_job
    (unclaimed job b number can) within is.lends)

pub one-may-be-claimed : (job : Job) (slots : List (Option Busy)) (it : Pools) (slot number : ℕ) (b : Busy)
    (a : Algorithm) →
    ArePoolsOf job slots it → busy_in slots slot ≡ Some b → slice_get job.algorithms number ≡ Some a →
    can_claim job b number ≡ true → can_lend it number ≡ true → OneMayBeClaimed job slots
one-may-be-claimed job slots it slot number b a pools busy of_job can lends =
    let one = one-may-be-lent job slots it number a pools of_job lends in
    record {
      slot = slot;
      busy = b;
      there = busy;
      number = number;
      algorithm = a;
      of_job = of_job;
      clone = one.0;
      may = and_from (can_claim job b number) _ can one.1;
    }

-- the shared algorithms are the job's

pub body-of_job : (bodies : List (Arc Algorithm Global)) (algorithms : List Algorithm) (i number : ℕ)
    (body : Arc Algorithm Global) →
    map arc_value bodies ≡ algorithms → i ≡ number → number < length algorithms → body ≡ get_or bodies i body
    →
    slice_get algorithms number ≡ Some (arc_value body)
body-of_job bodies algorithms i number body same at within here =
    let long : i < length bodies = omega (
      arith,
      ap length same,
      length-map bodies (arc_value {X = Algorithm}
          {Z = Global}),
    ) in
    ap (λ (them : List Algorithm). slice_get them number) (sym same)
    ∙ ap (slice_get (map arc_value bodies)) (sym at)
    ∙ slice_get-map arc_value bodies i
    ∙ ap (option_map arc_value) (slice_get_read bodies (length bodies) i body refl long here)

pub performs : (job : Job) (number : ℕ) (a body : Algorithm) → IsValidJob job →
    number < length job.algorithms →
    slice_get job.algorithms number ≡ Some a → body ≡ a → CanPerform body
performs job number a body valid within at same =
    subst CanPerform (sym same)
    (all_at CanPerform job.algorithms number a (valid-performs job valid) within
    (sym (get_or_from_slice_get job.algorithms number a a at)))

-- what is refused

not-both : (x y : Bool) → (x ≡ false) ⊎ (y ≡ false) → (x && y) ≡ false
not-both false y h = refl
not-both true y (inl e) = absurd (cc)
not-both true y (inr e) = e

pub more-refused : (job : Job) (slots : List (Option Busy)) (slot from number : ℕ) →
    AreRefused job slots slot from →
    ((b : Busy) (n : ℕ) → busy_in slots slot ≡ Some b → from ≤ n → n < number → can_claim job b n ≡ false) →
    ((a : Algorithm) (clone : Option ℕ) → slice_get job.algorithms number ≡ Some a →
    (is_free slots number a clone && has_units job slots a) ≡ false) →
    AreRefused job slots slot (number + 1)
more-refused job slots slot from number before between here b a n clone busy below at =
    elim (cases_lt n from) [
      | inl low ↦ before b a n clone busy low at
      | inr high ↦
          elim (cases_lt n number) [
            | inl less ↦ not-both (can_claim job b n) _ (inl (between b n busy high less))
            | inr not_less ↦
                let same : number ≡ n = omega arith in
                subst (λ m. may_claim job slots b m a clone ≡ false) same
                (not-both (can_claim job b number) _ (inr (here a clone (ap (slice_get job.algorithms) same
                ∙ at))))
          ]
    ]
