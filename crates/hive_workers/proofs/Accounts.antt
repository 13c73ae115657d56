-- Claims that are accounted for stay so, as the history grows.
use Rattle.std.proofs.Common.{◌≡◌, ℕ, ◌<◌, Bool, true, false, cond, slice_get, List, [], ◌∷◌, ◌++◌, length, Option, Some, inl, inr, refl, sym, ap, ◌∙◌, subst, arith, append-nil}
use Rattle.std.proofs.lemmas.List.Elements.{All-contains, Contains-append_cases, Contains-append_left, All-head, All-nil, All-tail, All-cons}
use Rattle.std.proofs.lemmas.List.Sums.{count_by-le-length, sum_by-cons}
use Rattle.std.proofs.lemmas.Option.{none-some}
use Rattle.std.specs.List.{All, count_by}
use Rattle.core_laws.proofs.LongerJournals.{more-records, one-more-entry}
use Rattle.core_laws.proofs.OwnEntries.{own-entries}
use Rattle.core_laws.proofs.States.{nothing-there}
use Rattle.core_laws.proofs.Steps.{after-some}
use Rattle.core_laws.specs.Tickets.{HaveEntries}
use Rattle.expr_code.specs.Claim.{Claim as Work}
use Rattle.hive_hall.proofs.Items.{journal-parts, records-parts}
use Rattle.hive_hall.specs.Pass.{job_of, slots_of}
use Rattle.hive_hall.specs.declared.hall.Hall.{Hall}
use Rattle.hive_model.specs.EventRecord.{EventRecord}
use Rattle.hive_model.specs.History.{journal_of, records_of}
use Rattle.hive_model.specs.Job.{Job}
use Rattle.hive_model.specs.Machine.{Busy, Machine, Outstanding, claim_at, opening}
use Rattle.hive_model.specs.Replay.{replay, replay_from}
use Rattle.hive_model.specs.Step.{claiming, step}
use Rattle.hive_model.specs.declared.entry.Entry.{Entry}
use Rattle.hive_model.specs.declared.entry.Entry.TheVariants.{Admit, Claim, Done, Back, Retire, Last}
use Rattle.hive_model.specs.declared.item.Item.{Item}
use Rattle.hive_model.specs.declared.outcome.Outcome.{Outcome}
use Rattle.hive_model.specs.declared.product.Product.{Product}
use Rattle.hive_model.specs.declared.item.Item.TheVariants.{Entered}
use Rattle.scheduler_core.specs.Says.{IsNotOut}
use Rattle.hive_workers.proofs.OlderClaims.{back-gone, done-gone, older-claims}
use Rattle.hive_workers.proofs.Standing.{stands-front, ticket-front, ticket-within}
use Rattle.hive_workers.specs.Items.{is_claim, stands_at, ticket_at}
use Rattle.hive_workers.specs.Outstanding.{AreAccounted, IsAccounted, IsOutAt, IsWorkFor, state_after}

-- one ticket

-- a claim of a longer history that is older than that was outstanding in the shorter one
older-out : (hall : Hall) (items rest : List Item) (m last : Machine) (slot number : ℕ) (c : Outstanding) →
    state_after hall items ≡ Some m → state_after hall (items ++ rest) ≡ Some last → IsOutAt last slot number c →
    c.ticket < length (journal_of items) → IsOutAt m slot number c
older-out hall items rest m last slot number c before after out less =
    older-claims (job_of hall) (slots_of hall) (records_of items ++ records_of rest) (journal_of items)
    (journal_of rest)
    m last slot number c
    (more-records (job_of hall) (slots_of hall) (records_of items) (records_of rest) (journal_of items) m before)
    (ap (λ (rs : List EventRecord). replay (job_of hall) (slots_of hall) rs (journal_of items ++ journal_of rest))
    (sym (records-parts items rest))
    ∙ (ap (replay (job_of hall) (slots_of hall) (records_of (items ++ rest))) (sym (journal-parts items rest)) ∙ after))
    out less

later-account : (hall : Hall) (items rest : List Item) (m last : Machine) (works : List Work) (ticket : ℕ) →
    state_after hall items ≡ Some m → state_after hall (items ++ rest) ≡ Some last →
    ticket < length (journal_of items) → IsAccounted m works ticket → IsAccounted last works ticket
later-account hall items rest m last works ticket before after less it slot number c out same =
    it slot number c (older-out hall items rest m last slot number c before after out (omega arith)) same

-- all of them

pub later-accounts : (hall : Hall) (items rest : List Item) (m last : Machine) (positions : List ℕ)
    (works : List Work) → state_after hall items ≡ Some m → state_after hall (items ++ rest) ≡ Some last →
    All (λ n. n < length items) positions → AreAccounted items positions works m →
    AreAccounted (items ++ rest) positions works last
later-accounts hall items rest m last [] works before after within all =
    All-nil (λ (n : ℕ). stands_at is_claim (items ++ rest) n ≡ true →
    IsAccounted last works (ticket_at (items ++ rest) n))
later-accounts hall items rest m last (n ∷ positions) works before after within all =
    let less = All-head (λ (k : ℕ). k < length items) n positions within in
    let P : ℕ → Type 0 = λ k. stands_at is_claim items k ≡ true → IsAccounted m works (ticket_at items k) in
    All-cons (λ (k : ℕ). stands_at is_claim (items ++ rest) k ≡ true →
    IsAccounted last works (ticket_at (items ++ rest) k)) n positions (λ stands.
    let here : stands_at is_claim items n ≡ true = sym (stands-front is_claim items rest n less) ∙ stands in
    subst (IsAccounted last works) (sym (ticket-front items rest n (omega arith)))
    (later-account hall items rest m last works (ticket_at items n) before after (ticket-within items n here)
    (All-head P n positions all here)))
    (later-accounts hall items rest m last positions works before after
    (All-tail (λ (k : ℕ). k < length items) n positions within) (All-tail P n positions all))

-- more work than that accounts for them too
pub more-works : (items : List Item) (positions : List ℕ) (works more : List Work) (m : Machine) →
    AreAccounted items positions works m → AreAccounted items positions (works ++ more) m
more-works items positions works more m all k d within stands slot number c out same =
    let it = all k d within stands slot number c out same in
    (it.0, Contains-append_left works more it.0 it.1, it.2)

-- work whose claim isn't outstanding accounts for nothing
pub fewer-works : (items : List Item) (positions : List ℕ) (works : List Work) (v : Work) (m : Machine) →
    ((slot number : ℕ) (c : Outstanding) → IsOutAt m slot number c → IsWorkFor v number c → ⊥) →
    AreAccounted items positions (works ++ v ∷ []) m → AreAccounted items positions works m
fewer-works items positions works v m gone all k d within stands slot number c out same =
    let it = all k d within stands slot number c out same in
    elim (Contains-append_cases works (v ∷ []) it.0 it.1) [
      | inl among ↦ (it.0, among, it.2)
      | inr last ↦
          let P : Work → Type 0 = λ w. w ≡ v in
          let is : it.0 ≡ v = All-contains P (v ∷ []) it.0 (All-cons P v [] refl (All-nil P)) last in
          absurd (gone slot number c out (subst (λ (w : Work). IsWorkFor w number c) is it.2))
    ]

-- one entry more

pub record HasStepped (hall : Hall) (found : List Item) (e : Entry) (next : Machine) : Type 0 where
  pub before : Machine
  pub led : state_after hall found ≡ Some before
  pub entries : HaveEntries (journal_of found) before
  pub step_is : step (job_of hall) (records_of found) (journal_of found) before e ≡ Some next

pub has-stepped : (hall : Hall) (found : List Item) (e : Entry) (next : Machine) →
    state_after hall (found ++ Entered e ∷ []) ≡ Some next → HasStepped hall found e next
has-stepped hall found e next h =
    let job = job_of hall in
    let slots = slots_of hall in
    let records : records_of (found ++ Entered e ∷ []) ≡ records_of found =
    records-parts found (Entered e ∷ []) ∙ append-nil (records_of found) in
    let whole : replay job slots (records_of found) (journal_of found ++ e ∷ []) ≡ Some next =
    ap (replay job slots (records_of found)) (sym (journal-parts found (Entered e ∷ [])))
    ∙ (ap (λ (rs : List EventRecord). replay job slots rs (journal_of (found ++ Entered e ∷ []))) (sym records) ∙ h) in
    let it = after-some (λ (m : Machine). step job (records_of found) (journal_of found) m e)
    (replay job slots (records_of found) (journal_of found)) next
    (sym (one-more-entry job slots (records_of found) (journal_of found) e) ∙ whole) in
    record {
      before = it.value;
      led = it.was;
      entries = own-entries job slots (records_of found) (journal_of found) it.value it.was;
      step_is = it.gives;
    }

-- what was booked or put back isn't outstanding

pub booked-gone : (hall : Hall) (found : List Item) (v : Work) (outcome : Outcome) (next : Machine) →
    state_after hall (found ++ Entered (Done v.ticket outcome) ∷ []) ≡ Some next →
    (slot number : ℕ) (c : Outstanding) → IsOutAt next slot number c → IsWorkFor v number c → ⊥
booked-gone hall found v outcome next h slot number c out work =
    let it = has-stepped hall found (Done v.ticket outcome) next h in
    done-gone (job_of hall) (records_of found) (journal_of found) it.before next v.ticket outcome it.entries it.step_is
    slot number c out (sym work.ticket)

pub returned-gone : (hall : Hall) (found : List Item) (v : Work) (next : Machine) →
    state_after hall (found ++ Entered (Back v.ticket) ∷ []) ≡ Some next →
    (slot number : ℕ) (c : Outstanding) → IsOutAt next slot number c → IsWorkFor v number c → ⊥
returned-gone hall found v next h slot number c out work =
    let it = has-stepped hall found (Back v.ticket) next h in
    back-gone (job_of hall) (records_of found) (journal_of found) it.before next v.ticket it.entries it.step_is
    slot number c out (sym work.ticket)

pub refused-gone : (v : Work) (m : Machine) → IsNotOut v m →
    (slot number : ℕ) (c : Outstanding) → IsOutAt m slot number c → IsWorkFor v number c → ⊥
refused-gone v m not slot number c out work =
    let is : c ≡ record { ticket = v.ticket; clone = v.clone; inputs = v.inputs } =
    ap (λ (t : ℕ). record { ticket = t; clone = c.clone; inputs = c.inputs }) (sym work.ticket)
    ∙ (ap (λ (o : Option ℕ). record { ticket = v.ticket; clone = o; inputs = c.inputs }) (sym work.clone)
    ∙ ap (λ (l : List Product). record { ticket = v.ticket; clone = v.clone; inputs = l }) (sym work.inputs)) in
    not (record {
      slot = slot;
      out = record {
        busy = out.0;
        there = out.1;
        claim = ap (claim_at out.0) work.algorithm ∙ (out.2 ∙ ap Some is);
      };
    })

-- the first entry

first-is_none : (job : Job) (slots : ℕ) (records : List EventRecord) (e : Entry) (rest : List Entry) (m : Machine) →
    replay job slots records (e ∷ rest) ≡ Some m → is_claim e ≡ false
unfolding replay replay_from step
first-is_none job slots records (Claim slot number clone worker) rest m h =
    let it = after-some _ (step job records [] (opening slots) (Claim slot number clone worker)) m h in
    absurd (none-some it.value (sym (ap (λ (o : Option Busy). claiming job 0 (opening slots) slot number clone o
    (slice_get job.algorithms number)) (nothing-there slots slot)) ∙ it.was))
first-is_none job slots records (Admit slot place) rest m h = refl
first-is_none job slots records (Done ticket outcome) rest m h = refl
first-is_none job slots records (Back ticket) rest m h = refl
first-is_none job slots records (Retire slot) rest m h = refl
first-is_none job slots records Last rest m h = refl

-- not all entries of a run are claims
pub claims-are-fewer : (job : Job) (slots : ℕ) (records : List EventRecord) (journal : List Entry) (m : Machine) →
    replay job slots records journal ≡ Some m → 0 < length journal → count_by is_claim journal < length journal
claims-are-fewer job slots records [] m h some = absurd (omega arith)
claims-are-fewer job slots records (e ∷ rest) m h some =
    let f : Entry → ℕ = λ x. cond (is_claim x) 1 0 in
    let here : f e ≡ 0 = ap (λ (b : Bool). cond b 1 0) (first-is_none job slots records e rest m h) in
    let parts = sum_by-cons f e rest in
    let few = count_by-le-length is_claim rest in
    omega (arith, parts, here, few)
