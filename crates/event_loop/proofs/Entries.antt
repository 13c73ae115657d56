-- What an entry found that came, and what it made of the state.
use Rattle.std.proofs.Common.{◌≡◌, ℕ, ◌+◌, ◌-◌, true, ◌&&◌, List, [], ◌∷◌, ◌++◌, length, slice_get, Option, Some, None, refl, ap, sym, ◌∙◌}
use Rattle.std.proofs.lemmas.Bool.{and_parts}
use Rattle.std.proofs.lemmas.Option.{none-some, same_Some}
use Rattle.std.specs.Option.{option_and_then}
use Rattle.core_laws.proofs.LongerJournals.{one-more-entry}
use Rattle.core_laws.proofs.Steps.{IsFound, after-some, found-is, when-some}
use Rattle.hive_model.specs.Algorithm.{Algorithm}
use Rattle.hive_model.specs.Event.{result_of}
use Rattle.hive_model.specs.EventRecord.{EventRecord}
use Rattle.hive_model.specs.Execution.{execution}
use Rattle.hive_model.specs.Job.{Job}
use Rattle.hive_model.specs.Lending.{has_units, is_free}
use Rattle.hive_model.specs.Machine.{Busy, Machine, begun}
use Rattle.hive_model.specs.Replay.{replay}
use Rattle.hive_model.specs.Step.{Found, admitting, busy_at, can_claim, claimed, claiming, completed, found, is_settled, putting_back, step, with_slot}
use Rattle.hive_model.specs.declared.entry.Entry.{Entry}
use Rattle.hive_model.specs.declared.entry.Entry.TheVariants as entry
use Rattle.hive_model.specs.declared.outcome.Outcome.{Outcome}

-- the step that led from one state of a journal to that with an entry more

pub stepped : (job : Job) (slots : ℕ) (records : List EventRecord) (journal : List Entry) (e : Entry)
    (m next : Machine) →
    replay job slots records journal ≡ Some m → replay job slots records (journal ++ e ∷ []) ≡ Some next →
    step job records journal m e ≡ Some next
stepped job slots records journal e m next led now =
    sym (ap (option_and_then (λ it. step job records journal it e)) led)
    ∙ (sym (one-more-entry job slots records journal e) ∙ now)

-- the entries one by one

pub record AdmitStep (job : Job) (m : Machine) (slot place : ℕ) (next : Machine) : Type 0 where
  pub event : EventRecord
  pub empty : slice_get m.slots slot ≡ Some None
  pub is : record (with_slot m slot (Some (begun job place event))) { admitted = m.admitted + 1 } ≡ next

pub admit-step : (job : Job) (records : List EventRecord) (past : List Entry) (m next : Machine)
    (slot place : ℕ) →
    step job records past m (entry.Admit slot place) ≡ Some next → AdmitStep job m slot place next
unfolding step
admit-step job records past m next slot place h = go (slice_get m.slots slot) (slice_get records m.admitted)
    refl h
  where
    go : (o : Option (Option Busy)) (p : Option EventRecord) → slice_get m.slots slot ≡ o →
        admitting job m slot place o p ≡ Some next → AdmitStep job m slot place next
    go (Some None) (Some event) e h = record { event = event; empty = e; is = (when-some _ _ next h).is }
    go (Some None) None e h = absurd (none-some next h)
    go (Some (Some b)) p e h = absurd (none-some next h)
    go None p e h = absurd (none-some next h)

pub record ClaimStep (job : Job) (past : List Entry) (m : Machine) (slot number : ℕ) (clone : Option ℕ)
    (next : Machine) :
    Type 0 where
  pub busy : Busy
  pub there : busy_at m slot ≡ Some busy
  pub algorithm : Algorithm
  pub of_job : slice_get job.algorithms number ≡ Some algorithm
  pub can : can_claim job busy number ≡ true
  pub is : with_slot m slot (Some (claimed busy number algorithm (length past) clone)) ≡ next

pub claim-step : (job : Job) (records : List EventRecord) (past : List Entry) (m next : Machine)
    (slot number : ℕ)
    (clone : Option ℕ) (worker : ℕ) →
    step job records past m (entry.Claim slot number clone worker) ≡ Some next →
    ClaimStep job past m slot number clone next
unfolding step
claim-step job records past m next slot number clone worker h =
    go (busy_at m slot) (slice_get job.algorithms number) refl refl h
  where
    go : (o : Option Busy) (p : Option Algorithm) → busy_at m slot ≡ o → slice_get job.algorithms number ≡ p →
        claiming job (length past) m slot number clone o p ≡ Some next →
        ClaimStep job past m slot number clone next
    go (Some b) (Some a) e f h =
        let w = when-some _ _ next h in
        record {
          busy = b;
          there = e;
          algorithm = a;
          of_job = f;
          can = (and_parts (can_claim job b number)
              (is_free m.slots number a clone && has_units job m.slots a) w.holds).0;
          is = w.is;
        }
    go (Some b) None e f h = absurd (none-some next h)
    go None p e f h = absurd (none-some next h)

pub record DoneStep (job : Job) (m : Machine) (next : Machine) : Type 0 where
  pub out : Found
  pub out_is : IsFound m out
  pub algorithm : Algorithm
  pub of_job : slice_get job.algorithms out.number ≡ Some algorithm
  pub is : with_slot m out.slot (Some (completed out.busy out.number algorithm
      (execution algorithm out.claim.inputs)))
      ≡ next

pub done-step : (job : Job) (records : List EventRecord) (past : List Entry) (m next : Machine) (ticket : ℕ)
    (outcome : Outcome) → step job records past m (entry.Done ticket outcome) ≡ Some next →
    DoneStep job m next
unfolding step
done-step job records past m next ticket outcome h =
    let f = after-some _ (found past m ticket) next h in
    let a = after-some _ (slice_get job.algorithms f.value.number) next f.gives in
    let w = when-some _ _ next a.gives in
    record {
      out = f.value;
      out_is = found-is past m ticket f.value f.was;
      algorithm = a.value;
      of_job = a.was;
      is = w.is;
    }

pub record BackStep (m : Machine) (next : Machine) : Type 0 where
  pub out : Found
  pub out_is : IsFound m out
  pub is : putting_back m out ≡ next

pub back-step : (job : Job) (records : List EventRecord) (past : List Entry) (m next : Machine) (ticket : ℕ) →
    step job records past m (entry.Back ticket) ≡ Some next → BackStep m next
unfolding step
back-step job records past m next ticket h =
    let f = after-some _ (found past m ticket) next h in
    record {
      out = f.value;
      out_is = found-is past m ticket f.value f.was;
      is = same_Some (putting_back m f.value) next f.gives;
    }

pub record RetireStep (job : Job) (records : List EventRecord) (m : Machine) (slot : ℕ) (next : Machine) :
    Type 0 where
  pub busy : Busy
  pub there : busy_at m slot ≡ Some busy
  pub event : EventRecord
  pub record_is : slice_get records (busy.place - 1) ≡ Some event
  pub settled : is_settled job busy ≡ true
  pub is : record (with_slot m slot None) {
    finished =
        m.finished ++ record { place = busy.place; result = result_of job event busy.ran } ∷ [];
  } ≡ next

pub retire-step : (job : Job) (records : List EventRecord) (past : List Entry) (m next : Machine) (slot : ℕ) →
    step job records past m (entry.Retire slot) ≡ Some next → RetireStep job records m slot next
unfolding step
retire-step job records past m next slot h =
    let b = after-some _ (busy_at m slot) next h in
    let e = after-some _ (slice_get records (b.value.place - 1)) next b.gives in
    let w = when-some _ _ next e.gives in
    record {
      busy = b.value;
      there = b.was;
      event = e.value;
      record_is = e.was;
      settled = w.holds;
      is = w.is;
    }

pub last-step : (job : Job) (records : List EventRecord) (past : List Entry) (m next : Machine) →
    step job records past m entry.Last ≡ Some next → record m { closed = true } ≡ next
unfolding step
last-step job records past m next h = (when-some _ _ next h).is
