-- The history of a scheduler core: what it tells, and how it grows.
use Rattle.std.proofs.Common.{◌≡◌, ℕ, suc, ◌+◌, ◌≤◌, is_some, List, [], ◌∷◌, ◌++◌, length, Option, Some, None, refl, sym, ap, ◌∙◌, subst, arith}
use mathlib.Core.List.{IsPrefix}
use Rattle.hive_model.specs.EventRecord.{EventRecord}
use Rattle.hive_model.specs.History.{DeskState, history, is_stopped, items_of, journal_of, records_of, with_stop}
use Rattle.hive_model.specs.Job.{Job}
use Rattle.hive_model.specs.declared.entry.Entry.{Entry}
use Rattle.hive_model.specs.declared.item.Item.{Item}
use Rattle.hive_model.specs.declared.item.Item.TheVariants.{Opening, Admitted, Entered, Stop}
use Rattle.scheduler_core.specs.Says.{admitted_to, with_entry}
use Rattle.scheduler_core.specs.State.{IsDesk}
use Rattle.hive_hall.specs.Legal.{IsHistoryOf, stops_in}
use Rattle.hive_hall.specs.Pass.{slots_in}
use Rattle.hive_hall.proofs.Admissions.{all-admitted}
use Rattle.hive_hall.proofs.Items.{StopsAt, admit_of, items-admitted, items-entered, items-journal, items-length, items-no_stop, items-records, stop-journal, stop-length, stop-more, stop-now, stop-records, stop-stopped}

-- what it tells

pub history-journal : (d : DeskState) (stop : Option ℕ) → journal_of (history d stop) ≡ d.journal
unfolding history
history-journal d stop = stop-journal stop (items_of d.journal d.admitted) ∙ items-journal d.journal d.admitted

pub history-records : (d : DeskState) (stop : Option ℕ) → IsDesk d → records_of (history d stop) ≡ d.admitted
unfolding history
history-records d stop desk =
    stop-records stop (items_of d.journal d.admitted)
    ∙ items-records d.journal d.admitted (all-admitted d desk.legal)

pub history-stopped : (d : DeskState) (stop : Option ℕ) → is_stopped (history d stop) ≡ is_some stop
unfolding history
history-stopped d stop = stop-stopped stop (items_of d.journal d.admitted) (items-no_stop d.journal d.admitted)

pub history-length : (d : DeskState) (stop : Option ℕ) →
    length (history d stop) ≡ length d.journal + 1 + stops_in stop
unfolding history
history-length d stop =
    let items = items-length d.journal d.admitted in
    let stopped = stop-length stop (items_of d.journal d.admitted) in
    ap (λ n. suc n) stopped ∙ omega arith

pub is-history : (job : Job) (slots : ℕ) (d : DeskState) (stop : Option ℕ) → d.job ≡ job → d.slots ≡ slots →
    IsDesk d → IsHistoryOf job slots (history d stop) d
is-history job slots d stop job_is slots_are desk = record {
  job = job_is;
  slots = slots_are;
  journal = sym (history-journal d stop);
  records = sym (history-records d stop desk);
  tells = record { stop = stop; told = refl };
  desk = desk;
}

-- how it grows

within-items : (d : DeskState) (stop : Option ℕ) → StopsAt stop (length d.journal) →
    StopsAt stop (length (items_of d.journal d.admitted))
within-items d stop within = subst (StopsAt stop) (sym (items-length d.journal d.admitted)) within

pub history-entered : (d : DeskState) (stop : Option ℕ) (e : Entry) → admit_of e ≡ 0 →
    StopsAt stop (length d.journal) → history (with_entry d e) stop ≡ history d stop ++ Entered e ∷ []
unfolding history
history-entered d stop e plain within =
    ap (λ l. Opening d.job d.slots ∷ l)
    (ap (with_stop stop) (items-entered d.journal d.admitted e plain)
    ∙ stop-more stop (items_of d.journal d.admitted) (Entered e ∷ []) (within-items d stop within))

pub history-admitted : (d : DeskState) (stop : Option ℕ) (slot : ℕ) (event : EventRecord) → IsDesk d →
    StopsAt stop (length d.journal) →
    history (admitted_to d slot event) stop
    ≡ history d stop ++ Admitted slot (length (records_of (history d stop)) + 1) event ∷ []
unfolding history
history-admitted d stop slot event desk within =
    let place : ℕ = length d.admitted + 1 in
    ap (λ l. Opening d.job d.slots ∷ l)
    (ap (with_stop stop) (items-admitted d.journal d.admitted slot place event (all-admitted d desk.legal))
    ∙ stop-more stop (items_of d.journal d.admitted) (Admitted slot place event ∷ []) (within-items d stop within))
    ∙ ap (λ r. history d stop ++ Admitted slot (length r + 1) event ∷ []) (sym (history-records d stop desk))

pub history-stop : (d : DeskState) → history d (Some (length d.journal)) ≡ history d None ++ Stop ∷ []
unfolding history
history-stop d =
    ap (λ l. Opening d.job d.slots ∷ l)
    (ap (λ n. with_stop (Some n) (items_of d.journal d.admitted)) (sym (items-length d.journal d.admitted))
    ∙ stop-now (items_of d.journal d.admitted))

-- two histories of which one begins with the other are of one job and as many slots

job_in : Job → List Item → Job
job_in default (Opening job slots ∷ items) = job
job_in default (Admitted slot place event ∷ items) = default
job_in default (Entered entry ∷ items) = default
job_in default (Stop ∷ items) = default
job_in default [] = default

pub record AreOfOneCore (job : Job) (slots : ℕ) (d : DeskState) : Type 0 where
  pub job_is : d.job ≡ job
  pub slots_are : d.slots ≡ slots

front-core : (d : DeskState) (stop : Option ℕ) (told : DeskState) (other : Option ℕ) (rest : List Item) →
    history told other ++ rest ≡ history d stop → AreOfOneCore told.job told.slots d
unfolding history job_in
front-core d stop told other rest same = record {
  job_is = sym (ap (job_in d.job) same);
  slots_are = sym (ap slots_in same);
}

pub one-core : (job : Job) (slots : ℕ) (items : List Item) (told d : DeskState) (stop : Option ℕ) →
    IsHistoryOf job slots items told → IsPrefix items (history d stop) → AreOfOneCore job slots d
one-core job slots items told d stop legal prefix =
    let same = ap (λ l. l ++ prefix.0) (sym legal.tells.told) ∙ prefix.1 in
    let it = front-core d stop told legal.tells.stop prefix.0 same in
    record {
      job_is = it.job_is ∙ legal.job;
      slots_are = it.slots_are ∙ legal.slots;
    }

pub stops-few : (stop : Option ℕ) → stops_in stop ≤ 1
stops-few None = omega arith
stops-few (Some n) = omega arith
