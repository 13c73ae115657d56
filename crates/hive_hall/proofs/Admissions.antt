-- Each Admit of a run admits one record.
use Rattle.std.proofs.Common.{◌≡◌, ℕ, ◌+◌, ◌-◌, List, [], ◌∷◌, ◌++◌, length, slice_get, Option, Some, None, refl, sym, ap, arith}
use Rattle.std.proofs.lemmas.Option.{same_Some, none-some}
use Rattle.std.specs.Option.{IsSomeAnd}
use Rattle.core_laws.proofs.Steps.{after-some, when-some}
use Rattle.hive_model.specs.Algorithm.{Algorithm}
use Rattle.hive_model.specs.EventRecord.{EventRecord}
use Rattle.hive_model.specs.History.{DeskState, IsLegal}
use Rattle.hive_model.specs.Job.{Job}
use Rattle.hive_model.specs.Machine.{Busy, Machine, opening}
use Rattle.hive_model.specs.Replay.{replay, replay_from}
use Rattle.hive_model.specs.Step.{admitting, busy_at, claiming, found, putting_back, step}
use Rattle.hive_model.specs.declared.entry.Entry.{Entry}
use Rattle.hive_model.specs.declared.entry.Entry.TheVariants.{Admit, Claim, Done, Back, Retire, Last}
use Rattle.hive_hall.proofs.Items.{admissions, admit_of}

admits-one : (job : Job) (m next : Machine) (slot place : ℕ) (at : Option (Option Busy))
    (event : Option EventRecord) → admitting job m slot place at event ≡ Some next →
    next.admitted ≡ 1 + m.admitted
admits-one job m next slot place (Some None) (Some event) h =
    let same = ap (λ (it : Machine). it.admitted) (sym (when-some _ _ next h).is) in
    omega arith
admits-one job m next slot place (Some None) None h = absurd (none-some next h)
admits-one job m next slot place (Some (Some b)) event h = absurd (none-some next h)
admits-one job m next slot place None event h = absurd (none-some next h)

claims-none : (job : Job) (ticket : ℕ) (m next : Machine) (slot number : ℕ) (clone : Option ℕ)
    (at : Option Busy) (of : Option Algorithm) →
    claiming job ticket m slot number clone at of ≡ Some next → next.admitted ≡ m.admitted
claims-none job ticket m next slot number clone (Some b) (Some a) h =
    ap (λ (it : Machine). it.admitted) (sym (when-some _ _ next h).is)
claims-none job ticket m next slot number clone (Some b) None h = absurd (none-some next h)
claims-none job ticket m next slot number clone None of h = absurd (none-some next h)

none-more : (m next : ℕ) → next ≡ m → next ≡ 0 + m
none-more m next same = omega arith

step-admits : (job : Job) (records : List EventRecord) (past : List Entry) (m next : Machine)
    (entry : Entry) → step job records past m entry ≡ Some next → next.admitted ≡ admit_of entry + m.admitted
unfolding step
step-admits job records past m next (Admit slot place) h =
    admits-one job m next slot place (slice_get m.slots slot) (slice_get records m.admitted) h
step-admits job records past m next (Claim slot number clone worker) h =
    none-more m.admitted next.admitted
    (claims-none job (length past) m next slot number clone (busy_at m slot)
    (slice_get job.algorithms number) h)
step-admits job records past m next (Done ticket outcome) h =
    let f = after-some _ (found past m ticket) next h in
    let a = after-some _ (slice_get job.algorithms f.value.number) next f.gives in
    none-more m.admitted next.admitted (ap (λ (it : Machine). it.admitted) (sym (when-some _ _ next a.gives).is))
step-admits job records past m next (Back ticket) h =
    let f = after-some _ (found past m ticket) next h in
    none-more m.admitted next.admitted
    (ap (λ (it : Machine). it.admitted) (sym (same_Some (putting_back m f.value) next f.gives)))
step-admits job records past m next (Retire slot) h =
    let b = after-some _ (busy_at m slot) next h in
    let e = after-some _ (slice_get records (b.value.place - 1)) next b.gives in
    none-more m.admitted next.admitted (ap (λ (it : Machine). it.admitted) (sym (when-some _ _ next e.gives).is))
step-admits job records past m next Last h =
    none-more m.admitted next.admitted (ap (λ (it : Machine). it.admitted) (sym (when-some _ _ next h).is))

admits-from : (job : Job) (records : List EventRecord) (past : List Entry) (m last : Machine)
    (journal : List Entry) → replay_from job records past m journal ≡ Some last →
    last.admitted ≡ admissions journal + m.admitted
unfolding replay_from
admits-from job records past m last [] h =
    none-more m.admitted last.admitted (ap (λ (it : Machine). it.admitted) (sym (same_Some m last h)))
admits-from job records past m last (entry ∷ journal) h =
    let next = after-some _ (step job records past m entry) last h in
    let rest = admits-from job records (past ++ entry ∷ []) next.value last journal next.gives in
    let first = step-admits job records past m next.value entry next.was in
    omega arith

-- the records of a run that admits all of them
pub all-admitted : (d : DeskState) → IsLegal d → admissions d.journal ≡ length d.admitted
unfolding replay
all-admitted d legal = go (replay d.job d.slots d.admitted d.journal) refl legal
  where
    go : (o : Option Machine) → replay d.job d.slots d.admitted d.journal ≡ o →
        IsSomeAnd o (λ m. m.admitted ≡ length d.admitted) → admissions d.journal ≡ length d.admitted
    go (Some m) led all =
        let count = admits-from d.job d.admitted [] (opening d.slots) m d.journal led in
        omega arith
    go None led none = absurd none
