-- Longer journals and longer inputs.
use Rattle.std.proofs.Common.{◌≡◌, ℕ, ◌-◌, List, [], ◌∷◌, ◌++◌, slice_get, Option, Some, None, refl, sym, ap, ◌∙◌, append_assoc, append-nil}
use Rattle.std.proofs.lemmas.Option.{none-some, slice_get_within}
use Rattle.std.specs.Option.{option_and_then}
use Rattle.core_laws.proofs.Steps.{after-some}
use Rattle.hive_model.proofs.Lists.{slice_get-append_front}
use Rattle.hive_model.specs.EventRecord.{EventRecord}
use Rattle.hive_model.specs.Job.{Job}
use Rattle.hive_model.specs.Machine.{Busy, Machine, opening}
use Rattle.hive_model.specs.Replay.{replay, replay_from}
use Rattle.hive_model.specs.Step.{admitting, busy_at, retiring, step}
use Rattle.hive_model.specs.declared.entry.Entry.{Entry}
use Rattle.hive_model.specs.declared.entry.Entry.TheVariants.{Admit, Claim, Done, Back, Retire, Last}

-- a journal and one entry more

step-after : (job : Job) (records : List EventRecord) (past other : List Entry) (m : Machine)
    (entry : Entry) → past ≡ other →
    replay_from job records past m (entry ∷ []) ≡ step job records other m entry
unfolding replay_from
step-after job records past other m entry same =
    by (step job records past m entry) ∙ ap (λ (all : List Entry). step job records all m entry) same
  where
    by : (o : Option Machine) → option_and_then (λ (next : Machine). Some next) o ≡ o
    by None = refl
    by (Some next) = refl

more-from : (job : Job) (records : List EventRecord) (past : List Entry) (m : Machine) (journal : List Entry)
    (entry : Entry) →
    replay_from job records past m (journal ++ entry ∷ [])
    ≡ option_and_then (λ last. step job records (past ++ journal) last entry)
    (replay_from job records past m journal)
unfolding replay_from
more-from job records past m [] entry = step-after job records past (past ++ []) m entry
    (sym (append-nil past))
more-from job records past m (first ∷ journal) entry =
    by (step job records past m first) (λ next. more-from job records (past ++ first ∷ []) next journal entry)
  where
    by : (o : Option Machine) →
        ((next : Machine) → replay_from job records (past ++ first ∷ []) next (journal ++ entry ∷ [])
        ≡ option_and_then (λ last. step job records ((past ++ first ∷ []) ++ journal) last entry)
        (replay_from job records (past ++ first ∷ []) next journal)) →
        option_and_then (λ next. replay_from job records (past ++ first ∷ []) next (journal ++ entry ∷ [])) o
        ≡ option_and_then (λ last. step job records (past ++ first ∷ journal) last entry)
        (option_and_then (λ next. replay_from job records (past ++ first ∷ []) next journal) o)
    by None later = refl
    by (Some next) later =
        later next
        ∙ ap (λ (all : List Entry). option_and_then (λ last. step job records all last entry)
        (replay_from job records (past ++ first ∷ []) next journal)) (append_assoc past (first ∷ []) journal)

pub one-more-entry : (job : Job) (slots : ℕ) (records : List EventRecord) (journal : List Entry)
    (entry : Entry) →
    replay job slots records (journal ++ entry ∷ [])
    ≡ option_and_then (λ m. step job records journal m entry) (replay job slots records journal)
unfolding replay
one-more-entry job slots records journal entry = more-from job records [] (opening slots) journal entry

-- more records behind those that are there

still-there : (records more : List EventRecord) (n : ℕ) (event : EventRecord) →
    slice_get records n ≡ Some event →
    slice_get (records ++ more) n ≡ Some event
still-there records more n event there =
    slice_get-append_front records more n (slice_get_within records n event there) ∙ there

admit-more : (job : Job) (m next : Machine) (slot place : ℕ) (at : Option (Option Busy))
    (found later : Option EventRecord) →
    ((event : EventRecord) → found ≡ Some event → later ≡ Some event) →
    admitting job m slot place at found ≡ Some next →
    admitting job m slot place at later ≡ Some next
admit-more job m next slot place (Some None) (Some event) later stays h =
    ap (admitting job m slot place (Some None)) (stays event refl) ∙ h
admit-more job m next slot place (Some None) None later stays h = absurd (none-some next h)
admit-more job m next slot place (Some (Some b)) found later stays h = absurd (none-some next h)
admit-more job m next slot place None found later stays h = absurd (none-some next h)

step-more : (job : Job) (records more : List EventRecord) (past : List Entry) (m next : Machine)
    (entry : Entry) →
    step job records past m entry ≡ Some next → step job (records ++ more) past m entry ≡ Some next
unfolding step
step-more job records more past m next (Admit slot place) h =
    admit-more job m next slot place (slice_get m.slots slot) (slice_get records m.admitted)
    (slice_get (records ++ more) m.admitted)
    (still-there records more m.admitted) h
step-more job records more past m next (Claim slot number clone worker) h = h
step-more job records more past m next (Done ticket outcome) h = h
step-more job records more past m next (Back ticket) h = h
step-more job records more past m next (Retire slot) h =
    let b = after-some _ (busy_at m slot) next h in
    let e = after-some _ (slice_get records (b.value.place - 1)) next b.gives in
    ap (option_and_then (λ it. option_and_then (retiring job m slot it)
    (slice_get (records ++ more) (it.place - 1)))) b.was
    ∙ (ap (option_and_then (retiring job m slot b.value))
    (still-there records more (b.value.place - 1) e.value e.was) ∙ e.gives)
step-more job records more past m next Last h = h

replay_from-more : (job : Job) (records more : List EventRecord) (past : List Entry) (m last : Machine)
    (journal : List Entry) →
    replay_from job records past m journal ≡ Some last →
    replay_from job (records ++ more) past m journal ≡ Some last
unfolding replay_from
replay_from-more job records more past m last [] h = h
replay_from-more job records more past m last (entry ∷ journal) h =
    let it = after-some _ (step job records past m entry) last h in
    ap (option_and_then (λ next. replay_from job (records ++ more) (past ++ entry ∷ []) next journal))
    (step-more job records more past m it.value entry it.was)
    ∙ replay_from-more job records more (past ++ entry ∷ []) it.value last journal it.gives

pub more-records : (job : Job) (slots : ℕ) (records more : List EventRecord) (journal : List Entry)
    (m : Machine) →
    replay job slots records journal ≡ Some m → replay job slots (records ++ more) journal ≡ Some m
unfolding replay
more-records job slots records more journal m h =
    replay_from-more job records more [] (opening slots) m journal h
