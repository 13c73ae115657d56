-- The history of a shared scheduler: first the job and the number of slots, then each entry of the journal, an Admit with its
-- record, and a Stop, which stands there at most once. A participant has seen a prefix of it, and knows which items of that
-- prefix are its own.
use Rattle.std.specs.Prelude.{◌≡◌, ℕ, ◌-◌, ◌<◌, Bool, true, false, List, [], ◌∷◌, ◌++◌, length, take, drop, Option, Some, None, slice_get}
use Rattle.std.specs.List.{list_any, range_with_len}
use Rattle.hive_model.specs.EventRecord.{EventRecord}
use Rattle.hive_model.specs.Job.{Job}
use Rattle.hive_model.specs.Replay.{IsWholeRun}
use Rattle.hive_model.specs.declared.entry.Entry.{Entry}
use Rattle.hive_model.specs.declared.entry.Entry.TheVariants.{Admit}
use Rattle.hive_model.specs.declared.item.Item.{Item}
use Rattle.hive_model.specs.declared.item.Item.TheVariants.{Opening, Admitted, Entered, Stop}

-- a scheduler core as contracts see it: its job and slots, its journal, and the records that it admitted
pub record DeskState : Type 0 where
  pub job : Job
  pub slots : ℕ
  pub journal : List Entry
  pub admitted : List EventRecord

abbrev pub IsLegal : DeskState → Type 0
IsLegal d = IsWholeRun d.job d.slots d.admitted d.journal

-- what a history tells

abbrev pub entry_of : Item → List Entry
entry_of (Opening job slots) = []
entry_of (Admitted slot place event) = Admit slot place ∷ []
entry_of (Entered entry) = entry ∷ []
entry_of Stop = []

abbrev pub journal_of : List Item → List Entry
journal_of [] = []
journal_of (it ∷ items) = entry_of it ++ journal_of items

abbrev pub record_of : Item → List EventRecord
record_of (Opening job slots) = []
record_of (Admitted slot place event) = event ∷ []
record_of (Entered entry) = []
record_of Stop = []

abbrev pub records_of : List Item → List EventRecord
records_of [] = []
records_of (it ∷ items) = record_of it ++ records_of items

abbrev pub is_stop : Item → Bool
is_stop (Opening job slots) = false
is_stop (Admitted slot place event) = false
is_stop (Entered entry) = false
is_stop Stop = true

abbrev pub is_stopped : List Item → Bool
is_stopped items = list_any is_stop items

-- the history of a scheduler core

-- the entries, each Admit with the next record
abbrev pub items_of : List Entry → List EventRecord → List Item
items_of [] records = []
items_of (Admit slot place ∷ entries) (event ∷ records) = Admitted slot place event ∷ items_of entries records
items_of (e ∷ entries) records = Entered e ∷ items_of entries records

-- a Stop before the item of that number, from 0, or at the end where there are not so many
abbrev pub with_stop : Option ℕ → List Item → List Item
with_stop None items = items
with_stop (Some n) items = take n items ++ Stop ∷ drop n items

unfoldable pub history : DeskState → Option ℕ → List Item
history d stop = Opening d.job d.slots ∷ with_stop stop (items_of d.journal d.admitted)

-- the history is that of this scheduler core, whether a Stop stands in it or not
pub record Tells (items : List Item) (d : DeskState) : Type 0 where
  pub stop : Option ℕ
  pub told : items ≡ history d stop

-- participants

abbrev pub BeginsWith : {T : Type 0} → List T → List T → Type 0
BeginsWith {T} items front = (rest : List T) × (items ≡ front ++ rest)

-- the positions, from 0, of the items that the later history has beyond the earlier one
abbrev pub positions_added : {T : Type 0} → List T → List T → List ℕ
positions_added earlier later = range_with_len (length earlier) (length later - length earlier)

-- what a participant has seen, the positions of its own items in that, and the results that it queued and took from the queue
pub record Participant (R : Type 0) : Type 0 where
  pub seen : List Item
  pub own : List ℕ
  pub put : List R
  pub took : List R

-- at first it has seen what the scheduler core did before it was shared
abbrev pub newcomer : {R : Type 0} → DeskState → Participant R
newcomer d = record { seen = history d None; own = []; put = []; took = [] }

-- its own positions increase, and lie within what it has seen
pub record IsParticipant {R : Type 0} (p : Participant R) : Type 0 where
  pub increasing : (i j m n : ℕ) → i < j → slice_get p.own i ≡ Some m → slice_get p.own j ≡ Some n → m < n
  pub within : (i n : ℕ) → slice_get p.own i ≡ Some n → n < length p.seen
