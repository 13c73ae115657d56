-- The items of a history that a worker adds, and the tickets of the claims among them.
use Rattle.std.specs.Prelude.{ℕ, Bool, true, false, ◌||◌, List, length, take, slice_get}
use Rattle.std.specs.List.{count_by}
use Rattle.std.specs.Option.{option_map_or}
use Rattle.hive_model.specs.History.{journal_of}
use Rattle.hive_model.specs.declared.entry.Entry.{Entry}
use Rattle.hive_model.specs.declared.entry.Entry.TheVariants.{Admit, Claim, Done, Back, Retire, Last}
use Rattle.hive_model.specs.declared.item.Item.{Item}
use Rattle.hive_model.specs.declared.item.Item.TheVariants.{Opening, Admitted, Entered, Stop}

abbrev pub is_claim : Entry → Bool
is_claim (Admit slot place) = false
is_claim (Claim slot number clone worker) = true
is_claim (Done ticket outcome) = false
is_claim (Back ticket) = false
is_claim (Retire slot) = false
is_claim Last = false

abbrev pub is_done : Entry → Bool
is_done (Admit slot place) = false
is_done (Claim slot number clone worker) = false
is_done (Done ticket outcome) = true
is_done (Back ticket) = false
is_done (Retire slot) = false
is_done Last = false

abbrev pub is_back : Entry → Bool
is_back (Admit slot place) = false
is_back (Claim slot number clone worker) = false
is_back (Done ticket outcome) = false
is_back (Back ticket) = true
is_back (Retire slot) = false
is_back Last = false

abbrev pub is_work : Entry → Bool
is_work e = is_claim e || (is_done e || is_back e)

-- the item is an entry of this kind
abbrev pub enters : (Entry → Bool) → Item → Bool
enters kind (Opening job slots) = false
enters kind (Admitted slot place event) = false
enters kind (Entered e) = kind e
enters kind Stop = false

-- at that position, from 0, stands an entry of this kind
abbrev pub stands_at : (Entry → Bool) → List Item → ℕ → Bool
stands_at kind items position = option_map_or (enters kind) (slice_get items position) false

-- how many of the positions have one
abbrev pub count_at : (Entry → Bool) → List Item → List ℕ → ℕ
count_at kind items positions = count_by (stands_at kind items) positions

-- the ticket of a claim that stands at that position: how many entries of the journal stand before it
abbrev pub ticket_at : List Item → ℕ → ℕ
ticket_at items position = length (journal_of (take position items))
