-- What reading a timeline owes: the entries that the text means, or its refusal. That memory ran out alone
-- is free.
use Rattle.std.specs.Prelude.{◌≡◌, ◌≢◌, ℕ, List, Result, Ok, Err}
use Rattle.std.specs.List.{AllByRecursion}
use Rattle.hive_model.specs.Many.{Many}
use Rattle.hive_model.specs.declared.entry.Entry.{Entry}
use Rattle.text_model.specs.Timeline.{FitsFields, timeline}
use Rattle.text_model.specs.declared.timeline_refusal.TimelineRefusal.{TimelineRefusal}
use Rattle.text_model.specs.declared.timeline_refusal.TimelineRefusal.TheVariants.{NoMemory}

abbrev pub Reads : Result (Many Entry) TimelineRefusal → Result (List Entry) TimelineRefusal → Type 0
Reads (Ok entries) meaning = meaning ≡ Ok entries.items
Reads (Err refusal) meaning = refusal ≢ NoMemory → meaning ≡ Err refusal

-- the text is that of a journal
abbrev pub IsPrinted : List ℕ → List Entry → Type 0
IsPrinted text entries = (timeline entries ≡ text) × AllByRecursion FitsFields entries
