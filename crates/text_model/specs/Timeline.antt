-- The text of a journal: a line for each entry, its word and its fields. Numbers are decimal, and `-` stands for no instance and for
-- the filter.
use Rattle.std.specs.Prelude.{codes, decimal, ℕ, ◌^◌, ◌<◌, List, [], ◌∷◌, flat_map, Option, Some, None}
use Rattle.hive_model.specs.declared.entry.Entry.{Entry}
use Rattle.hive_model.specs.declared.entry.Entry.TheVariants.{Admit, Claim, Done, Back, Retire, Last}
use Rattle.hive_model.specs.declared.outcome.Outcome.{Outcome}
use Rattle.hive_model.specs.declared.outcome.Outcome.TheVariants.{Accepted, Rejected, Failed}
use Rattle.hive_model.specs.declared.outcome.Place.{Place}
use Rattle.hive_model.specs.declared.outcome.Place.TheVariants.{Output, Filter}
use Rattle.text_model.specs.Report.{fault_word, line}
use Rattle.text_model.specs.declared.bytes.TheConstants.{MINUS}

abbrev pub nothing : List ℕ
nothing = MINUS ∷ []

abbrev pub clone_word : Option ℕ → List ℕ
clone_word None = nothing
clone_word (Some clone) = decimal clone

-- an output by its number in the algorithm, from 0
abbrev pub place_number : Place → List ℕ
place_number (Output number) = decimal number
place_number Filter = nothing

abbrev pub outcome_words : Outcome → List (List ℕ)
outcome_words Accepted = codes "accepted" ∷ []
outcome_words Rejected = codes "rejected" ∷ []
outcome_words (Failed place fault) = codes "failed" ∷ place_number place ∷ fault_word fault ∷ []

abbrev pub entry_words : Entry → List (List ℕ)
entry_words (Admit slot place) = codes "admit" ∷ decimal slot ∷ decimal place ∷ []
entry_words (Claim slot algorithm clone worker) =
    codes "claim" ∷ decimal slot ∷ decimal algorithm ∷ clone_word clone ∷ decimal worker ∷ []
entry_words (Done ticket outcome) = codes "done" ∷ decimal ticket ∷ outcome_words outcome
entry_words (Back ticket) = codes "back" ∷ decimal ticket ∷ []
entry_words (Retire slot) = codes "retire" ∷ decimal slot ∷ []
entry_words Last = codes "last" ∷ []

unfoldable pub entry_text : Entry → List ℕ
entry_text entry = line (entry_words entry)

unfoldable pub timeline : List Entry → List ℕ
timeline entries = flat_map entry_text entries

-- the fields of an entry fit their types

abbrev pub FitsClone : Option ℕ → Type 0
FitsClone None = Unit {0}
FitsClone (Some clone) = clone < 2 ^ 8

abbrev pub FitsOutcome : Outcome → Type 0
FitsOutcome Accepted = Unit {0}
FitsOutcome Rejected = Unit {0}
FitsOutcome (Failed (Output number) fault) = number < 2 ^ 16
FitsOutcome (Failed Filter fault) = Unit {0}

abbrev pub FitsFields : Entry → Type 0
FitsFields (Admit slot place) = (slot < 2 ^ 8) × (place < 2 ^ 64)
FitsFields (Claim slot algorithm clone worker) = (slot < 2 ^ 8) × (algorithm < 2 ^ 16) × FitsClone clone × (worker < 2 ^ 8)
FitsFields (Done ticket outcome) = (ticket < 2 ^ 64) × FitsOutcome outcome
FitsFields (Back ticket) = ticket < 2 ^ 64
FitsFields (Retire slot) = slot < 2 ^ 8
FitsFields Last = Unit {0}
