-- The entries of a timeline's text, or the first bad line with its first cause: no line feed, no word of an entry, a wrong number of
-- fields or a part that is no outcome or fault where one is asked, a number that isn't written so or doesn't fit its field. What is read is exactly
-- what `timeline` writes of entries whose fields fit.
use Rattle.std.specs.Prelude.{codes, ℕ, ◌+◌, ◌^◌, if◌then◌else◌, List, [], ◌∷◌, find, Option, Some, None, Result, Ok, Err}
use Rattle.hive_model.specs.Same.{same_text}
use Rattle.hive_model.specs.declared.entry.Entry.{Entry}
use Rattle.hive_model.specs.declared.entry.Entry.TheVariants.{Admit, Claim, Done, Back, Retire, Last}
use Rattle.hive_model.specs.declared.outcome.Fault.{Fault}
use Rattle.hive_model.specs.declared.outcome.Fault.TheVariants.{Overflow, DivZero, Empty, Index, TooLong}
use Rattle.hive_model.specs.declared.outcome.Outcome.{Outcome}
use Rattle.hive_model.specs.declared.outcome.Outcome.TheVariants.{Accepted, Rejected, Failed}
use Rattle.hive_model.specs.declared.outcome.Place.{Place}
use Rattle.hive_model.specs.declared.outcome.Place.TheVariants.{Output, Filter}
use Rattle.text_model.specs.Numerals.{canonical_below}
use Rattle.text_model.specs.Pieces.{cut}
use Rattle.text_model.specs.Report.{fault_word}
use Rattle.text_model.specs.Steps.{◌>>=◌, or_refuse, map_err}
use Rattle.text_model.specs.Timeline.{nothing}
use Rattle.text_model.specs.declared.bytes.TheConstants.{LINE_FEED, SPACE}
use Rattle.text_model.specs.declared.timeline_refusal.TimelineCause.{TimelineCause}
use Rattle.text_model.specs.declared.timeline_refusal.TimelineCause.TheVariants.{Word, Fields, Number, NoEnd}
use Rattle.text_model.specs.declared.timeline_refusal.TimelineRefusal.{TimelineRefusal}
use Rattle.text_model.specs.declared.timeline_refusal.TimelineRefusal.TheVariants.{Bad}

-- fields

-- a number of at most so many bits
abbrev pub number_of_bits : ℕ → List ℕ → Result ℕ TimelineCause
number_of_bits bits text = or_refuse Number (canonical_below (2 ^ bits) text)

abbrev pub clone_of : List ℕ → Result (Option ℕ) TimelineCause
clone_of text = if same_text text nothing then Ok None else (number_of_bits 8 text >>= λ clone. Ok (Some clone))

abbrev pub place_of : List ℕ → Result Place TimelineCause
place_of text = if same_text text nothing then Ok Filter else (number_of_bits 16 text >>= λ number. Ok (Output number))

abbrev pub faults : List Fault
faults = Overflow ∷ DivZero ∷ Empty ∷ Index ∷ TooLong ∷ []

abbrev pub fault_of : List ℕ → Result Fault TimelineCause
fault_of text = or_refuse Fields (find (λ fault. same_text (fault_word fault) text) faults)

-- the outcome of the fields behind a ticket
unfoldable pub outcome_of : List (List ℕ) → Result Outcome TimelineCause
outcome_of (word ∷ []) =
    if same_text word (codes "accepted") then Ok Accepted
    else (if same_text word (codes "rejected") then Ok Rejected else Err Fields)
outcome_of (word ∷ place ∷ fault ∷ []) =
    if same_text word (codes "failed") then (fault_of fault >>= λ why. place_of place >>= λ at. Ok (Failed at why)) else Err Fields
outcome_of fields = Err Fields

-- entries by their fields

unfoldable pub admit_of : List (List ℕ) → Result Entry TimelineCause
admit_of (slot ∷ place ∷ []) = number_of_bits 8 slot >>= λ s. number_of_bits 64 place >>= λ p. Ok (Admit s p)
admit_of fields = Err Fields

unfoldable pub claim_of : List (List ℕ) → Result Entry TimelineCause
claim_of (slot ∷ algorithm ∷ clone ∷ worker ∷ []) =
    number_of_bits 8 slot >>= λ s. number_of_bits 16 algorithm >>= λ a. clone_of clone >>= λ c. number_of_bits 8 worker >>= λ w.
    Ok (Claim s a c w)
claim_of fields = Err Fields

unfoldable pub done_of : List (List ℕ) → Result Entry TimelineCause
done_of [] = Err Fields
done_of (ticket ∷ fields) = outcome_of fields >>= λ outcome. number_of_bits 64 ticket >>= λ t. Ok (Done t outcome)

unfoldable pub back_of : List (List ℕ) → Result Entry TimelineCause
back_of (ticket ∷ []) = number_of_bits 64 ticket >>= λ t. Ok (Back t)
back_of fields = Err Fields

unfoldable pub retire_of : List (List ℕ) → Result Entry TimelineCause
retire_of (slot ∷ []) = number_of_bits 8 slot >>= λ s. Ok (Retire s)
retire_of fields = Err Fields

unfoldable pub last_of : List (List ℕ) → Result Entry TimelineCause
last_of [] = Ok Last
last_of (field ∷ fields) = Err Fields

-- lines

-- each word with what reads the fields behind it
abbrev pub Reader : Type 0
Reader = List ℕ × (List (List ℕ) → Result Entry TimelineCause)

abbrev pub readers : List Reader
readers =
    (codes "admit", admit_of) ∷ (codes "claim", claim_of) ∷ (codes "done", done_of) ∷ (codes "back", back_of)
    ∷ (codes "retire", retire_of) ∷ (codes "last", last_of) ∷ []

-- the entry of the parts between single spaces
unfoldable pub entry_of : List (List ℕ) → Result Entry TimelineCause
entry_of [] = Err Word
entry_of (word ∷ fields) = or_refuse Word (find (λ (it : Reader). same_text it.0 word) readers) >>= λ it. it.1 fields

-- the entries of the pieces between line feeds, the first of which is the line of that number
unfoldable pub entries_in : ℕ → List (List ℕ) → Result (List Entry) TimelineRefusal
entries_in number [] = Ok []
entries_in number ([] ∷ []) = Ok []
entries_in number ((b ∷ bs) ∷ []) = Err (Bad number NoEnd)
entries_in number (line ∷ next ∷ pieces) = do
  entry ← map_err (Bad number) (entry_of (cut SPACE line))
  entries ← entries_in (number + 1) (next ∷ pieces)
  Ok (entry ∷ entries)

unfoldable pub entries_of : List ℕ → Result (List Entry) TimelineRefusal
entries_of text = entries_in 1 (cut LINE_FEED text)
