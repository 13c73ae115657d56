-- What is written of the records that were read: the report of each by itself, and the last line where the input ended.
use Rattle.std.specs.Prelude.{◌≡◌, ◌⊎◌, ℕ, Bool, List, ◌++◌, map, Option, Some, None}
use Rattle.std.specs.Io.KnownBytes.{Appends}
use Rattle.std.specs.Option.{option_map_or}
use Rattle.hive_model.specs.Event.{event_result}
use Rattle.hive_model.specs.EventRecord.{EventRecord}
use Rattle.hive_model.specs.EventResult.{EventResult}
use Rattle.hive_model.specs.Job.{Job}
use Rattle.text_model.specs.Records.{Known, records_of, so_far}
use Rattle.text_model.specs.Whole.{Ending, ReadToEnd, RefusedAt, SourceFailed, reports, whole}

-- those of each record by itself
abbrev pub results : Job → List EventRecord → List EventResult
results job records = map (event_result job) records

abbrev pub written : Job → Bool → List EventRecord → Option Ending → List ℕ
written job brief given None = reports job brief (results job given)
written job brief given (Some last) = whole job (results job given) last brief

-- a prefix of the text was appended
pub record AppendsPrefix (old new : Option (List ℕ)) (text : List ℕ) : Type 0 where
  pub front : List ℕ
  pub back : List ℕ
  pub whole : text ≡ front ++ back
  pub bytes : Appends old new front

-- the whole text of what is known, which ends so where no line was refused
abbrev pub text_of : Job → Bool → Ending → Known → List ℕ
text_of job brief last known = whole job (results job known.records) (option_map_or RefusedAt known.refusal last) brief

-- the bytes are all that the source holds
abbrev pub IsWhole : Option (List ℕ) → List ℕ → Type 0
IsWhole None text = Unit {0}
IsWhole (Some all) text = all ≡ text

-- the bytes are a prefix of what the source holds
abbrev pub CanCome : Option (List ℕ) → List ℕ → Type 0
CanCome None text = Unit {0}
CanCome (Some all) text = (more : List ℕ) × (all ≡ text ++ more)

-- the whole text where the input is read to its end or to a refused line
abbrev pub IsEndText : Job → Bool → Option (List ℕ) → List ℕ → Type 0
IsEndText job brief rest out = (text : List ℕ) × IsWhole rest text × (out ≡ text_of job brief ReadToEnd (records_of job text))

-- the whole text where the source fails after some bytes
abbrev pub IsFailText : Job → Bool → Option (List ℕ) → List ℕ → Type 0
IsFailText job brief rest out = (text : List ℕ) × CanCome rest text × (out ≡ text_of job brief SourceFailed (so_far job text))

-- a text that may come to be written
abbrev pub MayWrite : Job → Bool → Option (List ℕ) → List ℕ → Type 0
MayWrite job brief rest out = IsEndText job brief rest out ⊎ IsFailText job brief rest out
