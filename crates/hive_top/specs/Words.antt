-- The written forms of the words:
--   run FILE [--workers N] [--slots N] [--timeline] [--brief]
--   check FILE
--   gen options
--   gen records START EVENTS
--   bulk START EVENTS [--workers N] [--slots N]
-- FILE isn't empty and doesn't begin with `--`. The options stand in this order, each at most once. A number is in decimal, with no
-- zero before other digits.
use Rattle.std.specs.Prelude.{codes, ℕ, ◌-◌, ◌^◌, ◌≤◌, nat_le, Bool, true, false, not, ◌&&◌, if◌then◌else◌, List, [], ◌∷◌, take, Option, Some, None}
use Rattle.std.specs.Option.{option_and_then, option_map}
use Rattle.hive_model.specs.Same.{same_text}
use Rattle.hive_model.specs.declared.limits.TheConstants.{MOST_SLOTS}
use Rattle.hall_loop.specs.declared.limits.TheConstants.{MOST_WORKERS}
use Rattle.text_model.specs.Numerals.{canonical_below}
use Rattle.text_model.specs.declared.limits.TheConstants.{MOST_EVENTS}
use Rattle.hive_top.specs.declared.commands.Command.{Command}
use Rattle.hive_top.specs.declared.commands.Command.TheVariants.{OnFile, Generate, Bulk}
use Rattle.hive_top.specs.declared.commands.Concurrency.{Concurrency}
use Rattle.hive_top.specs.declared.commands.Generated.TheVariants as generated
use Rattle.hive_top.specs.declared.commands.How.{How}
use Rattle.hive_top.specs.declared.commands.Input.{Input}
use Rattle.hive_top.specs.declared.commands.TheConstants.{DEFAULT_SLOTS, DEFAULT_WORKERS}
use Rattle.hive_top.specs.declared.commands.Verb.{Verb}
use Rattle.hive_top.specs.declared.commands.Verb.TheVariants.{Run, Check}

-- single words

abbrev pub is_empty : List ℕ → Bool
is_empty name = same_text name []

abbrev pub is_option : List ℕ → Bool
is_option name = same_text (take 2 name) (codes "--")

-- a word that can name a file
abbrev pub is_file : List ℕ → Bool
is_file name = not (is_empty name) && not (is_option name)

abbrev pub within : ℕ → ℕ → ℕ → Option ℕ
within low high n = if nat_le low n && nat_le n high then Some n else None

-- a number from the first bound to the second
unfoldable pub number_in : ℕ → ℕ → List ℕ → Option ℕ
number_in low high word = option_and_then (within low high) (canonical_below (2 ^ 64) word)

-- options, each with the words behind it

abbrev pub number_first : ℕ → ℕ → List (List ℕ) → Option (ℕ × List (List ℕ))
number_first low high [] = None
number_first low high (word ∷ words) = option_map (λ n. (n, words)) (number_in low high word)

-- an option of that name with its number, or its default
unfoldable pub option_first : List ℕ → ℕ → ℕ → ℕ → List (List ℕ) → Option (ℕ × List (List ℕ))
option_first name low high default [] = Some (default, [])
option_first name low high default (word ∷ words) =
    if same_text word name then number_first low high words else Some (default, word ∷ words)

abbrev pub workers_first : List (List ℕ) → Option (ℕ × List (List ℕ))
workers_first words = option_first (codes "--workers") 0 MOST_WORKERS DEFAULT_WORKERS words

abbrev pub slots_first : List (List ℕ) → Option (ℕ × List (List ℕ))
slots_first words = option_first (codes "--slots") 1 MOST_SLOTS DEFAULT_SLOTS words

abbrev pub with_slots : ℕ → Option (ℕ × List (List ℕ)) → Option (Concurrency × List (List ℕ))
with_slots workers slots = option_map (λ it. (record { workers = workers; slots = it.0 }, it.1)) slots

unfoldable pub concurrency_first : List (List ℕ) → Option (Concurrency × List (List ℕ))
concurrency_first words = option_and_then (λ it. with_slots it.0 (slots_first it.1)) (workers_first words)

-- whether a word stands first, and what stands behind it
unfoldable pub flag_first : List ℕ → List (List ℕ) → Bool × List (List ℕ)
flag_first name [] = (false, [])
flag_first name (word ∷ words) = if same_text word name then (true, words) else (false, word ∷ words)

abbrev pub where_none : {T : Type 0} → List (List ℕ) → T → Option T
where_none [] it = Some it
where_none (word ∷ words) it = None

-- commands, by the words behind their names

abbrev pub with_brief : Concurrency → Bool → Bool × List (List ℕ) → Option How
with_brief concurrency timeline it =
    where_none it.1 (record { concurrency = concurrency; timeline = timeline; brief = it.0 })

abbrev pub with_timeline : Concurrency → Bool × List (List ℕ) → Option How
with_timeline concurrency it = with_brief concurrency it.0 (flag_first (codes "--brief") it.1)

abbrev pub with_flags : Concurrency × List (List ℕ) → Option How
with_flags it = with_timeline it.0 (flag_first (codes "--timeline") it.1)

unfoldable pub how_of : List (List ℕ) → Option How
how_of words = option_and_then with_flags (concurrency_first words)

unfoldable pub run_of : List (List ℕ) → Option Command
run_of [] = None
run_of (file ∷ words) = if is_file file then option_map (λ how. OnFile (Run how)) (how_of words) else None

unfoldable pub check_of : List (List ℕ) → Option Command
check_of [] = None
check_of (file ∷ words) = if is_file file then where_none words (OnFile Check) else None

-- START and EVENTS, and the words behind them
abbrev pub events_with : ℕ → List ℕ → List (List ℕ) → Option (Input × List (List ℕ))
events_with start word words = option_map (λ n. (record { start = start; events = n }, words)) (number_in 0 MOST_EVENTS word)

unfoldable pub input_first : List (List ℕ) → Option (Input × List (List ℕ))
input_first [] = None
input_first (start ∷ []) = None
input_first (start ∷ events ∷ words) = option_and_then (λ n. events_with n events words) (number_in 0 (2 ^ 64 - 1) start)

unfoldable pub records_of_words : List (List ℕ) → Option Command
records_of_words words = option_and_then (λ it. where_none it.1 (Generate (generated.Records it.0))) (input_first words)

unfoldable pub gen_of : List (List ℕ) → Option Command
gen_of [] = None
gen_of (word ∷ words) =
    if same_text word (codes "options") then where_none words (Generate generated.Options)
    else if same_text word (codes "records") then records_of_words words else None

abbrev pub bulk_with : Input → Option (Concurrency × List (List ℕ)) → Option Command
bulk_with input concurrency = option_and_then (λ it. where_none it.1 (Bulk input it.0)) concurrency

unfoldable pub bulk_of : List (List ℕ) → Option Command
bulk_of words = option_and_then (λ it. bulk_with it.0 (concurrency_first it.1)) (input_first words)

-- what the words ask for
unfoldable pub command_of : List (List ℕ) → Option Command
command_of [] = None
command_of (word ∷ words) =
    if same_text word (codes "run") then run_of words
    else if same_text word (codes "check") then check_of words
    else if same_text word (codes "gen") then gen_of words
    else if same_text word (codes "bulk") then bulk_of words else None

-- FILE, where a command has one
unfoldable pub file_of : List (List ℕ) → List ℕ
file_of [] = []
file_of (word ∷ []) = []
file_of (word ∷ file ∷ words) = file

-- what holds of the numbers in a command

abbrev pub IsPossible : Concurrency → Type 0
IsPossible it = (it.workers ≤ MOST_WORKERS) × (1 ≤ it.slots) × (it.slots ≤ MOST_SLOTS)

abbrev pub IsPossibleFor : Verb → Type 0
IsPossibleFor (Run how) = IsPossible how.concurrency
IsPossibleFor Check = Unit {0}

abbrev pub IsWithin : Command → Type 0
IsWithin (OnFile verb) = IsPossibleFor verb
IsWithin (Generate generated.Options) = Unit {0}
IsWithin (Generate (generated.Records input)) = input.events ≤ MOST_EVENTS
IsWithin (Bulk input concurrency) = (input.events ≤ MOST_EVENTS) × IsPossible concurrency

-- which commands call the files, and which the trace

abbrev pub calls_files : Option Command → Bool
calls_files (Some (OnFile verb)) = true
calls_files other = false

abbrev pub calls_trace : Option Command → Bool
calls_trace (Some (OnFile (Run how))) = how.timeline
calls_trace other = false
