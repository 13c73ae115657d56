-- The report of one event, as lines: the event, its sequences, its algorithms, what faulted, what lacks which input, and the
-- data products. Names stand as the job has them; the order is the written one.
use Rattle.std.specs.Prelude.{codes, decimal, ℕ, ℤ, List, [], ◌∷◌, ◌++◌, Option, unwrap_or, slice_get, if◌then◌else◌, is_some}
use Rattle.std.specs.Fmt.{signed_decimal}
use Rattle.std.specs.List.{enumerate_from, flat_map, zip}
use Rattle.std.specs.Option.{option_map_or}
use Rattle.hive_model.specs.Algorithm.{Algorithm}
use Rattle.hive_model.specs.Enabled.{product_in}
use Rattle.hive_model.specs.EventResult.{EventResult}
use Rattle.hive_model.specs.Job.{Job}
use Rattle.hive_model.specs.Sequence.{Sequence}
use Rattle.hive_model.specs.Valid.{handle_names}
use Rattle.hive_model.specs.declared.algorithm.Output.{Output}
use Rattle.hive_model.specs.declared.decision.Decision.{Decision}
use Rattle.hive_model.specs.declared.decision.Decision.TheVariants.{True, False, Undecided}
use Rattle.hive_model.specs.declared.decision.End.{End}
use Rattle.hive_model.specs.declared.decision.End.TheVariants as ends
use Rattle.hive_model.specs.declared.decision.EventStatus.{EventStatus}
use Rattle.hive_model.specs.declared.decision.EventStatus.TheVariants as status
use Rattle.hive_model.specs.declared.outcome.Fault.{Fault}
use Rattle.hive_model.specs.declared.outcome.Fault.TheVariants.{Overflow, DivZero, Empty, Index, TooLong}
use Rattle.hive_model.specs.declared.outcome.Place.{Place}
use Rattle.hive_model.specs.declared.outcome.Place.TheVariants as place
use Rattle.hive_model.specs.declared.product.Product.{Product}
use Rattle.hive_model.specs.declared.product.Product.TheVariants as product
use Rattle.text_model.specs.declared.bytes.TheConstants.{LINE_FEED, SPACE, MINUS, OPEN_SQUARE_BRACKET, CLOSE_SQUARE_BRACKET}

-- a line is some words with one space between them, ended by a line feed
abbrev pub line : List (List ℕ) → List ℕ
line [] = LINE_FEED ∷ []
line (w ∷ []) = w ++ LINE_FEED ∷ []
line (w ∷ v ∷ words) = w ++ SPACE ∷ line (v ∷ words)

abbrev pub decision_word : Decision → List ℕ
decision_word True = codes "true"
decision_word False = codes "false"
decision_word Undecided = codes "undecided"

abbrev pub status_word : EventStatus → List ℕ
status_word status.Ok = codes "ok"
status_word status.Failed = codes "failed"
status_word status.Stalled = codes "stalled"

abbrev pub end_word : End → List ℕ
end_word ends.Initial = codes "INITIAL"
end_word ends.ControlReady = codes "CONTROLREADY"
end_word ends.Withdrawn = codes "WITHDRAWN"
end_word ends.Accepted = codes "EVTACCEPTED"
end_word ends.Rejected = codes "EVTREJECTED"
end_word (ends.Failed at fault) = codes "ERROR"

abbrev pub fault_word : Fault → List ℕ
fault_word Overflow = codes "overflow"
fault_word DivZero = codes "divzero"
fault_word Empty = codes "empty"
fault_word Index = codes "index"
fault_word TooLong = codes "toolong"

-- an output by its name, the filter as `-`
abbrev pub place_word : Algorithm → Place → List ℕ
place_word a (place.Output n) = option_map_or (λ (o : Output). o.name) (slice_get a.outputs n) []
place_word a place.Filter = MINUS ∷ []

unfoldable pub spaced : ℤ → List ℕ
spaced x = SPACE ∷ signed_decimal x

-- numbers with one space between
abbrev pub numbers_text : List ℤ → List ℕ
numbers_text [] = []
numbers_text (x ∷ xs) = signed_decimal x ++ flat_map spaced xs

-- a number in decimal, and a list in brackets
abbrev pub product_text : Product → List ℕ
product_text (product.Num x) = signed_decimal x
product_text (product.List xs) = OPEN_SQUARE_BRACKET ∷ numbers_text xs ++ CLOSE_SQUARE_BRACKET ∷ []

-- nothing where the result has no decision for the top
abbrev pub top_decision : Job → EventResult → Decision
top_decision job r = unwrap_or (slice_get r.decisions job.top) Undecided

abbrev pub event_line : Job → EventResult → List ℕ
event_line job r = line (codes "event" ∷ decimal r.event ∷ status_word r.status ∷ decision_word (top_decision job r) ∷ [])

abbrev pub node_line : Sequence × Decision → List ℕ
node_line (q, d) = line (codes "node" ∷ q.name ∷ decision_word d ∷ [])

abbrev pub alg_line : Algorithm × End → List ℕ
alg_line (a, e) = line (codes "alg" ∷ a.name ∷ end_word e ∷ [])

-- a line for a failed algorithm, else nothing
abbrev pub fault_lines : Algorithm → End → List ℕ
fault_lines a (ends.Failed at fault) = line (codes "fault" ∷ a.name ∷ place_word a at ∷ fault_word fault ∷ [])
fault_lines a ends.Initial = []
fault_lines a ends.ControlReady = []
fault_lines a ends.Withdrawn = []
fault_lines a ends.Accepted = []
fault_lines a ends.Rejected = []

abbrev pub fault_line : Algorithm × End → List ℕ
fault_line (a, e) = fault_lines a e

-- a line for an input that isn't in the store, else nothing
abbrev pub lack_line : List (List ℕ) → List (Option Product) → Algorithm → ℕ → List ℕ
lack_line names places a h =
    if is_some (product_in places h) then [] else line (codes "lack" ∷ a.name ∷ unwrap_or (slice_get names h) [] ∷ [])

-- the lines for an algorithm that waits, else nothing
abbrev pub lack_lines : List (List ℕ) → List (Option Product) → Algorithm → End → List ℕ
lack_lines names places a ends.ControlReady = flat_map (lack_line names places a) a.inputs
lack_lines names places a ends.Initial = []
lack_lines names places a ends.Withdrawn = []
lack_lines names places a ends.Accepted = []
lack_lines names places a ends.Rejected = []
lack_lines names places a (ends.Failed at fault) = []

abbrev pub lacks_at : List (List ℕ) → List (Option Product) → Algorithm × End → List ℕ
lacks_at names places (a, e) = lack_lines names places a e

unfoldable pub put_line : List ℕ → Product → List ℕ
put_line name p = line (codes "put" ∷ name ∷ product_text p ∷ [])

-- a line for a handle that the store holds, else nothing
abbrev pub put_at : List (Option Product) → ℕ × List ℕ → List ℕ
put_at places (h, name) = option_map_or (put_line name) (product_in places h) []

unfoldable pub report : Job → EventResult → List ℕ
report job r =
    event_line job r
    ++ flat_map node_line (zip job.sequences r.decisions)
    ++ flat_map alg_line (zip job.algorithms r.ends)
    ++ flat_map fault_line (zip job.algorithms r.ends)
    ++ flat_map (lacks_at (handle_names job) r.store) (zip job.algorithms r.ends)
    ++ flat_map (put_at r.store) (enumerate_from 0 (handle_names job))
