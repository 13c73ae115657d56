-- The events that are generated, numbered from 1: each with a list of hits and a divisor. Of every tenth
-- event the hits are absent, and nothing is drawn for it. The divisor is the event's number, but 0 of every
-- twenty-fifth.
use Rattle.std.specs.Prelude.{ℕ, ℤ, zero, suc, pos, ◌+◌, ◌%◌, ◌==◌, ◌-ℤ◌, Bool, if◌then◌else◌, List, [], ◌∷◌, Option, Some, None}
use Rattle.hive_gen.specs.Draws.{drawn, next_state, state_after}
use Rattle.hive_model.specs.EventRecord.{EventRecord}
use Rattle.hive_model.specs.declared.product.Product.{Product}
use Rattle.hive_model.specs.declared.product.Product.TheVariants as product

abbrev pub lacks_hits : ℕ → Bool
lacks_hits number = number % 10 == 0

abbrev pub divides_by_zero : ℕ → Bool
divides_by_zero number = number % 25 == 0

-- from 1 to 8
abbrev pub hits_count : ℕ → ℕ
hits_count draw = 1 + draw % 8

-- from -200 to 799
abbrev pub hit : ℕ → ℤ
hit draw = pos (draw % 1000) -ℤ pos 200

-- so many hits, a draw for each
unfoldable pub hits_from : ℕ → ℕ → List ℤ
hits_from zero state = []
hits_from (suc count) state = hit (drawn (next_state state)) ∷ hits_from count (next_state state)

-- a draw for their number, and then one for each of them
abbrev pub hits_drawn : ℕ → List ℤ
hits_drawn state = hits_from (hits_count (drawn (next_state state))) (next_state state)

abbrev pub hits_of : ℕ → ℕ → Option Product
hits_of number state = if lacks_hits number then None else Some (product.List (hits_drawn state))

abbrev pub divisor_of : ℕ → ℕ
divisor_of number = if divides_by_zero number then 0 else number

unfoldable pub event_of : ℕ → ℕ → EventRecord
event_of number state = record {
  event = number;
  cells = hits_of number state ∷ Some (product.Num (pos (divisor_of number))) ∷ [];
}

-- the state that the event left
unfoldable pub state_behind : ℕ → ℕ → ℕ
state_behind number state =
    if lacks_hits number then state else state_after (1 + hits_count (drawn (next_state state))) state

-- so many events, from that number on
unfoldable pub events_from : ℕ → ℕ → ℕ → List EventRecord
events_from zero number state = []
events_from (suc count) number state =
    event_of number state ∷ events_from count (number + 1) (state_behind number state)

-- the events of a start, numbered from 1
abbrev pub events_of : ℕ → ℕ → List EventRecord
events_of start events = events_from events 1 start
