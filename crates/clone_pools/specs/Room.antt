-- The room that executions of an algorithm need: places for its inputs, and for the nodes of its longest
-- expression.
use Rattle.std.specs.Prelude.{ℕ, ◌≤◌, List, [], ◌∷◌, length, max, Option}
use Rattle.std.specs.Option.{option_map_or}
use Rattle.hive_model.specs.Algorithm.{Algorithm}
use Rattle.hive_model.specs.Scratch.{Scratch}
use Rattle.hive_model.specs.declared.algorithm.Output.{Output}
use Rattle.hive_model.specs.declared.expr.Node.{Node}
use Rattle.clone_pools.specs.declared.room.Room.{Room}

abbrev pub most_nodes : List Output → ℕ
most_nodes [] = 0
most_nodes (o ∷ outputs) = max (length o.value) (most_nodes outputs)

abbrev pub filter_nodes : Option (List Node) → ℕ
filter_nodes filter = option_map_or length filter 0

abbrev pub room_of : Algorithm → Room
room_of a = record { inputs = length a.inputs; operands = max (most_nodes a.outputs) (filter_nodes a.filter) }

abbrev pub HasRoom : Room → Scratch → Type 0
HasRoom room s = (room.inputs ≤ s.input_room) × (room.operands ≤ s.stack_room)
