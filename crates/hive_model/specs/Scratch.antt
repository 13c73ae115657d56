-- The working room of an execution as contracts see it: the inputs, and how many inputs and operands there is room for.
use Rattle.std.specs.Prelude.{ℕ, ◌≤◌, List, length, MatchOption}
use Rattle.std.specs.List.{AllByRecursion}
use Rattle.hive_model.specs.Algorithm.{Algorithm}
use Rattle.hive_model.specs.declared.algorithm.Output.{Output}
use Rattle.hive_model.specs.declared.product.Product.{Product}

pub record Scratch : Type 0 where
  pub inputs : List Product
  pub input_room : ℕ
  pub stack_room : ℕ

-- it has room for the algorithm's inputs, and for the nodes of each of its expressions
pub record IsMadeFor (a : Algorithm) (s : Scratch) : Type 0 where
  pub inputs : length a.inputs ≤ s.input_room
  pub outputs : AllByRecursion (λ (o : Output). length o.value ≤ s.stack_room) a.outputs
  pub filter : MatchOption a.filter (Unit {0}) (λ x. length x ≤ s.stack_room)

-- the later scratch is made for every algorithm that the earlier one is made for
abbrev pub Keeps : Scratch → Scratch → Type 0
Keeps earlier later = (a : Algorithm) → IsMadeFor a earlier → IsMadeFor a later
