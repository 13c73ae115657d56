-- An algorithm as contracts see it: its fields, with plain lists. Inputs and resources are numbers of handles and resources.
use Rattle.std.specs.Prelude.{ℕ, List, [], Option, None}
use Rattle.hive_model.specs.declared.algorithm.Output.{Output}
use Rattle.hive_model.specs.declared.expr.Node.{Node}

pub record Algorithm : Type 0 where
  pub name : List ℕ
  pub cardinality : ℕ
  pub resources : List ℕ
  pub inputs : List ℕ
  pub first_output : ℕ
  pub outputs : List Output
  pub filter : Option (List Node)

-- no inputs, outputs, resources or filter, and one instance
abbrev pub plain_algorithm : List ℕ → ℕ → Algorithm
plain_algorithm name first_output = record {
  name = name;
  cardinality = 1;
  resources = [];
  inputs = [];
  first_output = first_output;
  outputs = [];
  filter = None;
}
