-- A decision node as contracts see it: its flags, and its members in order.
use Rattle.std.specs.Prelude.{ℕ, List, Bool, true, false}
use Rattle.hive_model.specs.declared.sequence.Member.{Member}

pub record Sequence : Type 0 where
  pub name : List ℕ
  pub members : List Member
  pub mode_or : Bool
  pub short_circuit : Bool
  pub sequential : Bool
  pub invert : Bool
  pub ignore_filter : Bool
  pub cut : Bool

-- all flags at their defaults: a concurrent short-circuit AND
abbrev pub plain_sequence : List ℕ → List Member → Sequence
plain_sequence name members = record {
  name = name;
  members = members;
  mode_or = false;
  short_circuit = true;
  sequential = false;
  invert = false;
  ignore_filter = false;
  cut = false;
}
