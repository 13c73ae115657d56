-- A decision node with the decisions that its members told it.
use Rattle.std.specs.Prelude.{ℕ, Bool, if◌then◌else◌, List, length, replicate, slice_set, slice_index_or}
use Rattle.hive_model.specs.Decision.{is_undecided, node_decision}
use Rattle.hive_model.specs.Sequence.{Sequence}
use Rattle.hive_model.specs.declared.decision.Decision.{Decision}
use Rattle.hive_model.specs.declared.decision.Decision.TheVariants.{True, Undecided}

pub record Standing : Type 0 where
  pub sequence : Sequence
  pub states : List Decision

-- no member said anything
abbrev pub fresh : Sequence → Standing
fresh q = record { sequence = q; states = replicate (length q.members) Undecided }

-- what the node says by what it was told
abbrev pub said : Standing → Decision
said n = node_decision n.sequence n.states

abbrev pub is_open : Standing → Bool
is_open n = is_undecided (said n)

-- Takes down what the member at that place says. What it said before stays.
abbrev pub heard_states : List Decision → ℕ → Decision → List Decision
heard_states states place decision =
    if is_undecided (slice_index_or states place True) then slice_set states place decision else states

abbrev pub heard : Standing → ℕ → Decision → Standing
heard n place decision = record n { states = heard_states n.states place decision }
