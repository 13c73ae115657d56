-- What the two tables say of the first sequences and algorithms of an event.
use Rattle.std.specs.Prelude.{ℕ, not, List, map}
use Rattle.std.specs.List.{range_with_len}
use Rattle.algo_states.specs.States.{States}
use Rattle.decision_nodes.specs.Tree.{Tree, decision_in, is_reached_in, is_withdrawn_in}
use Rattle.hive_model.specs.Event.{end_by}
use Rattle.hive_model.specs.Results.{outcome_at}
use Rattle.hive_model.specs.declared.decision.Decision.{Decision}
use Rattle.hive_model.specs.declared.decision.End.{End}

unfoldable pub decisions_by : Tree → ℕ → List Decision
decisions_by tree count = map (decision_in tree) (range_with_len 0 count)

abbrev pub end_said : Tree → States → ℕ → End
end_said tree states number =
    end_by (is_reached_in tree number) (not (is_withdrawn_in tree number)) (outcome_at states.outcomes number)

unfoldable pub ends_by : Tree → States → ℕ → List End
ends_by tree states count = map (end_said tree states) (range_with_len 0 count)
