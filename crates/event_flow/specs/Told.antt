-- What is told of an event in its result: what the definitions say for its outcomes.
use Rattle.std.specs.Prelude.{ℕ, List, length, map}
use Rattle.std.specs.List.{range_with_len}
use Rattle.decision_nodes.specs.Tree.{job_of}
use Rattle.hive_model.specs.Event.{decisions_of, end_of}
use Rattle.hive_model.specs.declared.decision.Decision.{Decision}
use Rattle.hive_model.specs.declared.decision.End.{End}
use Rattle.event_flow.specs.Flow.{Flow, tree_of}

-- the decision of each sequence, in written order
unfoldable pub decisions_in : Flow → List Decision
decisions_in f = decisions_of (job_of (tree_of f)) f.outcomes

abbrev pub end_in : Flow → ℕ → End
end_in f number = end_of (job_of (tree_of f)) f.outcomes number

-- the end of each algorithm, in written order
unfoldable pub ends_in : Flow → List End
ends_in f = map (end_in f) (range_with_len 0 (length f.needs))
