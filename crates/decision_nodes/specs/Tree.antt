-- What contracts see of a table: the forest, and the outcomes settled so far, by algorithm number. What is
-- decided, reached and withdrawn is what the definitions say of a job with that forest.
use Rattle.std.specs.Prelude.{ℕ, Bool, not, List, [], Option, Some, None, replicate, slice_set}
use Rattle.hive_model.specs.Decision.{decision}
use Rattle.hive_model.specs.Job.{Job}
use Rattle.hive_model.specs.Live.{is_live}
use Rattle.hive_model.specs.Reached.{reached, is_reached}
use Rattle.hive_model.specs.Sequence.{Sequence}
use Rattle.hive_model.specs.declared.decision.Decision.{Decision}
use Rattle.hive_model.specs.declared.outcome.Outcome.{Outcome}
use Rattle.hive_model.specs.declared.sequence.Member.TheVariants.{Seq}

pub record Tree : Type 0 where
  pub sequences : List Sequence
  pub top : ℕ
  pub outcomes : List (Option Outcome)

-- nothing is settled
abbrev pub cleared : List Sequence → ℕ → ℕ → Tree
cleared sequences top algorithms =
    record { sequences = sequences; top = top; outcomes = replicate algorithms None }

-- one outcome more is settled
abbrev pub settled : Tree → ℕ → Outcome → Tree
settled t algorithm outcome = record t { outcomes = slice_set t.outcomes algorithm (Some outcome) }

-- A job with that forest. Of a job, what is decided, reached and withdrawn looks at nothing else.
unfoldable pub job_of : Tree → Job
job_of t = record { raws = []; resources = []; algorithms = []; sequences = t.sequences; top = t.top }

abbrev pub decision_in : Tree → ℕ → Decision
decision_in t s = decision (job_of t) t.outcomes (Seq s)

abbrev pub is_reached_in : Tree → ℕ → Bool
is_reached_in t number = is_reached (reached (job_of t) t.outcomes) number

-- the algorithm is below a cut node that is decided
abbrev pub is_withdrawn_in : Tree → ℕ → Bool
is_withdrawn_in t number = not (is_live (job_of t) t.outcomes number)
