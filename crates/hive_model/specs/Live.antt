-- A sequence with `cut` cuts off what stands below it as soon as it is decided: an algorithm there that hasn't run is withdrawn.
-- An algorithm is live where no such sequence cuts it off. In a job without cut nodes all are.
use Rattle.std.specs.Prelude.{ℕ, Bool, not, ◌&&◌, List, Option}
use Rattle.std.specs.List.{enumerate_from, list_any}
use Rattle.hive_model.specs.Below.{is_algorithm_below, is_sequence_below}
use Rattle.hive_model.specs.Decision.{decision, is_undecided}
use Rattle.hive_model.specs.Job.{Job}
use Rattle.hive_model.specs.Sequence.{Sequence}
use Rattle.hive_model.specs.declared.outcome.Outcome.{Outcome}
use Rattle.hive_model.specs.declared.sequence.Member.TheVariants.{Seq}

-- the sequence is a cut node, and is decided
abbrev pub is_cutting : Job → List (Option Outcome) → ℕ × Sequence → Bool
is_cutting job ran (s, q) = q.cut && not (is_undecided (decision job ran (Seq s)))

abbrev pub cuts_algorithm : Job → List (Option Outcome) → ℕ → ℕ × Sequence → Bool
cuts_algorithm job ran number (s, q) = is_cutting job ran (s, q) && is_algorithm_below job s number

abbrev pub cuts_sequence : Job → List (Option Outcome) → ℕ → ℕ × Sequence → Bool
cuts_sequence job ran number (s, q) = is_cutting job ran (s, q) && is_sequence_below job s number

unfoldable pub is_live : Job → List (Option Outcome) → ℕ → Bool
is_live job ran number = not (list_any (cuts_algorithm job ran number) (enumerate_from 0 job.sequences))

-- the sequence stands below no decided cut node
unfoldable pub is_live_sequence : Job → List (Option Outcome) → ℕ → Bool
is_live_sequence job ran number = not (list_any (cuts_sequence job ran number) (enumerate_from 0 job.sequences))
