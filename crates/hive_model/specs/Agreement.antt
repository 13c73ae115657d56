-- Results lie within others where each execution of theirs is there too. A result agrees with its record where it is that of
-- results within the record's closure, which lack nothing but what a decided cut node cut off: each decision made is the
-- closure's, and so is each decision, made or not, outside what is cut off.
use Rattle.std.specs.Prelude.{◌≡◌, ◌≢◌, ℕ, ◌<◌, false, true, length, Some, None}
use Rattle.hive_model.specs.Closure.{closure}
use Rattle.hive_model.specs.Decision.{decision}
use Rattle.hive_model.specs.Event.{result_of}
use Rattle.hive_model.specs.EventRecord.{EventRecord}
use Rattle.hive_model.specs.EventResult.{EventResult}
use Rattle.hive_model.specs.Execution.{Execution}
use Rattle.hive_model.specs.Job.{Job}
use Rattle.hive_model.specs.Live.{is_live, is_live_sequence}
use Rattle.hive_model.specs.Results.{Results, outcomes, ran_at}
use Rattle.hive_model.specs.declared.decision.Decision.TheVariants.{Undecided}
use Rattle.hive_model.specs.declared.sequence.Member.TheVariants.{Seq}

abbrev pub AreWithin : Results → Results → Type 0
AreWithin ran others = (number : ℕ) (it : Execution) → ran_at ran number ≡ Some it → ran_at others number ≡ Some it

pub record Agrees (job : Job) (event : EventRecord) (result : EventResult) : Type 0 where
  -- the results, which the ends and the store of the result fix
  pub ran : Results
  pub told : result ≡ result_of job event ran
  pub within : AreWithin ran (closure job event)
  -- what the closure has beyond them is cut off
  pub missing : (number : ℕ) (it : Execution) → ran_at (closure job event) number ≡ Some it → ran_at ran number ≡ None → is_live job (outcomes ran) number ≡ false
  pub decided : (s : ℕ) → decision job (outcomes ran) (Seq s) ≢ Undecided → decision job (outcomes ran) (Seq s) ≡ decision job (outcomes (closure job event)) (Seq s)
  -- among these is the top, which stands below no sequence
  pub outside : (s : ℕ) → s < length job.sequences → is_live_sequence job (outcomes ran) s ≡ true → decision job (outcomes ran) (Seq s) ≡ decision job (outcomes (closure job event)) (Seq s)
