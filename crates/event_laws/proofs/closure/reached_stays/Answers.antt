use Rattle.event_laws.proofs.Placing.{place-stays}
use Rattle.event_laws.proofs.Reaching.{reached-stays}
use Rattle.event_laws.proofs.Staying.{outcomes-within}
use Rattle.event_laws.proofs.closure.reached_stays.Goals as goal
use Rattle.hive_model.specs.Below.{is_sequence_of}
use Rattle.hive_model.specs.Reached.{is_leaf_of}

pub returns : goal.returns
returns c = record {
  places = λ job ran others s i m h. place-stays job _ _ s i m (outcomes-within ran others h);
  sequences = λ job ran others s h. reached-stays (is_sequence_of s) job _ _ (outcomes-within ran others h);
  algorithms = λ job ran others number h. reached-stays (is_leaf_of number) job _ _ (outcomes-within ran others h);
}
