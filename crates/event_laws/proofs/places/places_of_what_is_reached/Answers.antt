use Rattle.event_laws.proofs.Placing.{place-algorithm, place-sequence, algorithm-place, sequence-place}
use Rattle.event_laws.proofs.places.places_of_what_is_reached.Goals as goal

pub returns : goal.returns
returns c = record {
  algorithms = place-algorithm;
  sequences = place-sequence;
  algorithms_stand = algorithm-place;
  sequences_stand = sequence-place;
}
