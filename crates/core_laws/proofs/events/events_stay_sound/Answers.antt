use Rattle.core_laws.proofs.OneEvent.{back-sound, begun-sound, claimed-sound, completed-sound}
use Rattle.core_laws.proofs.events.events_stay_sound.Goals as goal

pub returns : goal.returns
returns c = record {
  admitted = begun-sound;
  claimed = claimed-sound;
  done = completed-sound;
  back =
      back-sound;
}
