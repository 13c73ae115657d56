use Rattle.core_laws.proofs.OneEvent.{sound-within}
use Rattle.core_laws.proofs.events.sound_events_lie_within_the_closure.Goals as goal

pub returns : goal.returns
returns c = sound-within
