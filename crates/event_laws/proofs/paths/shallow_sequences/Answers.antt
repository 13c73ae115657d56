use Rattle.event_laws.proofs.Depths.{deep-nested}
use Rattle.event_laws.proofs.paths.shallow_sequences.Goals as goal

pub returns : goal.returns
returns c = deep-nested
