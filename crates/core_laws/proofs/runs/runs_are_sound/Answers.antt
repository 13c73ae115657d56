use Rattle.core_laws.proofs.States.{replay-sound}
use Rattle.core_laws.proofs.runs.runs_are_sound.Goals as goal

pub returns : goal.returns
returns c = λ job slots records journal m valid h. replay-sound job slots records journal m valid.numbered h
