use Rattle.gen_laws.proofs.OptionsRead.{options-read}
use Rattle.gen_laws.proofs.options_are_read.Goals as goal

pub returns : goal.returns
returns c = options-read
