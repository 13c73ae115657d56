use Rattle.gen_laws.proofs.Fitting.{events-fit}
use Rattle.gen_laws.proofs.Reading.{events-read}
use Rattle.gen_laws.proofs.records_are_read.Goals as goal

pub returns-clause-read : goal.returns-clause-read
returns-clause-read c = events-read

pub returns-clause-fits : goal.returns-clause-fits
returns-clause-fits c = λ start events. events-fit events 1 start
