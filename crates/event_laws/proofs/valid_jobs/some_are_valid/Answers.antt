use Rattle.std.proofs.Common.{refl}
use Rattle.event_laws.proofs.ValidExamples.{sum_and_cut-valid, three_and_four-fits, cut_or-valid, tower-nested}
use Rattle.event_laws.proofs.valid_jobs.some_are_valid.Goals as goal

pub returns-clause-plain : goal.returns-clause-plain
returns-clause-plain c = sum_and_cut-valid

pub returns-clause-fitting : goal.returns-clause-fitting
returns-clause-fitting c = three_and_four-fits

pub returns-clause-cut : goal.returns-clause-cut
returns-clause-cut c = cut_or-valid

pub returns-clause-deep : goal.returns-clause-deep
returns-clause-deep c = tower-nested 63 63 0 refl
