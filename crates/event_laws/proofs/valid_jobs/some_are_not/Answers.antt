use Rattle.event_laws.proofs.ValidExamples.{own_member-refused, own_output-refused, too_deep-refused}
use Rattle.event_laws.proofs.valid_jobs.some_are_not.Goals as goal

pub returns-clause-own_member : goal.returns-clause-own_member
returns-clause-own_member c = own_member-refused

pub returns-clause-own_output : goal.returns-clause-own_output
returns-clause-own_output c = own_output-refused

pub returns-clause-too_deep : goal.returns-clause-too_deep
returns-clause-too_deep c = too_deep-refused
