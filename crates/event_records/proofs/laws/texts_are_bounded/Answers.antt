use Rattle.event_records.proofs.Bounds.{so_far-short, told-few}
use Rattle.event_records.proofs.laws.texts_are_bounded.Goals as goal

pub returns-clause-bytes : goal.returns-clause-bytes
returns-clause-bytes c = so_far-short

pub returns-clause-records : goal.returns-clause-records
returns-clause-records c = told-few
