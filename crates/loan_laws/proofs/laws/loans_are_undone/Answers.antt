use Rattle.loan_laws.proofs.Undoing.{lend-undone}
use Rattle.loan_laws.proofs.laws.loans_are_undone.Goals as goal

pub returns : goal.returns
returns c = lend-undone
