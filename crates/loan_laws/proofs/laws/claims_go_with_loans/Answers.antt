use Rattle.loan_laws.proofs.GivingBack.{pools-after-return}
use Rattle.loan_laws.proofs.OneClaim.{pools-after-claim}
use Rattle.loan_laws.proofs.laws.claims_go_with_loans.Goals as goal

pub returns : goal.returns
returns c = record {
  claim = pools-after-claim;
  back = pools-after-return;
}
