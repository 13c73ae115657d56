use Rattle.loan_laws.proofs.Opening.{opening-pools, pools-after-admission, pools-after-retirement}
use Rattle.loan_laws.proofs.laws.events_without_claims_have_nothing.Goals as goal

pub returns : goal.returns
returns c = record {
  opening = opening-pools;
  admission = pools-after-admission;
  retirement = pools-after-retirement;
}
