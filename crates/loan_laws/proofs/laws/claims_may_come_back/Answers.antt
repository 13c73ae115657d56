use Rattle.loan_laws.proofs.GivingBack.{claim-is-lent}
use Rattle.loan_laws.proofs.Undoing.{scratch-fits}
use Rattle.loan_laws.proofs.laws.claims_may_come_back.Goals as goal

pub returns : goal.returns
returns c = record {
  lent = claim-is-lent;
  fits = scratch-fits;
}
