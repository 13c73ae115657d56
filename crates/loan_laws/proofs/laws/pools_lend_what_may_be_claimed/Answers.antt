use Rattle.loan_laws.proofs.WhatIsLent.{may-be-lent, is-refused, one-may-be-lent}
use Rattle.loan_laws.proofs.laws.pools_lend_what_may_be_claimed.Goals as goal

pub returns : goal.returns
returns c = record {
  lent = may-be-lent;
  refused = is-refused;
  one = one-may-be-lent;
}
