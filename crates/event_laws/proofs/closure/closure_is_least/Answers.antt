use Rattle.event_laws.proofs.Additions.{additions-within, closure-additions}
use Rattle.event_laws.proofs.Fixed.{fixed-settled}
use Rattle.event_laws.proofs.Within.{closure-below}
use Rattle.event_laws.proofs.closure.closure_is_least.Goals as goal

pub returns : goal.returns
returns c = record {
  is_one = closure-additions;
  is_least = λ job event ran made fixed. closure-below job event ran (additions-within job event ran made) (fixed-settled job event ran fixed);
}
