use Rattle.event_laws.proofs.Holding.{kept-place, unrun-place}
use Rattle.event_laws.proofs.event_store.outputs_in_the_store.Goals as goal

pub returns : goal.returns
returns c = record {
  accepted = λ job event ran number i handle it. kept-place job event ran number i handle it _;
  rejected = λ job event ran number i handle it. kept-place job event ran number i handle it _;
  failed = λ job event ran number i handle it at fault. kept-place job event ran number i handle it _;
  unrun = unrun-place;
}
