use Rattle.event_laws.proofs.Outputs.{leaves-with}
use Rattle.event_laws.proofs.event_store.outputs_of_an_execution.Goals as goal

pub returns : goal.returns
returns c = record {
  accepted = λ a inputs e. leaves-with a inputs _ e;
  rejected = λ a inputs e. leaves-with a inputs _ e;
  failed = λ a inputs at fault e. leaves-with a inputs _ e;
}
