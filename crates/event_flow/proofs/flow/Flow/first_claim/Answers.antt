use Rattle.std.proofs.Common.{ap, ◌∙◌}
use Rattle.event_flow.specs.Flow.{Flow}
use Rattle.event_flow.proofs.Views.{least-first}
use Rattle.event_flow.proofs.flow.Flow.first_claim.Goals as goal

pub returns : goal.returns
returns c =
    least-first c.args.self.now c.as_slice.result.now c.least_claim.result
    (c.as_slice.ensures.value ∙ ap (λ (f : Flow). f.claims) c.self.view_is) c.least_claim.ensures
