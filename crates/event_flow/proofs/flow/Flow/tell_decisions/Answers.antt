use Rattle.std.proofs.Common.{◌++◌, ap, ◌∙◌}
use Rattle.event_flow.proofs.Views.{decisions-shown}
use Rattle.event_flow.proofs.flow.Flow.tell_decisions.Goals as goal

pub returns : goal.returns
returns c =
    c.tell_decisions.ensures
    ∙ ap (λ them. c.args.into.now.items ++ them)
    (decisions-shown c.self.inside.tree c.self.inside.states c.self.inside.claims.items c.self.inside.claimed c.self.inside.outstanding
    c.self.inside.nodes c.self.invariant c.args.self.now c.self.view_is)
