use Rattle.std.proofs.Common.{arith, ◌≡◌, ◌++◌, length, ap, ◌∙◌}
use Rattle.event_flow.proofs.Views.{ends-shown}
use Rattle.event_flow.proofs.flow.Flow.tell_ends.Goals as goal

pub returns : goal.returns
returns c =
    let count : c.len-count.result ≡ length c.self.inside.claims.items = omega arith in
    c.tell_ends.ensures
    ∙ ap (λ them. c.args.into.now.items ++ them)
    (ends-shown c.self.inside.tree c.self.inside.states c.self.inside.claims.items c.self.inside.claimed c.self.inside.outstanding
    c.self.inside.nodes c.self.invariant c.args.self.now c.self.view_is c.len-count.result count)
