use Rattle.event_flow.proofs.Views.{next-is}
use Rattle.event_flow.proofs.flow.Flow.next_claimable.Goals as goal

pub returns : goal.returns
returns c =
    next-is c.self.inside.tree c.self.inside.states c.self.inside.claims.items c.self.inside.claimed c.self.inside.outstanding
    c.self.inside.nodes c.self.invariant c.args.self.now c.self.view_is c.args.from c.next_live.result c.next_live.ensures
