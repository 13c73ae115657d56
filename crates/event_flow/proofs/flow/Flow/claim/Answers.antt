use Rattle.event_flow.proofs.Ties.{claim-tied}
use Rattle.event_flow.proofs.flow.Flow.claim.Goals as goal

pub invariant_of-self : goal.invariant_of-self
invariant_of-self c =
    claim-tied c.self.inside.tree c.self.inside.states c.self.inside.claims.items c.self.inside.claimed c.self.inside.outstanding
    c.self.inside.nodes c.self.invariant c.args.self.now c.self.view_is c.args.algorithm c.requires.within c.args.held c.from.result
    c.schedule.new.self c.insert.new.self c.from.ensures c.requires.free c.schedule.ensures c.insert.ensures
