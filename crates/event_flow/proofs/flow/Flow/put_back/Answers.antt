use Rattle.event_flow.proofs.Ties.{put_back-tied, some-outstanding}
use Rattle.event_flow.proofs.flow.Flow.put_back.Goals as goal

pub overflow_sub-self : goal.overflow_sub-self
overflow_sub-self c =
    some-outstanding c.self.inside.tree c.self.inside.states c.self.inside.claims.items c.self.inside.claimed c.self.inside.outstanding
    c.self.inside.nodes c.self.invariant c.args.self.now c.self.view_is c.args.algorithm c.requires.within c.requires.held

pub invariant_of-self : goal.invariant_of-self
invariant_of-self c =
    put_back-tied c.self.inside.tree c.self.inside.states c.self.inside.claims.items c.self.inside.claimed c.self.inside.outstanding
    c.self.inside.nodes c.self.invariant c.args.self.now c.self.view_is c.args.algorithm c.requires.within c.from.result
    c.unschedule.new.self c.remove.new.self c.from.ensures c.requires.held c.unschedule.ensures c.remove.ensures
