use Rattle.event_flow.proofs.Advancing.{completed-tied, reach-within}
use Rattle.event_flow.proofs.Ties.{some-outstanding}
use Rattle.event_flow.proofs.flow.Flow.complete.Goals as goal

pub reach_all-requires-clause-within : goal.reach_all-requires-clause-within
reach_all-requires-clause-within c =
    reach-within c.self.inside.tree c.self.inside.states c.self.inside.claims.items c.self.inside.claimed c.self.inside.outstanding
    c.self.inside.nodes c.self.invariant c.args.self.now c.self.view_is c.args.algorithm c.requires.within c.args.outcome.now c.requires.unrun
    c.finish.new.self c.settle-reached.new.self c.settle-reached.result c.finish.ensures c.settle-reached.ensures.outcomes
    c.settle-reached.ensures.reached

pub overflow_sub-self : goal.overflow_sub-self
overflow_sub-self c =
    some-outstanding c.self.inside.tree c.self.inside.states c.self.inside.claims.items c.self.inside.claimed c.self.inside.outstanding
    c.self.inside.nodes c.self.invariant c.args.self.now c.self.view_is c.args.algorithm c.requires.within c.requires.held

pub invariant_of-self : goal.invariant_of-self
invariant_of-self c =
    completed-tied c.self.inside.tree c.self.inside.states c.self.inside.claims.items c.self.inside.claimed c.self.inside.outstanding
    c.self.inside.nodes c.self.invariant c.args.self.now c.self.view_is c.args.algorithm c.requires.within c.args.outcome.now c.requires.unrun
    c.finish.new.self c.settle-reached.new.self c.settle-reached.result c.finish.ensures c.settle-reached.ensures.outcomes
    c.settle-reached.ensures.reached c.reach_all.new.states c.reach_all.ensures c.args.first c.args.count c.arrive_all.new.states
    c.arrive_all.ensures c.from.result c.remove.new.self c.from.ensures c.requires.held c.remove.ensures
