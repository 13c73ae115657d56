use Rattle.std.proofs.Common.{rules, arith, ◌≡◌, ℕ, None, is_some, length, map, replicate, ap, ◌∙◌}
use Rattle.std.specs.Prelude.{vec_len}
use Rattle.event_flow.proofs.Beginning.{anew-tied, begin-within}
use Rattle.event_flow.proofs.flow.Flow.begin.Goals as goal

pub reach_all-requires-clause-within : goal.reach_all-requires-clause-within
reach_all-requires-clause-within c =
    begin-within c.self.inside.tree c.self.inside.states c.self.inside.claims.items c.self.inside.claimed c.self.inside.outstanding
    c.self.inside.nodes c.self.invariant c.clear-reached.new.self c.clear.new.self c.clear-reached.result c.clear-reached.ensures.outcomes
    c.clear.ensures c.clear-reached.ensures.reached

pub invariant_of-self : goal.invariant_of-self
invariant_of-self c =
    let size : vec_len c.self.inside.claims ≡ length c.self.inside.claims.items = omega arith in
    anew-tied c.self.inside.tree c.self.inside.states c.self.inside.claims.items c.self.inside.claimed c.self.inside.outstanding
    c.self.inside.nodes c.self.invariant c.clear-reached.new.self c.clear.new.self c.clear-reached.result c.clear-reached.ensures.outcomes
    c.clear.ensures c.clear-reached.ensures.reached c.reach_all.new.states c.arrive_present.new.states c.new-self-inside.result
    c.fill.new.self.items (map is_some c.args.cells.now) c.reach_all.ensures c.arrive_present.ensures (c.fill.ensures.items (search rules) ∙ ap (λ (n : ℕ). replicate n None) size)
    c.new-self-inside.ensures
