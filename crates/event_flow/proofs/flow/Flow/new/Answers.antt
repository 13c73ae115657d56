use Rattle.std.proofs.Common.{ℕ, None, length, replicate, ap, ◌∙◌}
use Rattle.event_flow.proofs.Beginning.{new-tied, new-within}
use Rattle.event_flow.proofs.flow.Flow.new.Goals as goal

pub reach_all-requires-clause-within : goal.reach_all-requires-clause-within
reach_all-requires-clause-within c =
    new-within c.args.job.now c.requires c.in_ok-tree.tree c.clear-reached.new.self c.in_ok-states.states c.clear-reached.result
    c.in_ok-tree.ensures c.clear-reached.ensures.outcomes c.in_ok-states.ensures c.clear-reached.ensures.reached

pub invariant_of-result : goal.invariant_of-result
invariant_of-result c =
    new-tied c.args.job.now c.requires c.in_ok-tree.tree c.clear-reached.new.self c.in_ok-states.states c.clear-reached.result
    c.in_ok-tree.ensures c.clear-reached.ensures.outcomes c.in_ok-states.ensures c.clear-reached.ensures.reached
    c.reach_all.new.states c.new-3.result c.in_ok-claims.claims.items (length c.sequences.result.now) c.reach_all.ensures
    (c.in_ok-claims.ensures ∙ ap (λ (n : ℕ). replicate n None) (ap length c.algorithms.ensures)) c.new-3.ensures
    (ap length c.sequences.ensures)
