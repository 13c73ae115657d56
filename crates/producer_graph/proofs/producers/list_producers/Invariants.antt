use Rattle.std.proofs.Common.{◌≡◌, ◌++◌, ℕ, Some, length, drop, replicate}
use Rattle.std.specs.List.{enumerate_from, flat_map}
use Rattle.text_model.specs.Producers.{Need, producers_of}
use Rattle.producer_graph.proofs.producers.list_producers.Given as goal

abbrev pub invariant-loop-number : goal.invariant-loop-number
invariant-loop-number l =
    l.producers.items ++ flat_map (λ (it : ℕ × Need). replicate (length it.1.outputs) (Some it.0)) (enumerate_from l.number (drop l.number l.needs))
    ≡ producers_of l.raws l.needs
