-- The last step of the graph's definition, and what it comes to.
use Rattle.std.specs.Prelude.{◌≡◌, ℕ, false, List, Result, Ok}
use Rattle.text_model.specs.Producers.{Graph, Need, data_cycle, graph_over, sources_of}
use Rattle.text_model.specs.Steps.{◌>>=◌, refuse_found}
use Rattle.text_model.specs.Walks.{leads_within}
use Rattle.text_model.specs.declared.graph_refusal.GraphRefusal.{GraphRefusal}

abbrev pub graph_unless_cyclic : List (List ℕ) → List Need → Result Graph GraphRefusal
graph_unless_cyclic raws needs = refuse_found (data_cycle needs) >>= λ acyclic. Ok (graph_over raws needs)

-- no algorithm takes from itself, by itself or through any number of others
abbrev pub NeverWaits : List Need → Type 0
NeverWaits needs = (steps n : ℕ) → leads_within (sources_of needs) steps n n ≡ false
