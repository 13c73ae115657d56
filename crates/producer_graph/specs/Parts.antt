-- The parts of the graph's definition that are read from one algorithm, where the names of all handles are known.
use Rattle.std.specs.Prelude.{ℕ, not, List, map, find, filter_map, Option, option_map}
use Rattle.hive_model.specs.Same.{same_text}
use Rattle.text_model.specs.Names.{is_among, number_of, repeated_behind}
use Rattle.text_model.specs.Producers.{Need}
use Rattle.text_model.specs.declared.graph_refusal.GraphRefusal.{GraphRefusal}
use Rattle.text_model.specs.declared.graph_refusal.GraphRefusal.TheVariants.{NoProducer, TwoProducers}

-- the first handle of some that has the name of one before it, where others stand before all of them
abbrev pub twice_behind : List (List ℕ) → List (List ℕ) → Option GraphRefusal
twice_behind before handles = option_map TwoProducers (repeated_behind same_text before handles)

-- the first input of an algorithm that is no handle
abbrev pub unknown_in : List (List ℕ) → Need → Option GraphRefusal
unknown_in handles a = option_map (NoProducer a.name) (find (λ handle. not (is_among handles handle)) a.inputs)

-- the handles that an algorithm takes
abbrev pub taken_by : List (List ℕ) → Need → List ℕ
taken_by handles a = filter_map (number_of handles) a.inputs

abbrev pub taken_by_each : List (List ℕ) → List Need → List (List ℕ)
taken_by_each handles needs = map (taken_by handles) needs
