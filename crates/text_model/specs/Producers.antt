-- Who produces which data handle and who takes it, or the first refusal: a handle with two producers, an input with none, or an
-- algorithm that needs its own output, by itself or through others. A handle is produced by the record, if it is raw, or by one
-- algorithm. `producer_graph` answers this.
use Rattle.std.specs.Prelude.{ℕ, Bool, not, List, [], ◌++◌, length, map, replicate, find, flat_map, Option, Some, None, slice_get, Result, Ok, option_map}
use Rattle.std.specs.List.{enumerate_from, list_any}
use Rattle.std.specs.Option.{option_map_or}
use Rattle.hive_model.specs.Same.{same_text}
use Rattle.text_model.specs.Names.{first_repeated, is_among, numbers_where}
use Rattle.text_model.specs.Steps.{◌>>=◌, find_map, refuse_found}
use Rattle.text_model.specs.Walks.{is_on_cycle}
use Rattle.text_model.specs.declared.graph_refusal.GraphRefusal.{GraphRefusal}
use Rattle.text_model.specs.declared.graph_refusal.GraphRefusal.TheVariants.{TwoProducers, NoProducer, DataCycle}

-- what an algorithm takes and produces, by name
pub record Need : Type 0 where
  pub name : List ℕ
  pub inputs : List (List ℕ)
  pub outputs : List (List ℕ)

-- for each handle, in handle order
pub record Graph : Type 0 where
  pub names : List (List ℕ)
  -- the number of the algorithm that produces it; none for a raw handle
  pub producers : List (Option ℕ)
  -- the numbers of the algorithms that take it, in written order
  pub consumers : List (List ℕ)

-- raw handles first, then outputs, algorithm by algorithm
abbrev pub handles_of : List (List ℕ) → List Need → List (List ℕ)
handles_of raws needs = raws ++ flat_map (λ (a : Need). a.outputs) needs

abbrev pub producers_of : List (List ℕ) → List Need → List (Option ℕ)
producers_of raws needs =
    replicate (length raws) None
    ++ flat_map (λ (it : ℕ × Need). replicate (length it.1.outputs) (Some it.0)) (enumerate_from 0 needs)

abbrev pub takers_of : List Need → List ℕ → List ℕ
takers_of needs handle = numbers_where (λ (a : Need). is_among a.inputs handle) needs

unfoldable pub graph_over : List (List ℕ) → List Need → Graph
graph_over raws needs = record {
  names = handles_of raws needs;
  producers = producers_of raws needs;
  consumers = map (takers_of needs) (handles_of raws needs);
}

-- the first handle that has the name of an earlier one
abbrev pub two_producers : List (List ℕ) → Option GraphRefusal
two_producers handles = option_map TwoProducers (first_repeated same_text handles)

-- the first input that is no handle, and its algorithm
abbrev pub no_producer : List (List ℕ) → List Need → Option GraphRefusal
no_producer handles needs =
    find_map (λ (a : Need). option_map (NoProducer a.name) (find (λ handle. not (is_among handles handle)) a.inputs)) needs

-- an output of the second is an input of the first
abbrev pub takes_from : Need → Need → Bool
takes_from a b = list_any (is_among a.inputs) b.outputs

-- the numbers of those that one takes from
abbrev pub sources_of : List Need → ℕ → List ℕ
sources_of needs number = option_map_or (λ a. numbers_where (takes_from a) needs) (slice_get needs number) []

-- the first algorithm that lies on a cycle of them
abbrev pub data_cycle : List Need → Option GraphRefusal
data_cycle needs =
    option_map (λ (it : ℕ × Need). DataCycle it.1.name)
    (find (λ (it : ℕ × Need). is_on_cycle (sources_of needs) (length needs) it.0) (enumerate_from 0 needs))

unfoldable pub graph_of : List (List ℕ) → List Need → Result Graph GraphRefusal
graph_of raws needs = do
  produced_once ← refuse_found (two_producers (handles_of raws needs))
  produced ← refuse_found (no_producer (handles_of raws needs) needs)
  acyclic ← refuse_found (data_cycle needs)
  Ok (graph_over raws needs)
