-- The algorithms of raw options over the handles of a job, or the first refusal of an expression: algorithm by algorithm, its
-- outputs in their order and then its filter. An output sees the inputs and the outputs above it, the filter the inputs and all
-- outputs.
use Rattle.std.specs.Prelude.{codes, ℕ, ◌+◌, List, [], ◌∷◌, ◌++◌, length, map, filter_map, flat_map, take, Option, Some, None, slice_get, Result, Ok, option_map, option_and_then}
use Rattle.std.specs.List.{enumerate_from}
use Rattle.hive_model.specs.Algorithm.{Algorithm}
use Rattle.hive_model.specs.Tree.{nodes_of}
use Rattle.hive_model.specs.declared.algorithm.Output.{Output}
use Rattle.hive_model.specs.declared.algorithm.Raw.{Raw}
use Rattle.hive_model.specs.declared.expr.Node.{Node}
use Rattle.hive_model.specs.declared.product.Kind.{Kind}
use Rattle.hive_model.specs.declared.product.Kind.TheVariants as kinds
use Rattle.text_model.specs.ExprText.{expr_of}
use Rattle.text_model.specs.Refusals.{of_expr}
use Rattle.text_model.specs.Names.{number_of}
use Rattle.text_model.specs.RawOptions.{RawAlgorithm, RawOptions}
use Rattle.text_model.specs.Steps.{◌>>=◌, collect, map_err}
use Rattle.text_model.specs.ValuePaths.{below, numbered}
use Rattle.text_model.specs.declared.job_refusal.JobRefusal.{JobRefusal}
use Rattle.text_model.specs.declared.named.Named.{Named}
use Rattle.text_model.specs.declared.raw_options.RawOutput.{RawOutput}

-- the names that algorithms speak of: handles, each with its kind, and resources
pub record Scope : Type 0 where
  pub handles : List (List ℕ)
  pub kinds : List Kind
  pub resources : List (List ℕ)

-- the kinds of all handles, in handle order
abbrev pub raw_kinds : RawOptions → List Kind
raw_kinds raw =
    map (λ (r : Raw). r.kind) raw.raws ++ flat_map (λ (a : RawAlgorithm). map (λ (o : RawOutput). o.kind) a.outputs) raw.algorithms

-- a handle by its name
abbrev pub handle_named : Scope → List ℕ → Option Named
handle_named scope name =
    option_and_then (λ handle. option_map (λ kind. record { name = name; handle = handle; kind = kind }) (slice_get scope.kinds handle))
    (number_of scope.handles name)

abbrev pub inputs_of : Scope → RawAlgorithm → List Named
inputs_of scope a = filter_map (handle_named scope) a.inputs

-- an algorithm's outputs, the first of which is that handle
abbrev pub outputs_of : ℕ → RawAlgorithm → List Named
outputs_of first a =
    map (λ (it : ℕ × RawOutput). record { name = it.1.name; handle = it.0; kind = it.1.kind }) (enumerate_from first a.outputs)

-- the nodes of the expression of a text, which stands at a path
unfoldable pub nodes_at : List ℕ → List ℕ → List Named → Kind → Result (List Node) JobRefusal
nodes_at path text seen kind = map_err (of_expr path) (expr_of text seen kind) >>= λ tree. Ok (nodes_of tree)

-- an output that stands below so many
unfoldable pub output_at : List ℕ → List Named → List Named → ℕ × RawOutput → Result Output JobRefusal
output_at path inputs outputs (above, o) =
    nodes_at (below (numbered (below path (codes "output")) (above + 1)) (codes "value")) o.value (inputs ++ take above outputs) o.kind
    >>= λ nodes. Ok (record { name = o.name; kind = o.kind; value = nodes })

unfoldable pub filter_at : List ℕ → List Named → Option (List ℕ) → Result (Option (List Node)) JobRefusal
filter_at path seen None = Ok None
filter_at path seen (Some text) = nodes_at (below path (codes "filter")) text seen kinds.Num >>= λ nodes. Ok (Some nodes)

-- the algorithm at a path, whose first output is that handle
unfoldable pub algorithm_at : Scope → List ℕ → ℕ → RawAlgorithm → Result Algorithm JobRefusal
algorithm_at scope path first a = do
  outputs ← collect (output_at path (inputs_of scope a) (outputs_of first a)) (enumerate_from 0 a.outputs)
  filter ← filter_at path (inputs_of scope a ++ outputs_of first a) a.filter
  Ok (record {
    name = a.name;
    cardinality = a.cardinality;
    resources = filter_map (number_of scope.resources) a.resources;
    inputs = map (λ (n : Named). n.handle) (inputs_of scope a);
    first_output = first;
    outputs = outputs;
    filter = filter;
  })

-- the algorithms from a number on, from 1, whose outputs begin at a handle
unfoldable pub algorithms_from : Scope → ℕ → ℕ → List RawAlgorithm → Result (List Algorithm) JobRefusal
algorithms_from scope number first [] = Ok []
algorithms_from scope number first (a ∷ others) = do
  it ← algorithm_at scope (numbered (codes "algorithm") number) first a
  later ← algorithms_from scope (number + 1) (first + length a.outputs) others
  Ok (it ∷ later)
