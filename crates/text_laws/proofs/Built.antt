-- What the algorithms of a job have of the raw ones: names, kinds, numbers, and their expressions as they were read.
use Rattle.std.proofs.Common.{codes, ◌≡◌, ℕ, zero, suc, ◌+◌, List, [], ◌∷◌, ◌++◌, length, map, filter_map, slice_get, Some, Ok, refl, ap, sym, subst, ◌∙◌}
use Rattle.std.proofs.lemmas.List.{length-map}
use Rattle.std.specs.List.{enumerate_from, flat_map}
use Rattle.hive_model.specs.Algorithm.{Algorithm}
use Rattle.hive_model.specs.DataFlow.{AreNumberedFrom}
use Rattle.hive_model.specs.Handles.{output_kinds}
use Rattle.hive_model.specs.Valid.{output_names}
use Rattle.hive_model.specs.declared.algorithm.Output.{Output}
use Rattle.hive_model.specs.declared.expr.Node.{Node}
use Rattle.hive_model.specs.declared.product.Kind.{Kind}
use Rattle.text_model.specs.JobAlgorithms.{Scope, algorithm_at, algorithms_from, filter_at, inputs_of, output_at, outputs_of}
use Rattle.text_model.specs.Names.{number_of}
use Rattle.text_model.specs.RawOptions.{RawAlgorithm}
use Rattle.text_model.specs.Steps.{◌>>=◌, collect}
use Rattle.text_model.specs.ValuePaths.{numbered}
use Rattle.text_model.specs.declared.named.Named.{Named}
use Rattle.text_model.specs.declared.raw_options.RawOutput.{RawOutput}
use Rattle.text_laws.proofs.Steps.{bound, same-ok}

abbrev pub names_in : List RawOutput → List (List ℕ)
names_in raws = map (λ (o : RawOutput). o.name) raws

abbrev pub kinds_in : List RawOutput → List Kind
kinds_in raws = map (λ (o : RawOutput). o.kind) raws

output-first : (o : RawOutput) (raws : List RawOutput) (nodes : List Node) (y : Output) (ys outputs : List Output) →
    record { name = o.name; kind = o.kind; value = nodes } ≡ y → y ∷ ys ≡ outputs →
    map (λ (o : Output). o.name) ys ≡ names_in raws → map (λ (o : Output). o.kind) ys ≡ kinds_in raws →
    (map (λ (o : Output). o.name) outputs ≡ names_in (o ∷ raws)) × (map (λ (o : Output). o.kind) outputs ≡ kinds_in (o ∷ raws))
output-first o raws nodes y ys outputs this all names kinds =
    rw (← all, ← this) (ap (λ ns. o.name ∷ ns) names, ap (λ ks. o.kind ∷ ks) kinds)

outputs-told : (path : List ℕ) (inputs all : List Named) (n : ℕ) (raws : List RawOutput) (outputs : List Output) →
    collect (output_at path inputs all) (enumerate_from n raws) ≡ Ok outputs →
    (map (λ (o : Output). o.name) outputs ≡ names_in raws) × (map (λ (o : Output). o.kind) outputs ≡ kinds_in raws)
unfolding collect output_at
outputs-told path inputs all n [] outputs e =
    let none : [] ≡ outputs = same-ok [] outputs e in rw (← none) (refl, refl)
outputs-told path inputs all n (o ∷ raws) outputs e =
    let (y, made, rest) = bound (output_at path inputs all (n, o))
    (λ y. collect (output_at path inputs all) (enumerate_from (n + 1) raws) >>= λ ys. Ok (y ∷ ys)) outputs e in
    let (ys, later, same) = bound (collect (output_at path inputs all) (enumerate_from (n + 1) raws)) (λ ys. Ok (y ∷ ys)) outputs rest in
    let (nodes, read, is) = bound _ (λ (nodes : List Node). Ok (record { name = o.name; kind = o.kind; value = nodes })) y made in
    let all_of : y ∷ ys ≡ outputs = same-ok (y ∷ ys) outputs same in
    let this : record { name = o.name; kind = o.kind; value = nodes } ≡ y = same-ok (record { name = o.name; kind = o.kind; value = nodes }) y is in
    let (names, kinds) = outputs-told path inputs all (n + 1) raws ys later in
    output-first o raws nodes y ys outputs this all_of names kinds

-- an algorithm as it was built
pub record IsBuilt (scope : Scope) (first : ℕ) (raw : RawAlgorithm) (it : Algorithm) : Type 0 where
  pub path : List ℕ
  pub name : it.name ≡ raw.name
  pub cardinality : it.cardinality ≡ raw.cardinality
  pub resources : it.resources ≡ filter_map (number_of scope.resources) raw.resources
  pub inputs : it.inputs ≡ map (λ (n : Named). n.handle) (inputs_of scope raw)
  pub first_output : it.first_output ≡ first
  pub names : output_names it ≡ names_in raw.outputs
  pub kinds : output_kinds it ≡ kinds_in raw.outputs
  pub outputs : collect (output_at path (inputs_of scope raw) (outputs_of first raw)) (enumerate_from 0 raw.outputs) ≡ Ok it.outputs
  pub filter : filter_at path (inputs_of scope raw ++ outputs_of first raw) raw.filter ≡ Ok it.filter

algorithm-built : (scope : Scope) (path : List ℕ) (first : ℕ) (raw : RawAlgorithm) (it : Algorithm) → algorithm_at scope path first raw ≡ Ok it →
    IsBuilt scope first raw it
unfolding algorithm_at
algorithm-built scope path first raw it e =
    let (outputs, made, rest) = bound (collect (output_at path (inputs_of scope raw) (outputs_of first raw)) (enumerate_from 0 raw.outputs)) _ it e in
    let (filter, read, is) = bound (filter_at path (inputs_of scope raw ++ outputs_of first raw) raw.filter) _ it rest in
    let this = same-ok _ it is in
    let (names, kinds) = outputs-told path (inputs_of scope raw) (outputs_of first raw) 0 raw.outputs outputs made in
    subst (λ (x : Algorithm). IsBuilt scope first raw x) this (record {
      path = path;
      name = refl;
      cardinality = refl;
      resources = refl;
      inputs = refl;
      first_output = refl;
      names = names;
      kinds = kinds;
      outputs = made;
      filter = read;
    })

-- each algorithm behind the other, its outputs behind those of the ones before
unfoldable pub AreBuilt : Scope → ℕ → List RawAlgorithm → List Algorithm → Type 0
AreBuilt scope first [] [] = Unit {0}
AreBuilt scope first [] (it ∷ built) = ⊥
AreBuilt scope first (raw ∷ raws) [] = ⊥
AreBuilt scope first (raw ∷ raws) (it ∷ built) = IsBuilt scope first raw it × AreBuilt scope (first + length raw.outputs) raws built

pub algorithms-built : (scope : Scope) (n first : ℕ) (raws : List RawAlgorithm) (all : List Algorithm) → algorithms_from scope n first raws ≡ Ok all →
    AreBuilt scope first raws all
unfolding algorithms_from AreBuilt
algorithms-built scope n first [] all e = let none : [] ≡ all = same-ok [] all e in rw (← none) tt
algorithms-built scope n first (raw ∷ raws) all e =
    let (it, made, rest) = bound (algorithm_at scope (numbered (codes "algorithm") n) first raw)
    (λ it. algorithms_from scope (n + 1) (first + length raw.outputs) raws >>= λ later. Ok (it ∷ later)) all e in
    let (later, built, is) = bound (algorithms_from scope (n + 1) (first + length raw.outputs) raws) (λ later. Ok (it ∷ later)) all rest in
    let this : it ∷ later ≡ all = same-ok (it ∷ later) all is in
    subst (λ (them : List Algorithm). AreBuilt scope first (raw ∷ raws) them) this (
      algorithm-built scope (numbered (codes "algorithm") n) first raw it made,
      algorithms-built scope (n + 1) (first + length raw.outputs) raws later built,
    )

-- what holds of each built algorithm, and what is built of it at its number
pub record IsBuiltAt (scope : Scope) (raws : List RawAlgorithm) (n : ℕ) (it : Algorithm) : Type 0 where
  pub raw : RawAlgorithm
  pub there : slice_get raws n ≡ Some raw
  pub first : ℕ
  pub built : IsBuilt scope first raw it

pub built-at : (scope : Scope) (first : ℕ) (raws : List RawAlgorithm) (all : List Algorithm) (n : ℕ) (it : Algorithm) → AreBuilt scope first raws all →
    slice_get all n ≡ Some it → IsBuiltAt scope raws n it
unfolding AreBuilt
built-at scope first [] [] n it h e = cc
built-at scope first [] (a ∷ all) n it h e = absurd h
built-at scope first (raw ∷ raws) [] n it h e = absurd h
built-at scope first (raw ∷ raws) (a ∷ all) zero it (h, hs) e =
    let same : a ≡ it = cc in record { raw = raw; there = refl; first = first; built = subst (λ (x : Algorithm). IsBuilt scope first raw x) same h }
built-at scope first (raw ∷ raws) (a ∷ all) (suc n) it (h, hs) e =
    let later = built-at scope (first + length raw.outputs) raws all n it hs e in
    record { raw = later.raw; there = later.there; first = later.first; built = later.built }

pub names_built : (scope : Scope) (first : ℕ) (raws : List RawAlgorithm) (all : List Algorithm) → AreBuilt scope first raws all →
    map (λ (a : Algorithm). a.name) all ≡ map (λ (a : RawAlgorithm). a.name) raws
unfolding AreBuilt
names_built scope first [] [] h = refl
names_built scope first [] (it ∷ all) h = absurd h
names_built scope first (raw ∷ raws) [] h = absurd h
names_built scope first (raw ∷ raws) (it ∷ all) (h, hs) = rw (h.name, names_built scope (first + length raw.outputs) raws all hs) refl

pub as-many-built : (scope : Scope) (first : ℕ) (raws : List RawAlgorithm) (all : List Algorithm) → AreBuilt scope first raws all →
    length all ≡ length raws
as-many-built scope first raws all h =
    sym (length-map all (λ (a : Algorithm). a.name)) ∙ ap length (names_built scope first raws all h) ∙ length-map raws (λ (a : RawAlgorithm). a.name)

pub output_names_built : (scope : Scope) (first : ℕ) (raws : List RawAlgorithm) (all : List Algorithm) → AreBuilt scope first raws all →
    flat_map output_names all ≡ flat_map (λ (a : RawAlgorithm). names_in a.outputs) raws
unfolding AreBuilt
output_names_built scope first [] [] h = refl
output_names_built scope first [] (it ∷ all) h = absurd h
output_names_built scope first (raw ∷ raws) [] h = absurd h
output_names_built scope first (raw ∷ raws) (it ∷ all) (h, hs) = rw (h.names, output_names_built scope (first + length raw.outputs) raws all hs) refl

pub output-kinds-built : (scope : Scope) (first : ℕ) (raws : List RawAlgorithm) (all : List Algorithm) → AreBuilt scope first raws all →
    flat_map output_kinds all ≡ flat_map (λ (a : RawAlgorithm). kinds_in a.outputs) raws
unfolding AreBuilt
output-kinds-built scope first [] [] h = refl
output-kinds-built scope first [] (it ∷ all) h = absurd h
output-kinds-built scope first (raw ∷ raws) [] h = absurd h
output-kinds-built scope first (raw ∷ raws) (it ∷ all) (h, hs) = rw (h.kinds, output-kinds-built scope (first + length raw.outputs) raws all hs) refl

pub as-many-outputs : (scope : Scope) (first : ℕ) (raw : RawAlgorithm) (it : Algorithm) → IsBuilt scope first raw it → length it.outputs ≡ length raw.outputs
as-many-outputs scope first raw it h =
    sym (length-map it.outputs (λ (o : Output). o.name)) ∙ ap length h.names ∙ length-map raw.outputs (λ (o : RawOutput). o.name)

pub numbered-built : (scope : Scope) (first : ℕ) (raws : List RawAlgorithm) (all : List Algorithm) → AreBuilt scope first raws all → AreNumberedFrom first all
unfolding AreBuilt
numbered-built scope first [] [] h = tt
numbered-built scope first [] (it ∷ all) h = absurd h
numbered-built scope first (raw ∷ raws) [] h = absurd h
numbered-built scope first (raw ∷ raws) (it ∷ all) (h, hs) = (
  h.first_output,
  subst (λ (n : ℕ). AreNumberedFrom (first + n) all) (sym (as-many-outputs scope first raw it h)) (numbered-built scope (first + length raw.outputs) raws all hs),
)
