-- A valid job can be run, also on a stack.
use Rattle.std.proofs.Common.{◌≡◌, ℕ, ◌+◌, ◌≤◌, List, [], ◌∷◌, Option, Some, None, IsSome, MatchOption, length, map, refl, ap, ◌∙◌, length-append, arith}
use Rattle.std.specs.List.{AllByRecursion, flat_map}
use Rattle.std.proofs.lemmas.List.{length-map}
use Rattle.event_laws.proofs.Lists.{AllByRecursion-map}
use Rattle.event_laws.proofs.Trees.{tree_of-nodes_of}
use Rattle.hive_model.specs.Algorithm.{Algorithm}
use Rattle.hive_model.specs.Handles.{handle_count, output_kinds}
use Rattle.hive_model.specs.Job.{Job}
use Rattle.hive_model.specs.Runnable.{HasTree, CanExecute, IsRunnable, AreInOrder, CanPerform}
use Rattle.hive_model.specs.Tree.{tree_of}
use Rattle.hive_model.specs.Kinds.{IsExpression, HaveExpressions, HasExpressions}
use Rattle.hive_model.specs.Valid.{IsValidJob}
use Rattle.hive_model.specs.declared.limits.TheConstants.{MOST_HANDLES}
use Rattle.hive_model.specs.declared.algorithm.Output.{Output}
use Rattle.hive_model.specs.declared.expr.Node.{Node}
use Rattle.hive_model.specs.declared.product.Kind.{Kind}

some : {X : Type 0} (o : Option X) (x : X) → o ≡ Some x → IsSome o
some o x e = rw e refl

expression-order : (see : ℕ → Option Kind) (k : Kind) (nodes : List Node) → IsExpression see k nodes → AreInOrder nodes
expression-order see k nodes h = (h.0, h.1)

outputs-order : (job : Job) (a : Algorithm) (above : ℕ) (outputs : List Output) → HaveExpressions job a above outputs →
    AllByRecursion (λ (o : Output). AreInOrder o.value) outputs
outputs-order job a above [] h = tt
outputs-order job a above (o ∷ os) h = (expression-order _ o.kind o.value h.0, outputs-order job a (above + 1) os h.1)

filter-order : (see : ℕ → Option Kind) (k : Kind) (filter : Option (List Node)) → MatchOption filter (Unit {0}) (IsExpression see k) →
    MatchOption filter (Unit {0}) AreInOrder
filter-order see k None h = tt
filter-order see k (Some nodes) h = expression-order see k nodes h

can_perform : (job : Job) (algorithms : List Algorithm) → length (flat_map output_kinds algorithms) ≤ MOST_HANDLES → AllByRecursion (HasExpressions job) algorithms →
    AllByRecursion CanPerform algorithms
can_perform job [] few all = tt
can_perform job (a ∷ rest) few all =
    let own : length (output_kinds a) ≡ length a.outputs = length-map a.outputs _ in
    let both : length (flat_map output_kinds (a ∷ rest)) ≡ length (output_kinds a) + length (flat_map output_kinds rest) = length-append (output_kinds a) _ in (
      record {
        few = omega arith;
        outputs = outputs-order job a 0 a.outputs all.0.0;
        filter = filter-order _ _ a.filter all.0.1;
      },
      can_perform job rest (omega arith) all.1,
    )

pub valid-performs : (job : Job) → IsValidJob job → AllByRecursion CanPerform job.algorithms
valid-performs job valid =
    let all = length-append (map (λ r. r.kind) job.raws) (flat_map output_kinds job.algorithms) in
    let few : handle_count job ≤ MOST_HANDLES = valid.limits.handles in
    can_perform job job.algorithms (omega arith) valid.expressions

-- nodes in order have a tree

order-tree : (nodes : List Node) → AreInOrder nodes → HasTree nodes
order-tree nodes h = some (tree_of nodes) h.0 (ap tree_of h.1 ∙ tree_of-nodes_of h.0)

filter-tree : (filter : Option (List Node)) → MatchOption filter (Unit {0}) AreInOrder → MatchOption filter (Unit {0}) HasTree
filter-tree None h = tt
filter-tree (Some nodes) h = order-tree nodes h

pub performs-executes : (a : Algorithm) → CanPerform a → CanExecute a
performs-executes a h = record {
  few = h.few;
  outputs = AllByRecursion-map (λ (o : Output). AreInOrder o.value) (λ (o : Output). HasTree o.value) (λ o. order-tree o.value) a.outputs h.outputs;
  filter = filter-tree a.filter h.filter;
}

pub valid-runnable : (job : Job) → IsValidJob job → IsRunnable job
valid-runnable job valid = AllByRecursion-map CanPerform CanExecute performs-executes job.algorithms (valid-performs job valid)
