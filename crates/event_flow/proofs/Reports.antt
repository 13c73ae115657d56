-- What is told, one sequence or algorithm further.
use Rattle.std.proofs.Common.{◌≡◌, ℕ, ◌+◌, List, [], ◌∷◌, ◌++◌, map, sym, ap, ◌∙◌, append_assoc, arith}
use Rattle.std.specs.List.{range_with_len}
use Rattle.std.proofs.lemmas.List.{append-nil}
use Rattle.std.proofs.lemmas.List.FromFn.{map-range_with_len_more}
use Rattle.algo_states.specs.States.{States}
use Rattle.decision_nodes.specs.Tree.{Tree, decision_in}
use Rattle.hive_model.specs.declared.decision.Decision.{Decision}
use Rattle.hive_model.specs.declared.decision.End.{End}
use Rattle.event_flow.specs.Telling.{decisions_by, end_said, ends_by}

more : {X : Type 0} (f : ℕ → X) (first items later : List X) (i : ℕ) (it : X) →
    items ≡ first ++ map f (range_with_len 0 i) → later ≡ items ++ it ∷ [] → it ≡ f i →
    later ≡ first ++ map f (range_with_len 0 (i + 1))
more f first items later i it before told is =
    told ∙ ap (λ xs. xs ++ it ∷ []) before ∙ append_assoc first (map f (range_with_len 0 i)) (it ∷ [])
    ∙ ap (λ x. first ++ (map f (range_with_len 0 i) ++ x ∷ [])) is
    ∙ ap (λ xs. first ++ xs) (sym (map-range_with_len_more f 0 i i (omega arith)))

pub decisions-none : (tree : Tree) (items : List Decision) → items ≡ items ++ decisions_by tree 0
unfolding decisions_by
decisions-none tree items = sym (append-nil items)

pub decisions-more : (tree : Tree) (first items later : List Decision) (i : ℕ) (it : Decision) →
    items ≡ first ++ decisions_by tree i → later ≡ items ++ it ∷ [] → it ≡ decision_in tree i →
    later ≡ first ++ decisions_by tree (i + 1)
unfolding decisions_by
decisions-more tree first items later i it before told is = more (decision_in tree) first items later i it before told is

pub ends-none : (tree : Tree) (states : States) (items : List End) → items ≡ items ++ ends_by tree states 0
unfolding ends_by
ends-none tree states items = sym (append-nil items)

pub ends-more : (tree : Tree) (states : States) (first items later : List End) (i : ℕ) (it : End) →
    items ≡ first ++ ends_by tree states i → later ≡ items ++ it ∷ [] → it ≡ end_said tree states i →
    later ≡ first ++ ends_by tree states (i + 1)
unfolding ends_by
ends-more tree states first items later i it before told is = more (end_said tree states) first items later i it before told is
