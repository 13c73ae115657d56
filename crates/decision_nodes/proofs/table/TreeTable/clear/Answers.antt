use Rattle.std.proofs.Common.{◌≡◌, Option, None, List, [], length, map, refl, sym, ap, ap₂, subst, ◌∙◌, arith}
use Rattle.std.specs.List.{list_any}
use Rattle.std.proofs.lemmas.List.{length-replicate}
use Rattle.hive_model.specs.Sequence.{Sequence}
use Rattle.hive_model.specs.declared.outcome.Outcome.{Outcome}
use Rattle.decision_nodes.specs.Index.{IsForest}
use Rattle.decision_nodes.specs.Marks.{marked, sequences_of}
use Rattle.decision_nodes.specs.Standing.{fresh}
use Rattle.decision_nodes.specs.Telling.{IsUnderWay}
use Rattle.decision_nodes.specs.Tree.{Tree, cleared}
use Rattle.decision_nodes.proofs.Beginning.{table_with}
use Rattle.decision_nodes.proofs.Found.{sequences_fresh}
use Rattle.decision_nodes.proofs.Hearing.{same_length}
use Rattle.decision_nodes.proofs.Meaning.{table_reached}
use Rattle.decision_nodes.proofs.table.TreeTable.clear.Goals as goal

pub begin_marks-marks-requires-clause-forest : goal.begin_marks-marks-requires-clause-forest
begin_marks-marks-requires-clause-forest c =
    let nodes = c.self.inside.nodes.items in
    let same : sequences_of c.clear_nodes.new.nodes.items ≡ sequences_of nodes = ap sequences_of c.clear_nodes.ensures ∙ sequences_fresh (sequences_of nodes) in
    let count : length c.as_slice.result.now ≡ length c.self.inside.outcomes.items =
    ap length (c.as_slice.ensures.value ∙ c.forget.ensures) ∙ length-replicate (length c.self.inside.outcomes.items) None
    in
    subst (λ k. IsForest (sequences_of c.clear_nodes.new.nodes.items) k c.self.inside.parents) (sym count)
    (subst (λ them. IsForest them (length c.self.inside.outcomes.items) c.self.inside.parents) (sym same) c.self.invariant.0.forest)

pub begin_marks-marks-requires-clause-fresh : goal.begin_marks-marks-requires-clause-fresh
begin_marks-marks-requires-clause-fresh c =
    let nodes = c.self.inside.nodes.items in
    let same : sequences_of c.clear_nodes.new.nodes.items ≡ sequences_of nodes = ap sequences_of c.clear_nodes.ensures ∙ sequences_fresh (sequences_of nodes) in
    c.clear_nodes.ensures ∙ ap (map fresh) (sym same)

pub invariant_of-self : goal.invariant_of-self
invariant_of-self c =
    let nodes = c.self.inside.nodes.items in
    let cleared_same : sequences_of c.clear_nodes.new.nodes.items ≡ sequences_of nodes = ap sequences_of c.clear_nodes.ensures ∙ sequences_fresh (sequences_of nodes) in
    let same = c.begin_marks-marks.ensures.sequences ∙ cleared_same in
    let long = ap length same in
    let way : IsUnderWay c.begin_marks-marks.new.nodes.items c.forget.new.outcomes.items [] c.self.inside.top (marked c.begin_marks-marks.result) =
    subst (λ them. IsUnderWay c.begin_marks-marks.new.nodes.items them [] c.self.inside.top (marked c.begin_marks-marks.result)) c.as_slice.ensures.value
    c.begin_marks-marks.ensures.under_way
    in (
      table_with nodes c.begin_marks-marks.new.nodes.items c.self.inside.leaves c.self.inside.parents c.self.inside.outcomes.items c.forget.new.outcomes.items
          c.self.inside.top (marked c.self.inside.marks) (marked c.begin_marks-marks.result) c.self.invariant.0 same
          (ap length c.forget.ensures ∙ length-replicate (length c.self.inside.outcomes.items) None)
          (omega (arith, long, same_length nodes, same_length c.begin_marks-marks.new.nodes.items)) way c.begin_marks-marks.ensures.top,
      c.self.invariant.1 ∙ ap (list_any (λ (q : Sequence). q.cut)) (sym same),
    )

pub returns-clause-outcomes : goal.returns-clause-outcomes
returns-clause-outcomes c =
    let nodes = c.self.inside.nodes.items in
    let cleared_same : sequences_of c.clear_nodes.new.nodes.items ≡ sequences_of nodes = ap sequences_of c.clear_nodes.ensures ∙ sequences_fresh (sequences_of nodes) in
    let same = c.begin_marks-marks.ensures.sequences ∙ cleared_same in
    ap₂ (λ (them : List Sequence) (others : List (Option Outcome)).
    let it : Tree = record { sequences = them; top = c.self.inside.top; outcomes = others } in it) same c.forget.ensures
    ∙ ap (λ (t : Tree). cleared t.sequences t.top (length t.outcomes)) c.self.view_is

pub returns-clause-reached : goal.returns-clause-reached
returns-clause-reached c = λ a.
    let new = invariant_of-self c in
    table_reached c.begin_marks-marks.new.nodes.items c.self.inside.leaves c.self.inside.parents c.forget.new.outcomes.items c.self.inside.top
    (marked c.begin_marks-marks.result) new.0 _ refl a
