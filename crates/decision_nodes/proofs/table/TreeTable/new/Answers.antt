use Rattle.std.proofs.Common.{ℕ, Option, None, List, [], length, map, replicate, sym, ap, ap₂, subst, ◌∙◌}
use Rattle.std.specs.List.{list_any}
use Rattle.std.proofs.lemmas.List.{length-replicate}
use Rattle.hive_model.specs.Job.{Job}
use Rattle.hive_model.specs.Sequence.{Sequence}
use Rattle.hive_model.specs.declared.outcome.Outcome.{Outcome}
use Rattle.hive_model.specs.declared.sequence.Member.TheVariants.{Seq}
use Rattle.decision_nodes.specs.Index.{IsIn, IsIndex, StandsAt}
use Rattle.decision_nodes.specs.Marks.{marked, sequences_of}
use Rattle.decision_nodes.specs.Standing.{fresh}
use Rattle.decision_nodes.specs.Table.{IsTable}
use Rattle.decision_nodes.specs.Telling.{IsUnderWay}
use Rattle.decision_nodes.specs.Tree.{Tree, cleared}
use Rattle.decision_nodes.proofs.Found.{forest_of, sequences_fresh, table_of, valid_members}
use Rattle.decision_nodes.proofs.table.TreeTable.new.Goals as goal

pub index_of-requires-clause-members : goal.index_of-requires-clause-members
index_of-requires-clause-members c = λ e m at.
    let job = c.args.job.now in
    subst (λ k. IsIn k (length c.sequences-sequences.result.now) m) (ap length (sym c.algorithms-algorithms.ensures))
    (subst (λ k. IsIn (length job.algorithms) k m) (ap length (sym c.sequences-sequences.ensures))
    (valid_members job c.requires e m (subst (λ them. StandsAt them e m) c.sequences-sequences.ensures at)))

pub begin_marks-marks-requires-clause-forest : goal.begin_marks-marks-requires-clause-forest
begin_marks-marks-requires-clause-forest c =
    let job = c.args.job.now in
    forest_of job c.in_ok-nodes.nodes.items c.in_ok-index.index.leaves c.in_ok-index.index.parents (length c.as_slice.result.now) c.requires
    (ap sequences_of c.in_ok-nodes.ensures ∙ sequences_fresh c.sequences-sequences.result.now ∙ c.sequences-sequences.ensures)
    (ap length (c.as_slice.ensures.value ∙ c.in_ok-outcomes.ensures) ∙ length-replicate (length c.algorithms-algorithms.result.now) None
    ∙ ap length c.algorithms-algorithms.ensures)
    (subst (λ them. IsIndex them c.in_ok-index.index.leaves c.in_ok-index.index.parents) c.sequences-sequences.ensures c.in_ok-index.ensures.index)
    (c.in_ok-index.ensures.parents ∙ ap length c.sequences-sequences.ensures)

pub begin_marks-marks-requires-clause-fresh : goal.begin_marks-marks-requires-clause-fresh
begin_marks-marks-requires-clause-fresh c =
    c.in_ok-nodes.ensures
    ∙ ap (map fresh) (sym (ap sequences_of c.in_ok-nodes.ensures ∙ sequences_fresh c.sequences-sequences.result.now))

pub invariant_of-result : goal.invariant_of-result
invariant_of-result c =
    let job = c.args.job.now in
    let top = ap (λ (j : Job). j.top) c.job.view_is in
    let way : IsUnderWay c.begin_marks-marks.new.nodes.items c.in_ok-outcomes.outcomes.items [] job.top (marked c.begin_marks-marks.result) =
    subst (λ k. IsUnderWay c.begin_marks-marks.new.nodes.items c.in_ok-outcomes.outcomes.items [] k (marked c.begin_marks-marks.result)) top
    (subst (λ them. IsUnderWay c.begin_marks-marks.new.nodes.items them [] c.job.inside.top (marked c.begin_marks-marks.result)) c.as_slice.ensures.value
    c.begin_marks-marks.ensures.under_way)
    in (
      subst (λ k. IsTable c.begin_marks-marks.new.nodes.items c.in_ok-index.index.leaves c.in_ok-index.index.parents c.in_ok-outcomes.outcomes.items k
          (marked c.begin_marks-marks.result)) (sym top)
          (table_of job c.begin_marks-marks.new.nodes.items c.in_ok-index.index.leaves c.in_ok-index.index.parents c.in_ok-outcomes.outcomes.items
          (marked c.begin_marks-marks.result) c.requires
          (c.begin_marks-marks.ensures.sequences ∙ ap sequences_of c.in_ok-nodes.ensures ∙ sequences_fresh c.sequences-sequences.result.now ∙ c.sequences-sequences.ensures)
          (ap length c.in_ok-outcomes.ensures ∙ length-replicate (length c.algorithms-algorithms.result.now) None ∙ ap length c.algorithms-algorithms.ensures)
          (subst (λ them. IsIndex them c.in_ok-index.index.leaves c.in_ok-index.index.parents) c.sequences-sequences.ensures c.in_ok-index.ensures.index)
          (c.in_ok-index.ensures.leaves ∙ ap length c.algorithms-algorithms.ensures)
          (c.in_ok-index.ensures.parents ∙ ap length c.sequences-sequences.ensures)
          way (ap (λ k. marked c.begin_marks-marks.result (Seq k)) (sym top) ∙ c.begin_marks-marks.ensures.top)),
      c.has_cuts.ensures
          ∙ ap (list_any (λ (q : Sequence). q.cut))
          (sym (c.begin_marks-marks.ensures.sequences ∙ ap sequences_of c.in_ok-nodes.ensures ∙ sequences_fresh c.sequences-sequences.result.now)),
    )

pub returns : goal.returns
returns c =
    let same = c.begin_marks-marks.ensures.sequences ∙ ap sequences_of c.in_ok-nodes.ensures ∙ sequences_fresh c.sequences-sequences.result.now ∙ c.sequences-sequences.ensures in
    let none = c.in_ok-outcomes.ensures ∙ ap (λ (k : ℕ). replicate k None) (ap length c.algorithms-algorithms.ensures) in
    ap₂ (λ (them : List Sequence) (others : List (Option Outcome)).
    let it : Tree = record { sequences = them; top = c.job.inside.top; outcomes = others } in it) same none
    ∙ ap (λ (j : Job). cleared c.args.job.now.sequences j.top (length c.args.job.now.algorithms)) c.job.view_is
