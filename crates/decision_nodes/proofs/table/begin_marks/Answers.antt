use Rattle.std.proofs.Common.{length, sym, ap, subst, ◌∙◌}
use Rattle.decision_nodes.specs.Index.{IsForest}
use Rattle.decision_nodes.specs.Marks.{AreMarks, marked, sequences_of}
use Rattle.decision_nodes.proofs.Beginning.{begun}
use Rattle.decision_nodes.proofs.Hearing.{small_members}
use Rattle.decision_nodes.proofs.table.begin_marks.Goals as goal

pub enter_top-requires-clause-small : goal.enter_top-requires-clause-small
enter_top-requires-clause-small c =
    let same = ap sequences_of c.as_slice.ensures.value ∙ c.begin.ensures.sequences in
    small_members c.as_slice.result.now (length c.args.outcomes.now) c.args.parents.now
    (subst (λ them. IsForest them (length c.args.outcomes.now) c.args.parents.now) (sym same) c.requires.forest)

pub returns-clause-under_way : goal.returns-clause-under_way
returns-clause-under_way c =
    let way =
    c.begin.ensures.tells c.args.top
    (begun c.args.nodes.now.items c.args.outcomes.now c.args.parents.now c.args.top (marked c.new-marks.result) c.requires.forest c.requires.fresh
    c.requires.outcomes c.new-marks.ensures)
    in
    let before = subst (λ them. AreMarks them c.args.top (marked c.begin.new.marks)) (sym c.as_slice.ensures.value) way.marks_are in
    record {
      filled = way.filled;
      said = way.said;
      marks_are = subst (λ them. AreMarks them c.args.top (marked c.enter_top.new.marks)) c.as_slice.ensures.value (c.enter_top.ensures.marks before);
    }
