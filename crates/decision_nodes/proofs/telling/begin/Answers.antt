use Rattle.std.proofs.Common.{◌≡◌, ℕ, ◌+◌, List, ◌++◌, drop, length, sym, subst, ◌∙◌, arith}
use Rattle.std.specs.List.{flat_map}
use Rattle.decision_nodes.specs.Index.{IsForest, places_at}
use Rattle.decision_nodes.specs.Marks.{marked}
use Rattle.decision_nodes.specs.Telling.{IsUnderWay}
use Rattle.decision_nodes.specs.declared.edge.Edge.{Edge}
use Rattle.decision_nodes.proofs.Rising.{next_list, no_list}
use Rattle.decision_nodes.proofs.telling.begin.Goals as goal

pub begin_at-requires-clause-forest : goal.begin_at-requires-clause-forest
begin_at-requires-clause-forest c =
    subst (λ them. IsForest them (length c.args.outcomes.now) c.args.parents.now) (sym c.loop-number.invariant.same) c.requires.forest

pub loop-number-preserved : goal.loop-number-preserved
loop-number-preserved c =
    let lists = c.args.parents.now in
    let i : ℕ = c.loop-number.number in
    let rest : List Edge = flat_map (λ (them : List Edge). them) (drop (i + 1) lists) in
    let next : flat_map (λ (them : List Edge). them) (drop i lists) ≡ places_at lists i ++ rest =
    next_list lists i (omega (arith, c.loop-number-test.true, c.len-number-end.ensures))
    in
    record {
      same = c.begin_at.ensures.sequences ∙ c.loop-number.invariant.same;
      tells = λ top way.
          c.begin_at.ensures.tells top rest
          (subst (λ pending. IsUnderWay c.loop-number.nodes.items c.args.outcomes.now pending top (marked c.loop-number.marks)) next
          (c.loop-number.invariant.tells top way));
    }

pub returns-clause-tells : goal.returns-clause-tells
returns-clause-tells c = λ top way.
    subst (λ pending. IsUnderWay c.loop-number.nodes.items c.args.outcomes.now pending top (marked c.loop-number.marks))
    (no_list c.args.parents.now c.loop-number.number (omega (arith, c.loop-number-test.false, c.len-number-end.ensures)))
    (c.loop-number.invariant.tells top way)
