use Rattle.std.proofs.Common.{◌-◌, get_or, sym, ap, subst, ◌∙◌, arith}
use Rattle.hive_model.specs.declared.sequence.Member.TheVariants.{Alg}
use Rattle.decision_nodes.specs.Marks.{AreMarkedFrom, IsNested, Reaches, marked, sequences_of}
use Rattle.decision_nodes.proofs.Marking.{FollowedBy, between_more, entering_more, enters_at, follows_leaf, follows_sequence, marked_all, nested_member, nested_sequence, nested_there, reaches_same}
use Rattle.decision_nodes.proofs.entering.+enter_members.Goals as goal
use Rattle.decision_nodes.proofs.entering.+enter_members.Goals.{in-Alg, in-Seq}

pub node_at-node-requires : goal.node_at-node-requires
node_at-node-requires t c = nested_there c.args.depth c.args.nodes.now c.args.sequence c.requires.nested

pub mark-requires : goal.mark-requires
mark-requires t c =
    let place = c.loop-place.place in
    let at =
    enters_at c.node_at-node.result.now place c.entered-place-end.result c.members.result.now (Alg 0) c.members.ensures
    c.entered-place-end.ensures.count c.entered-place-end.ensures.within c.loop-place-test.true
    in
    c.requires.small c.args.sequence place c.node_at-node.result.now (get_or c.members.result.now place (Alg 0)) c.node_at-node.ensures at.0

pub overflow_sub-depth : goal.overflow_sub-depth
overflow_sub-depth t c = let some = nested_sequence c.args.depth c.args.nodes.now c.args.sequence c.requires.nested in omega (arith, some)

pub enter_members-requires : goal.enter_members-requires
enter_members-requires t c =
    let place = c.loop-place.place in
    let m = get_or c.members.result.now place (Alg 0) in
    let at =
    enters_at c.node_at-node.result.now place c.entered-place-end.result c.members.result.now (Alg 0) c.members.ensures
    c.entered-place-end.ensures.count c.entered-place-end.ensures.within c.loop-place-test.true
    in
    let some = nested_sequence c.args.depth c.args.nodes.now c.args.sequence c.requires.nested in
    let nested =
    nested_member c.args.depth c.args.nodes.now c.args.sequence place c.node_at-node.result.now m c.requires.nested c.node_at-node.ensures at.0
    in (
      omega (arith, some),
      (
        subst (IsNested (c.args.depth - 1) (sequences_of c.args.nodes.now)) c.in-Seq.is nested,
        (c.requires.small, ap (marked c.mark.new.self) (sym c.in-Seq.is) ∙ c.mark.ensures.added),
      ),
    )

pub loop-place-preserved : goal.loop-place-preserved
loop-place-preserved t c =
    let nodes = c.args.nodes.now in
    let n = c.node_at-node.result.now in
    let place = c.loop-place.place in
    let m = get_or c.members.result.now place (Alg 0) in
    let at =
    enters_at n place c.entered-place-end.result c.members.result.now (Alg 0) c.members.ensures
    c.entered-place-end.ensures.count c.entered-place-end.ensures.within c.loop-place-test.true
    in
    let last : Reaches nodes (marked c.mark.new.self) (marked c.match-member.marks) × FollowedBy nodes (marked c.match-member.marks) m =
    elim c.match-member.branch [
      | in-Alg w ↦ (
        subst (λ marks. Reaches nodes (marked c.mark.new.self) (marked marks)) (sym w.marks-is) (reaches_same nodes (marked c.mark.new.self)),
        follows_leaf nodes (marked c.match-member.marks) m _ w.in-Alg.is,
      )
      | in-Seq w ↦ (
        subst (λ marks. Reaches nodes (marked c.mark.new.self) (marked marks)) (sym w.marks-is) w.enter_members.ensures.reaches,
        follows_sequence nodes (marked c.match-member.marks) m _ w.in-Seq.is
            (subst (λ marks. AreMarkedFrom nodes (marked marks) w.in-Seq.below 0) (sym w.marks-is) w.enter_members.ensures.entered),
      )
    ]
    in
    record {
      reaches =
          entering_more nodes (marked c.args.marks.now) (marked c.loop-place.marks) (marked c.mark.new.self) (marked c.match-member.marks)
          c.args.sequence place n m c.loop-place.invariant.reaches c.mark.ensures last.0 last.1 c.requires.sequence c.node_at-node.ensures at.1;
      entered =
          between_more nodes (marked c.loop-place.marks) (marked c.mark.new.self) (marked c.match-member.marks) c.args.sequence c.args.from place n m
          c.loop-place.invariant.entered c.mark.ensures last.0 c.node_at-node.ensures at.1;
    }

pub returns : goal.returns
returns t c =
    record {
      reaches = c.loop-place.invariant.reaches;
      entered =
          marked_all c.args.nodes.now (marked c.loop-place.marks) c.args.sequence c.args.from c.entered-place-end.result c.loop-place.place
          c.node_at-node.result.now c.node_at-node.ensures c.entered-place-end.ensures.count c.loop-place-test.false c.loop-place.invariant.entered;
    }
