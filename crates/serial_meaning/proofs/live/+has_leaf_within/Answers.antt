use Rattle.std.proofs.Common.{◌≡◌, ◌<◌, ◌-◌, get_or, sym, ap, ◌∙◌, arith}
use Rattle.std.specs.List.{list_any}
use Rattle.std.proofs.lemmas.List.Folds.{list_any_at}
use Rattle.hive_model.specs.Reached.{is_leaf_of}
use Rattle.hive_model.specs.declared.sequence.Member.TheVariants.{Alg}
use Rattle.serial_meaning.proofs.Any.{none_more, none_all}
use Rattle.serial_meaning.proofs.Nodes.{below_within-zero, below_within-none, leads, leads-leaf, leads-sequence, leaf-below}
use Rattle.serial_meaning.proofs.live.+has_leaf_within.Goals as goal
use Rattle.serial_meaning.proofs.live.+has_leaf_within.Goals.{in-Alg, in-Seq}

pub returns-then-depth-eq0 : goal.returns-then-depth-eq0
returns-then-depth-eq0 t c =
    ap (list_any (is_leaf_of c.args.number))
    (sym (below_within-zero c.args.depth c.args.sequences.now c.args.sequence c.if-depth-eq0.true))

pub returns-in_default : goal.returns-in_default
returns-in_default t c =
    ap (list_any (is_leaf_of c.args.number))
    (sym (below_within-none c.args.depth c.args.sequences.now c.args.sequence c.in_default.ensures))

pub returns-then-found : goal.returns-then-found
returns-then-found t c =
    let some : 0 < c.args.depth = omega arith in
    let q = c.in-Some.sequence.now in
    let sequences = c.args.sequences.now in
    let number = c.args.number in
    let test = leads (c.args.depth - 1) sequences number in
    let members = c.members-member-items.result.now in
    let m = get_or members c.loop-member.member-index (Alg 0) in
    let value : c.match-member.found ≡ test m =
    elim c.match-member.branch [
      | in-Alg w ↦ leads-leaf (c.args.depth - 1) sequences number w.in-Alg.leaf _ m _ w.found-is w.from.ensures w.in-Alg.is
      | in-Seq w ↦
          leads-sequence (c.args.depth - 1) sequences number w.in-Seq.below _ m _
          (w.found-is ∙ w.has_leaf_within-found.ensures) w.from-in-Seq.ensures w.in-Seq.is
    ]
    in
    sym (leaf-below c.args.depth sequences c.args.sequence number q some c.in-Some.ensures
    ∙ ap (list_any test) (sym c.members-member-items.ensures)
    ∙ list_any_at test members c.loop-member.member-index (Alg 0) c.loop-member-test.true (sym value ∙ c.if-found.true))

pub loop-member-preserved : goal.loop-member-preserved
loop-member-preserved t c =
    let sequences = c.args.sequences.now in
    let number = c.args.number in
    let test = leads (c.args.depth - 1) sequences number in
    let members = c.members-member-items.result.now in
    let m = get_or members c.loop-member.member-index (Alg 0) in
    let value : c.match-member.found ≡ test m =
    elim c.match-member.branch [
      | in-Alg w ↦ leads-leaf (c.args.depth - 1) sequences number w.in-Alg.leaf _ m _ w.found-is w.from.ensures w.in-Alg.is
      | in-Seq w ↦
          leads-sequence (c.args.depth - 1) sequences number w.in-Seq.below _ m _
          (w.found-is ∙ w.has_leaf_within-found.ensures) w.from-in-Seq.ensures w.in-Seq.is
    ]
    in
    none_more test members c.loop-member.member-index (Alg 0) c.loop-member-test.true (sym value ∙ c.if-found.false)
    c.loop-member.invariant

pub returns : goal.returns
returns t c =
    let some : 0 < c.args.depth = omega arith in
    let q = c.in-Some.sequence.now in
    let sequences = c.args.sequences.now in
    let test = leads (c.args.depth - 1) sequences c.args.number in
    let members = c.members-member-items.result.now in
    sym (leaf-below c.args.depth sequences c.args.sequence c.args.number q some c.in-Some.ensures
    ∙ ap (list_any test) (sym c.members-member-items.ensures)
    ∙ none_all test members c.loop-member.member-index c.loop-member-test.false c.loop-member.invariant)
