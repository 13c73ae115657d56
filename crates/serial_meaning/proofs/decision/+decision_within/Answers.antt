use Rattle.std.proofs.Common.{◌≡◌, ◌<◌, ◌-◌, get_or, map, sym, ap, ◌∙◌, arith}
use Rattle.std.proofs.lemmas.List.{take_all}
use Rattle.event_laws.proofs.Nesting.{decision_within-leaf, decision_within-sequence, decision_within-zero, decision_within-none}
use Rattle.hive_model.specs.Decision.{decision_within, node_decision}
use Rattle.hive_model.specs.declared.sequence.Member.TheVariants.{Alg, Seq}
use Rattle.serial_meaning.proofs.Joined.{mapped_more}
use Rattle.serial_meaning.proofs.decision.+decision_within.Goals as goal
use Rattle.serial_meaning.proofs.decision.+decision_within.Goals.{in-Alg, in-Seq+in_ok-decision-in-Seq}

pub returns-then-depth-eq0 : goal.returns-then-depth-eq0
returns-then-depth-eq0 t c =
    sym (decision_within-zero c.args.depth c.args.sequences.now c.args.outcomes.now c.args.number c.if-depth-eq0.true)

pub returns-in_default : goal.returns-in_default
returns-in_default t c =
    sym (decision_within-none c.args.depth c.args.sequences.now c.args.outcomes.now c.args.number c.in_default.ensures)

pub loop-member-preserved : goal.loop-member-preserved
loop-member-preserved t c =
    let decide = decision_within (c.args.depth - 1) c.args.sequences.now c.args.outcomes.now in
    let members = c.members-member-items.result.now in
    let value : c.match-member.decision ≡ decide (get_or members c.loop-member.member-index (Alg 0)) =
    elim c.match-member.branch [
      | in-Alg w ↦
          w.decision-is ∙ w.leaf_decision-decision.ensures
          ∙ sym (decision_within-leaf (c.args.depth - 1) c.args.sequences.now c.args.outcomes.now w.in-Alg.leaf)
          ∙ ap decide (sym w.in-Alg.is)
      | in-Seq+in_ok-decision-in-Seq w ↦
          w.decision-is ∙ w.in_ok-decision-in-Seq.ensures ∙ ap (λ n. decide (Seq n)) w.from.ensures
          ∙ ap decide (sym w.in-Seq.is)
    ]
    in
    mapped_more decide members c.loop-member.member-index (Alg 0) c.loop-member.decisions.items c.push.new.self.items _
    c.loop-member-test.true
    c.loop-member.invariant c.in_ok-push.ensures.items value

pub returns : goal.returns
returns t c =
    let some : 0 < c.args.depth = omega arith in
    let q = c.in-Some.sequence.now in
    let decide = decision_within (c.args.depth - 1) c.args.sequences.now c.args.outcomes.now in
    let items = c.members-member-items.result.now in
    let members = take_all c.loop-member.member-index items c.loop-member-test.false ∙ c.members-member-items.ensures in
    c.node_decision.ensures
    ∙ ap (node_decision q) (c.as_slice.ensures.value ∙ c.loop-member.invariant ∙ ap (map decide) members)
    ∙ sym
    (decision_within-sequence c.args.depth c.args.sequences.now c.args.outcomes.now c.args.number q some c.in-Some.ensures)
