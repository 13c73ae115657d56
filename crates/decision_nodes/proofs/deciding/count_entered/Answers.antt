use Rattle.std.proofs.Common.{sym, ap, ◌∙◌}
use Rattle.std.proofs.lemmas.Bool.{false≢true}
use Rattle.hive_model.specs.Sequence.{Sequence}
use Rattle.decision_nodes.proofs.Counting.{entered_some, entered_all}
use Rattle.decision_nodes.proofs.deciding.count_entered.Goals as goal
use Rattle.decision_nodes.proofs.deciding.count_entered.Goals.{else-sequence-via-then-sequence+else-counts-states, else-sequence-via-else-sequence}

pub returns-then-counts-states : goal.returns-then-counts-states
returns-then-counts-states c =
    let in_order = ap (λ (it : Sequence). it.sequential) (sym c.sequence.view_is) ∙ c.if-sequence.true in
    entered_some c.args.sequence.now c.args.states.now c.args.counts.passed in_order c.requires.counts.passed_are c.requires.filled
    c.if-counts-states.true

pub returns-else-sequence : goal.returns-else-sequence
returns-else-sequence c =
    let same = ap (λ (it : Sequence). it.sequential) c.sequence.view_is in
    entered_all c.args.sequence.now c.args.states.now c.args.counts.passed
    (elim c.else-sequence.branch [
      | else-sequence-via-then-sequence+else-counts-states w ↦ λ in_order. w.if-counts-states.false
      | else-sequence-via-else-sequence w ↦ λ in_order. absurd (false≢true (sym w.if-sequence.false ∙ same ∙ in_order))
    ])
    c.requires.counts.passed_are c.requires.filled
