use Rattle.std.proofs.Common.{sym, ap, ◌∙◌}
use Rattle.std.proofs.lemmas.List.{get_or_default, get_or_past}
use Rattle.hive_model.specs.Decision.{neutral}
use Rattle.hive_model.specs.Sequence.{Sequence}
use Rattle.decision_nodes.proofs.Counting.{sequential_at}
use Rattle.decision_nodes.proofs.deciding.sequential.Goals as goal

pub returns-then-passed-states : goal.returns-then-passed-states
returns-then-passed-states c =
    let q = c.args.sequence.now in
    get_or_default c.args.states.now c.args.passed _ (neutral q.mode_or) c.if-passed-states.true
    ∙ sequential_at q c.args.states.now c.args.passed c.requires.short_circuit c.requires.passed

pub returns-else-passed-states : goal.returns-else-passed-states
returns-else-passed-states c =
    let q = c.args.sequence.now in
    c.neutral.ensures
    ∙ ap (λ (it : Sequence). neutral it.mode_or) c.sequence.view_is
    ∙ sym (get_or_past c.args.states.now c.args.passed (neutral q.mode_or) c.if-passed-states.false)
    ∙ sequential_at q c.args.states.now c.args.passed c.requires.short_circuit c.requires.passed
