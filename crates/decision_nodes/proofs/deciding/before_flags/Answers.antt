use Rattle.std.proofs.Common.{sym, ◌∙◌, ap}
use Rattle.std.specs.List.{count_by}
use Rattle.hive_model.specs.Decision.{is_fixing, strict, concurrent}
use Rattle.hive_model.specs.Sequence.{Sequence}
use Rattle.decision_nodes.proofs.Counting.{before_strict, before_concurrent}
use Rattle.decision_nodes.proofs.deciding.before_flags.Goals as goal

pub returns-then-not-sequence : goal.returns-then-not-sequence
returns-then-not-sequence c =
    let states = c.args.states.now in
    let mode = ap (λ (it : Sequence). it.mode_or) (sym c.sequence.view_is) in
    let plain = ap (λ (it : Sequence). it.short_circuit) (sym c.sequence.view_is) ∙ c.if-not-sequence.true in
    c.strict.ensures states c.requires.undecided_are (c.requires.fixing_are ∙ ap (λ m. count_by (is_fixing m) states) mode)
    ∙ ap (λ m. strict m states) (sym mode)
    ∙ sym (before_strict c.args.sequence.now states plain)

pub returns : goal.returns
returns c =
    let states = c.args.states.now in
    let mode = ap (λ (it : Sequence). it.mode_or) (sym c.sequence.view_is) in
    let short = ap (λ (it : Sequence). it.short_circuit) (sym c.sequence.view_is) ∙ c.if-not-sequence.false in
    let any_order = ap (λ (it : Sequence). it.sequential) (sym c.sequence.view_is) ∙ c.if-sequence.false in
    c.concurrent.ensures states c.requires.undecided_are (c.requires.fixing_are ∙ ap (λ m. count_by (is_fixing m) states) mode)
    ∙ ap (λ m. concurrent m states) (sym mode)
    ∙ sym (before_concurrent c.args.sequence.now states short any_order)
