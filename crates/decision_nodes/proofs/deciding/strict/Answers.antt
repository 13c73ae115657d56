use Rattle.std.proofs.Common.{◌∙◌}
use Rattle.decision_nodes.proofs.Counting.{strict_waits, strict_fixed, strict_neutral}
use Rattle.decision_nodes.proofs.deciding.strict.Goals as goal

pub returns-then-counts-gt0 : goal.returns-then-counts-gt0
returns-then-counts-gt0 c = λ states undecided fixed. strict_waits c.args.mode_or states c.args.counts.undecided undecided c.if-counts-gt0.true

pub returns-then-counts-gt0-2 : goal.returns-then-counts-gt0-2
returns-then-counts-gt0-2 c = λ states undecided fixed.
    c.fixing.ensures
    ∙ strict_fixed c.args.mode_or states c.args.counts.undecided c.args.counts.fixing undecided c.if-counts-gt0.false fixed c.if-counts-gt0-2.true

pub returns : goal.returns
returns c = λ states undecided fixed.
    c.neutral.ensures
    ∙ strict_neutral c.args.mode_or states c.args.counts.undecided c.args.counts.fixing undecided c.if-counts-gt0.false fixed
    c.if-counts-gt0-2.false
