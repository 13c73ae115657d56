use Rattle.std.proofs.Common.{◌∙◌}
use Rattle.decision_nodes.proofs.Counting.{concurrent_waits, concurrent_fixed, concurrent_neutral}
use Rattle.decision_nodes.proofs.deciding.concurrent.Goals as goal

pub returns-then-counts-gt0 : goal.returns-then-counts-gt0
returns-then-counts-gt0 c = λ states undecided fixed.
    c.fixing.ensures ∙ concurrent_fixed c.args.mode_or states c.args.counts.fixing fixed c.if-counts-gt0.true

pub returns-then-counts-gt0-2 : goal.returns-then-counts-gt0-2
returns-then-counts-gt0-2 c = λ states undecided fixed.
    concurrent_waits c.args.mode_or states c.args.counts.undecided c.args.counts.fixing fixed c.if-counts-gt0.false undecided
    c.if-counts-gt0-2.true

pub returns : goal.returns
returns c = λ states undecided fixed.
    c.neutral.ensures
    ∙ concurrent_neutral c.args.mode_or states c.args.counts.undecided c.args.counts.fixing fixed c.if-counts-gt0.false undecided
    c.if-counts-gt0-2.false
