use Rattle.std.proofs.Common.{◌≤◌, ◌+◌, sym, ◌∙◌, arith}
use Rattle.event_flow.proofs.Waiting.{live-after, live-found, live-passed}
use Rattle.event_flow.proofs.claims.next_live.Goals as goal

pub returns-then-not-withdrawn : goal.returns-then-not-withdrawn
returns-then-not-withdrawn c =
    let found = c.in-Some.ensures in
    let low : c.args.from ≤ c.in-Some.number = omega (arith, c.loop-number.invariant.low, found.0) in (
      low,
      found.1,
      live-found c.args.tree.now c.args.states.now c.in-Some.number found.2 (sym c.withdrawn.ensures ∙ c.if-not-withdrawn.true),
      λ n above below.
          live-passed c.args.tree.now c.args.states.now c.args.from c.loop-number.at n c.loop-number.invariant.none above
          (λ past. found.3 n past below),
    )

pub loop-number-preserved : goal.loop-number-preserved
loop-number-preserved c =
    let found = c.in-Some.ensures in
    let low : c.args.from ≤ c.in-Some.number + 1 = omega (arith, c.loop-number.invariant.low, found.0) in
    record {
      low = low;
      none = λ n above below.
          live-after c.args.tree.now c.args.states.now c.args.from c.loop-number.at c.in-Some.number n c.loop-number.invariant.none
          (sym c.withdrawn.ensures ∙ c.if-not-withdrawn.false) found.3 above below;
    }

pub returns : goal.returns
returns c = λ n low.
    live-passed c.args.tree.now c.args.states.now c.args.from c.loop-number.at n c.loop-number.invariant.none low
    (λ above. c.in_default.ensures n above)
