use Rattle.std.proofs.Common.{◌≡◌, ◌<◌, length, ap, arith}
use Rattle.std.proofs.lemmas.Bool.{not-false, not-true}
use Rattle.hive_gen.specs.Rest.{rest_of}
use Rattle.hive_gen.proofs.Lines.{event_onward, event_pushed, header_pushed, none_left}
use Rattle.hive_gen.proofs.generator.push_line.Goals as goal

pub returns-then-not-at-clause-text : goal.returns-then-not-at-clause-text
returns-then-not-at-clause-text c =
    header_pushed c.args.at _ _ (not-true c.args.at.headed c.if-not-at.true)
    c.in_ok-extend_from_slice.ensures.items

pub returns-then-at-eq0-clause-onward : goal.returns-then-at-eq0-clause-onward
returns-then-at-eq0-clause-onward c = λ some.
    let none : length (rest_of c.args.at) ≡ 0 = ap length
    (none_left c.args.at (not-false c.args.at.headed c.if-not-at.false) c.if-at-eq0.true) in
    absurd (omega (arith, some, none))

pub returns-clause-text : goal.returns-clause-text
returns-clause-text c =
    let some : 0 < c.args.at.left = omega (arith, c.if-at-eq0.false) in
    event_pushed c.args.at _ _ _ (not-false c.args.at.headed c.if-not-at.false) some
    c.in_ok-state.ensures.text c.in_ok-state.ensures.state

pub returns-clause-onward : goal.returns-clause-onward
returns-clause-onward c = λ some. event_onward c.args.at _ _ c.in_ok-state.ensures.text
