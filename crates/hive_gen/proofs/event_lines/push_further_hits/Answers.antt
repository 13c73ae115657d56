use Rattle.std.proofs.Common.{◌≡◌, ◌+◌, ◌<◌, ◌∷◌, [], length, ◌∙◌, ap, sym, arith, length-append}
use Rattle.hive_gen.proofs.Drawing.{moved_on, state_after-none, written_all, written_further}
use Rattle.text_model.specs.declared.bytes.TheConstants.{SPACE}
use Rattle.hive_gen.proofs.event_lines.push_further_hits.Goals as goal

pub loop-left-preserved : goal.loop-left-preserved
loop-left-preserved c =
    let some : 0 < c.loop-left.left = omega (arith, c.loop-left-test.true) in
    let moved = c.next_state-latest in
    let text =
    written_further c.loop-left.left c.loop-left.latest moved.result c.drawn.result _ _ _ _ some moved.ensures
    c.drawn.ensures c.in_ok-push.ensures.items c.in_ok-push_hit.ensures.text c.loop-left.invariant.0 in
    let state = moved_on c.loop-left.left c.loop-left.latest moved.result some moved.ensures in
    let spaced : length c.push.new.self.items ≡ length c.loop-left.out.items + 1 =
    ap length c.in_ok-push.ensures.items ∙ length-append c.loop-left.out.items (SPACE ∷ []) in
    let hit = c.in_ok-push_hit.ensures.short in
    let before = c.loop-left.invariant.2 in
    (text, state ∙ c.loop-left.invariant.1, omega (arith, spaced, hit, before, some))

pub returns-clause-text : goal.returns-clause-text
returns-clause-text c =
    let none : c.loop-left.left ≡ 0 = omega (arith, c.loop-left-test.false) in
    written_all c.loop-left.left c.loop-left.latest _ _ none c.loop-left.invariant.0

pub returns-clause-state : goal.returns-clause-state
returns-clause-state c =
    let none : c.loop-left.left ≡ 0 = omega (arith, c.loop-left-test.false) in
    sym (state_after-none c.loop-left.left c.loop-left.latest none) ∙ c.loop-left.invariant.1
