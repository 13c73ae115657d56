use Rattle.std.proofs.Common.{◌-◌, ◌∙◌, arith, refl}
use Rattle.hive_hall.proofs.Dealing.{deals-none, deals-one, fresh-more, made-fresh, next-unused, numbers-more}
use Rattle.hive_hall.specs.Dealing.{IsFresh}
use Rattle.hive_hall.proofs.opening.deal.Goals as goal

pub loop-number-init : goal.loop-number-init
loop-number-init c = deals-none c.args.turn c.args.queue c.args.passes c.args.first c.args.dealt c.args.made
    c.requires.lock c.requires.line

pub split-requires-clause-pass : goal.split-requires-clause-pass
split-requires-clause-pass c = (c.loop-number.invariant.turn, c.loop-number.invariant.idle)

pub split-requires-clause-rights : goal.split-requires-clause-rights
split-requires-clause-rights c =
    let right = c.loop-number.invariant.right in
    let more = c.loop-number-test.true in
    omega arith

pub loop-number-preserved : goal.loop-number-preserved
loop-number-preserved c =
    let inv = c.loop-number.invariant in
    let it = c.in-Ok.ensures in
    let q = next-unused c.args.queue _ _ c.next-queue.result c.next-queue.ensures.pass inv.unused in
    let fresh = made-fresh c.args.turn c.args.queue
    (record { turn = c.in-Ok.right; queue = c.next-queue.result; number = c.loop-number.number }) it.new_pass.0
    it.new_pass.1 it.new_rights (it.new_seen ∙ inv.opened) it.new_own q.1 c.requires.legal in
    deals-one c.args.turn c.args.queue c.args.passes c.loop-number.number c.loop-number.first c.split.new.pass
    c.loop-number.dealt c.next-queue.new.dealt c.loop-number.made c.give.new.list c.next-queue.result _ inv
    it.pass.0 it.pass.1 it.rights it.same.0 it.same.1 c.next-queue.ensures.pass c.next-queue.ensures.spare
    c.give.ensures.items c.give.ensures.spare fresh refl

pub returns-clause-passes : goal.returns-clause-passes
returns-clause-passes c =
    let inv = c.loop-number.invariant in
    let q = next-unused c.args.queue _ _ c.next.result c.next.ensures.pass inv.unused in
    let some = c.requires.some in
    let end = c.loop-number.auto.number-end in
    let right = inv.right in
    fresh-more c.args.turn c.args.queue c.loop-number.made.items _ _ c.give-2.ensures.items inv.fresh
    (made-fresh c.args.turn c.args.queue
    (record { turn = c.loop-number.first; queue = c.next.result; number = c.args.passes - 1 }) inv.turn inv.idle
    (omega (arith, c.loop-number-test.false)) inv.opened inv.none q.1 c.requires.legal)

pub returns-clause-numbers : goal.returns-clause-numbers
returns-clause-numbers c =
    let inv = c.loop-number.invariant in
    let count = inv.count in
    let end = c.loop-number.auto.number-end in
    numbers-more c.loop-number.made.items _ _ c.give-2.ensures.items inv.numbers
    (omega (arith, c.loop-number-test.false))
