use Rattle.std.proofs.Common.{Some, arith}
use Rattle.std.proofs.lemmas.List.Elements.{All-pop}
use Rattle.action_queue.specs.Passes.{left_of}
use Rattle.turn_lock.specs.Pass.{IsIdle}
use Rattle.hive_hall.specs.declared.pass.Pass.{Pass}
use Rattle.hive_hall.proofs.Gathering.{closes-history, closes-queue, gathers-first, gathers-next}
use Rattle.hive_hall.specs.Pass.{Knows}
use Rattle.hive_hall.proofs.hall.Hall.close.Goals as goal

pub loop-pass-init : goal.loop-pass-init
loop-pass-init c =
    gathers-first c.args.self c.args.passes.items c.pop.new.self.items c.in-Some.first c.into_inner-room.result.passes
    c.give.new.list c.in-Some.ensures.some c.requires.all.1 c.into_inner-room.result.empty c.give.ensures.items
    c.give.ensures.spare (omega (arith, c.args.self.few, c.into_inner-room.result.enough))

pub join-requires-clause-other : goal.join-requires-clause-other
join-requires-clause-other c =
    let inv = c.loop-pass.invariant in
    let last = (All-pop (λ (p : Pass). Knows c.args.self.turn c.args.self.queue p × IsIdle p.turn) _ _
    (Some c.in-Some-pop.pass) c.in-Some-pop.ensures.some inv.others).1 in
    (last.0.turn, last.1)

pub loop-pass-preserved : goal.loop-pass-preserved
loop-pass-preserved c =
    let it = c.join.ensures in
    gathers-next c.args.self.turn c.args.self.queue c.args.passes.items c.loop-pass.passes.items c.loop-pass.all
    c.loop-pass.room c.loop-pass.invariant c.pop-in-loop-pass.new.self.items c.in-Some-pop.pass c.join.new.into
    c.give-in-Some-pop.new.list c.in-Some-pop.ensures.some it.pass.0 it.pass.1 it.rights it.prefix it.other_prefix
    it.own c.give-in-Some-pop.ensures.items c.give-in-Some-pop.ensures.spare

pub returns-clause-history : goal.returns-clause-history
returns-clause-history c =
    closes-history c.args.self c.args.passes.items c.loop-pass.passes.items c.loop-pass.all c.loop-pass.room
    c.loop-pass.invariant c.in_default-pop.ensures.none c.close-board.result c.close-board.ensures.seen
    c.close-board.ensures.own c.known.ensures.desk

pub returns-clause-left : goal.returns-clause-left
returns-clause-left c =
    let it = c.end.ensures in
    closes-queue c.args.self c.args.passes.items c.loop-pass.passes.items c.loop-pass.all c.loop-pass.room
    c.loop-pass.invariant c.in_default-pop.ensures.none (left_of c.end.result) it.conserved it.in_order it.of_job
    c.requires.all.0
