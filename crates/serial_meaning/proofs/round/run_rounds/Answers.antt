use Rattle.std.proofs.Common.{◌-◌, length, ap}
use Rattle.serial_meaning.proofs.Rounds.{rounds-start, rounds-more, rounds-stop, rounds-all}
use Rattle.serial_meaning.proofs.round.run_rounds.Goals as goal

pub loop-round-init : goal.loop-round-init
loop-round-init c =
    rounds-start c.args.job.now c.args.event.now (length c.algorithms-count.result.now) c.in_ok-ran.ran.items
    (ap length c.algorithms-count.ensures) c.in_ok-ran.ensures

pub returns-then-not-branch : goal.returns-then-not-branch
returns-then-not-branch c =
    rounds-stop c.args.job.now c.args.event.now (length c.algorithms-count.result.now - c.loop-round._round)
    c.loop-round.ran.items c.run_round.new.ran.items
    c.in_ok-run_round.ensures.ran (c.in_ok-run_round.ensures.none c.if-not-branch.true) c.loop-round.invariant

pub loop-round-preserved : goal.loop-round-preserved
loop-round-preserved c =
    rounds-more c.args.job.now c.args.event.now (length c.algorithms-count.result.now) c.loop-round._round
    c.loop-round.ran.items c.run_round.new.ran.items
    c.loop-round-test.true c.in_ok-run_round.ensures.ran c.loop-round.invariant

pub returns : goal.returns
returns c =
    rounds-all c.args.job.now c.args.event.now (length c.algorithms-count.result.now) c.loop-round._round
    c.loop-round.ran.items
    c.loop-round-test.false c.loop-round.invariant
