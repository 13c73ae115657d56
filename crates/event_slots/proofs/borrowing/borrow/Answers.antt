use Rattle.std.specs.Arc.{arc_value}
use Rattle.loan_laws.proofs.Undoing.{lent-comes-back, lent-is-made, lent-is-out, lend-undone}
use Rattle.event_slots.proofs.borrowing.borrow.Goals as goal

pub give_back-requires-clause-out : goal.give_back-requires-clause-out
give_back-requires-clause-out c =
    lent-is-out c.args.pools.now c.lend.new.self c.args.number c.args.place c.in-Lent.lent c.load.new.lent
    c.in-Lent.ensures.says c.load.ensures.algorithm c.load.ensures.clone

pub give_back-requires-clause-made_for : goal.give_back-requires-clause-made_for
give_back-requires-clause-made_for c =
    let made = lent-is-made c.args.job.now c.requires.known.0 c.args.pools.now c.lend.new.self c.args.number
    c.args.place
    (arc_value c.args.body.now) c.in-Lent.lent c.requires.known.1 c.requires.of_job c.in-Lent.ensures.says in
    lent-comes-back c.args.job.now c.requires.known.0 c.args.pools.now c.lend.new.self c.args.number
    c.args.place
    (arc_value c.args.body.now) c.in-Lent.lent c.load.new.lent c.requires.known.1 c.requires.of_job
    c.in-Lent.ensures.says
    c.load.ensures.algorithm (c.load.ensures.room (arc_value c.args.body.now) made.1)

pub returns-in-Err : goal.returns-in-Err
returns-in-Err c = (
  c.in-Lent.ensures.says.0,
  lend-undone c.args.pools.now c.lend.new.self c.give_back.new.self c.args.number c.args.place c.in-Lent.lent
      c.load.new.lent
      c.in-Lent.ensures.says c.load.ensures.algorithm c.load.ensures.clone c.give_back.ensures.back,
)
