use Rattle.event_loop.proofs.Ran.{at-rest, out-of, ran-back, ran-done}
use Rattle.event_loop.proofs.performing.run_one.Goals as goal

pub book-booked-requires-clause-out : goal.book-booked-requires-clause-out
book-booked-requires-clause-out c = out-of _ _ _ _ c.in-Job.ensures.says

pub returns-in-Ok-clause-says : goal.returns-in-Ok-clause-says
returns-in-Ok-clause-says c =
    let q = c.requires.quiet in
    ran-done _ _ _ c.in-Job.work q.0 c.requires.desk q.1 c.in-Job.ensures.says c.claim.ensures.desk
    c.in-Ok.ensures.booked c.book-booked.ensures.desk

pub returns-in-Err-clause-says : goal.returns-in-Err-clause-says
returns-in-Err-clause-says c =
    let q = c.requires.quiet in
    ran-back _ _ _ c.in-Job.work q.0 c.requires.desk q.1 c.in-Job.ensures.says c.claim.ensures.desk
    c.in-Err.ensures.back c.book-booked.ensures.desk

pub returns-in-Idle-clause-says : goal.returns-in-Idle-clause-says
returns-in-Idle-clause-says c =
    let q = c.requires.quiet in
    let says = c.in-Idle.ensures.says in
    (says.0, at-rest _ q.0 c.in-Idle.running c.requires.desk q.1 c.requires.rests says.1)
