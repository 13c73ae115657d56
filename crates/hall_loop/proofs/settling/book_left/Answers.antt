use Rattle.hall_loop.proofs.LeftResults.{booking-job, booking-none, books-one, drops-one}
use Rattle.hall_loop.proofs.settling.book_left.Goals as goal

pub loop-done-init : goal.loop-done-init
loop-done-init g c = booking-none c.args.desk.now _ c.requires.desk c.requires.of_job

pub done-requires : goal.done-requires
done-requires g c =
    booking-job c.args.desk.now c.loop-done.desk c.in-Some.done _ _ _ c.loop-done.invariant (c.in-Some.ensures)

pub loop-done-preserved-in-Booked : goal.loop-done-preserved-in-Booked
loop-done-preserved-in-Booked g c =
    books-one c.args.desk.now c.loop-done.desk c.done.new.self c.in-Some.done _ _ _ c.loop-done.invariant
    (c.in-Some.ensures) c.in-Booked.ensures.says.0 c.in-Booked.ensures.desk

pub loop-done-preserved : goal.loop-done-preserved
loop-done-preserved g c =
    drops-one c.args.desk.now c.loop-done.desk c.done.new.self c.in-Some.done _ _ _ c.loop-done.invariant
    (c.in-Some.ensures) c.in-NotOutstanding.ensures.says.1 c.in-NotOutstanding.ensures.says.2
    c.in-NotOutstanding.ensures.desk
