use Rattle.std.proofs.Common.{refl}
use Rattle.scheduler_core.specs.declared.answers.Give.TheVariants.{Booked, NotOutstanding}
use Rattle.hive_hall.proofs.Booking.{books}
use Rattle.hive_hall.proofs.hall.Hall.book.Goals as goal

pub returns-in-Booked-clause-says : goal.returns-in-Booked-clause-says
returns-in-Booked-clause-says g c =
    let it = c.in-Some.ensures in
    books c.args.self.now c.args.pass.now _ _ c.in-Some.value Booked
    (record { seen_same = refl; own_same = refl; number_same = refl }) it.of_job it.took it.put it.in_order
    c.in-Booked.ensures.call c.in-Booked.ensures.queue

pub returns-in-NotOutstanding-clause-says : goal.returns-in-NotOutstanding-clause-says
returns-in-NotOutstanding-clause-says g c =
    let it = c.in-Some.ensures in
    books c.args.self.now c.args.pass.now _ _ c.in-Some.value (NotOutstanding c.in-NotOutstanding.value)
    (record { seen_same = refl; own_same = refl; number_same = refl }) it.of_job it.took it.put it.in_order
    c.in-NotOutstanding.ensures.call c.in-NotOutstanding.ensures.queue
