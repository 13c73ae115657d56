use Rattle.std.proofs.Common.{refl, subst}
use Rattle.expr_code.specs.Claim.{Done}
use Rattle.scheduler_core.specs.declared.answers.Give.TheVariants.{Booked, NotOutstanding}
use Rattle.hive_hall.specs.Calls.{BooksOwn}
use Rattle.hive_hall.proofs.Booking.{books-own}
use Rattle.hive_hall.proofs.hall.Hall.post.Goals as goal

pub returns-in-Booked-clause-says : goal.returns-in-Booked-clause-says
returns-in-Booked-clause-says g c =
    let it = c.in-Err.ensures in
    subst (λ (v : Done). BooksOwn c.args.self.now v Booked c.args.pass.now c.done.new.pass) it.put.0
    (books-own c.args.self.now c.args.pass.now _ _ c.in-Err.value Booked
    (record { seen_same = refl; own_same = refl; number_same = refl }) (it.put.1, it.took)
    c.in-Booked.ensures.call c.in-Booked.ensures.queue)

pub returns-in-NotOutstanding-clause-says : goal.returns-in-NotOutstanding-clause-says
returns-in-NotOutstanding-clause-says g c =
    let it = c.in-Err.ensures in
    subst (λ (v : Done). BooksOwn c.args.self.now v (NotOutstanding c.in-NotOutstanding.value) c.args.pass.now
    c.done.new.pass) it.put.0
    (books-own c.args.self.now c.args.pass.now _ _ c.in-Err.value (NotOutstanding c.in-NotOutstanding.value)
    (record { seen_same = refl; own_same = refl; number_same = refl }) (it.put.1, it.took)
    c.in-NotOutstanding.ensures.call c.in-NotOutstanding.ensures.queue)
