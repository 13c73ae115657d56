use Rattle.std.proofs.Common.{ap}
use Rattle.event_loop.specs.Loop.{LoopState}
use Rattle.hall_loop.proofs.Settlements.{goes-on, leaves-none, settled, settles, unsettled}
use Rattle.hall_loop.proofs.settling.settle.Goals as goal

pub resume-requires : goal.resume-requires
resume-requires g c =
    goes-on c.args.hall c.args.events.pass c.args.events.waiting c.args.events.counts c.args.events.admitted
    c.args.events.handed c.args.events.closed c.recall_all.new.desk
    (settles c.args.hall c.args.workers c.args.events _ _ c.recall_all.new.desk c.requires.beside c.requires.workers
    c.close-desk.ensures.history _ c.book_left.ensures.booked c.book_left.ensures.desk c.in-Ok.ensures.says.0
    c.in-Ok.ensures.desk)
    c.in-Ok.ensures.says.1

pub returns-in-Ok-clause-settled : goal.returns-in-Ok-clause-settled
returns-in-Ok-clause-settled g c =
    settled c.args.hall c.args.workers c.args.events _ _ c.recall_all.new.desk c.requires.beside c.requires.workers
    c.close-desk.ensures.history _ c.book_left.ensures.booked c.book_left.ensures.desk c.in-Ok.ensures.says.0
    c.in-Ok.ensures.desk
    c.resume.result c.resume.ensures.is

pub returns-in-Ok-clause-others : goal.returns-in-Ok-clause-others
returns-in-Ok-clause-others g c =
    (settles c.args.hall c.args.workers c.args.events _ _ c.recall_all.new.desk c.requires.beside c.requires.workers
    c.close-desk.ensures.history _ c.book_left.ensures.booked c.book_left.ensures.desk c.in-Ok.ensures.says.0
    c.in-Ok.ensures.desk).others

pub returns-in-Err-clause-unsettled : goal.returns-in-Err-clause-unsettled
returns-in-Err-clause-unsettled g c =
    unsettled c.args.hall c.args.workers c.args.events _ _ c.recall_all.new.desk c.requires.beside c.requires.workers
    c.close-desk.ensures.history _ c.book_left.ensures.booked c.book_left.ensures.desk c.in-Err.ensures.says
    c.in-Err.ensures.desk
    c.into_journal.result.items c.into_journal.ensures.entries

pub returns-in-Err-clause-others : goal.returns-in-Err-clause-others
returns-in-Err-clause-others g c =
    (settles c.args.hall c.args.workers c.args.events _ _ c.recall_all.new.desk c.requires.beside c.requires.workers
    c.close-desk.ensures.history _ c.book_left.ensures.booked c.book_left.ensures.desk c.in-Err.ensures.says
    c.in-Err.ensures.desk).others

pub returns-in-Ok-clause-left : goal.returns-in-Ok-clause-left
returns-in-Ok-clause-left g c =
    leaves-none c.args.hall c.args.workers c.args.events _ _ c.recall_all.new.desk c.requires.beside c.requires.workers
    c.close-desk.ensures.history _ c.book_left.ensures.booked c.book_left.ensures.desk c.in-Ok.ensures.says.0
    c.in-Ok.ensures.desk c.close-desk.ensures.left _
    (ap (λ (x : LoopState). x.desk.journal) c.resume.ensures.is)

pub returns-in-Err-clause-left_too : goal.returns-in-Err-clause-left_too
returns-in-Err-clause-left_too g c =
    leaves-none c.args.hall c.args.workers c.args.events _ _ c.recall_all.new.desk c.requires.beside c.requires.workers
    c.close-desk.ensures.history _ c.book_left.ensures.booked c.book_left.ensures.desk c.in-Err.ensures.says
    c.in-Err.ensures.desk c.close-desk.ensures.left c.into_journal.result.items c.into_journal.ensures.entries
