use Rattle.std.proofs.Common.{refl, arith}
use Rattle.hall_loop.proofs.Admissions.{admitted-at, back-closed, back-full, back-kept, keeps-at, keeps-lost, lost-at, same-at}
use Rattle.scheduler_core.specs.declared.answers.Admit.TheVariants.{Closed, Full, NoMemory as NoRoom}
use Rattle.hall_loop.proofs.Holding.{admit-holds}
use Rattle.hall_loop.proofs.hall_loop.HallLoop.admit.Goals as goal

pub returns-then-place-self-clause-says : goal.returns-then-place-self-clause-says
returns-then-place-self-clause-says g c = (
  record {
    given = same-at c.args.hall.now c.args.self.now.pass c.admit.new.pass _ _ _ _ _ _ c.requires.room.on c.requires.beside
        c.in-At.ensures.pass c.requires.room.free c.requires.room.few c.args.event c.in-At.slot c.in-At.place
        c.in-At.ensures.call (omega (arith, c.if-self-ge-MOST_RECORDS.false));
    handed = refl;
  },
  lost-at c.args.hall.now c.args.self.now.pass c.admit.new.pass _ _ _ _ _ _ c.requires.room.on c.requires.beside
      c.in-At.ensures.pass c.requires.room.free c.requires.room.few c.args.event c.in-At.slot c.in-At.place
      c.in-At.ensures.call (omega (arith, c.if-self-ge-MOST_RECORDS.false)) c.if-place-self.true,
)

pub returns-then-place-self-clause-beside : goal.returns-then-place-self-clause-beside
returns-then-place-self-clause-beside g c = keeps-lost c.args.hall.now c.args.self.now.pass c.admit.new.pass _ _ _ _ _ _ c.requires.room.on c.requires.beside
    c.in-At.ensures.pass c.requires.room.free c.requires.room.few c.args.event c.in-At.slot c.in-At.place
    c.in-At.ensures.call (omega (arith, c.if-self-ge-MOST_RECORDS.false)) c.if-place-self.true

pub returns-in-At-clause-says : goal.returns-in-At-clause-says
returns-in-At-clause-says g c = record {
  given = (admitted-at c.args.hall.now c.args.self.now.pass c.admit.new.pass _ _ _ _ _ _ c.requires.room.on c.requires.beside
      c.in-At.ensures.pass c.requires.room.free c.requires.room.few c.args.event c.in-At.slot c.in-At.place
      c.in-At.ensures.call (omega (arith, c.if-self-ge-MOST_RECORDS.false)) (omega (arith, c.if-place-self.false))).first;
  handed = refl;
}

pub returns-in-At-clause-beside : goal.returns-in-At-clause-beside
returns-in-At-clause-beside g c = keeps-at c.args.hall.now c.args.self.now.pass c.admit.new.pass _ _ _ _ _ _ c.requires.room.on c.requires.beside
    c.in-At.ensures.pass c.requires.room.free c.requires.room.few c.args.event c.in-At.slot c.in-At.place
    c.in-At.ensures.call (omega (arith, c.if-self-ge-MOST_RECORDS.false)) (omega (arith, c.if-place-self.false))

pub returns-in-Closed-clause-says : goal.returns-in-Closed-clause-says
returns-in-Closed-clause-says g c = (
  record {
    given = (back-kept c.args.hall.now c.args.self.now.pass c.admit.new.pass _ _ _ _ _ _ c.requires.room.on c.requires.beside
        c.in-Closed.ensures.pass c.requires.room.free c.requires.room.few c.args.event (Closed c.in-Closed.field-0)
        c.in-Closed.ensures.call c.in-Closed.ensures.call.step.added).same;
    handed = refl;
  },
  back-closed c.args.hall.now c.args.self.now.pass c.admit.new.pass _ _ _ _ _ _ c.requires.room.on c.requires.beside
      c.in-Closed.ensures.pass c.requires.room.free c.requires.room.few c.args.event c.in-Closed.field-0
      c.in-Closed.ensures.call,
)

pub returns-in-Closed-clause-beside : goal.returns-in-Closed-clause-beside
returns-in-Closed-clause-beside g c =
    (back-kept c.args.hall.now c.args.self.now.pass c.admit.new.pass _ _ _ _ _ _ c.requires.room.on c.requires.beside
    c.in-Closed.ensures.pass c.requires.room.free c.requires.room.few c.args.event (Closed c.in-Closed.field-0)
    c.in-Closed.ensures.call c.in-Closed.ensures.call.step.added).on

pub returns-in-Full-clause-says : goal.returns-in-Full-clause-says
returns-in-Full-clause-says g c = (
  record {
    given = (back-kept c.args.hall.now c.args.self.now.pass c.admit.new.pass _ _ _ _ _ _ c.requires.room.on c.requires.beside
        c.in-Full.ensures.pass c.requires.room.free c.requires.room.few c.args.event (Full c.in-Full.field-0)
        c.in-Full.ensures.call c.in-Full.ensures.call.step.added).same;
    handed = refl;
  },
  back-full c.args.hall.now c.args.self.now.pass c.admit.new.pass _ _ _ _ _ _ c.requires.room.on c.requires.beside
      c.in-Full.ensures.pass c.requires.room.free c.requires.room.few c.args.event c.in-Full.field-0
      c.in-Full.ensures.call,
)

pub returns-in-Full-clause-beside : goal.returns-in-Full-clause-beside
returns-in-Full-clause-beside g c =
    (back-kept c.args.hall.now c.args.self.now.pass c.admit.new.pass _ _ _ _ _ _ c.requires.room.on c.requires.beside
    c.in-Full.ensures.pass c.requires.room.free c.requires.room.few c.args.event (Full c.in-Full.field-0)
    c.in-Full.ensures.call c.in-Full.ensures.call.step.added).on

pub returns-clause-says : goal.returns-clause-says
returns-clause-says g c = record {
  given = (back-kept c.args.hall.now c.args.self.now.pass c.admit.new.pass _ _ _ _ _ _ c.requires.room.on c.requires.beside
      c.in-NoMemory.ensures.pass c.requires.room.free c.requires.room.few c.args.event (NoRoom c.in-NoMemory.field-0)
      c.in-NoMemory.ensures.call c.in-NoMemory.ensures.call.step.added).same;
  handed = refl;
}

pub returns-clause-beside : goal.returns-clause-beside
returns-clause-beside g c =
    (back-kept c.args.hall.now c.args.self.now.pass c.admit.new.pass _ _ _ _ _ _ c.requires.room.on c.requires.beside
    c.in-NoMemory.ensures.pass c.requires.room.free c.requires.room.few c.args.event (NoRoom c.in-NoMemory.field-0)
    c.in-NoMemory.ensures.call c.in-NoMemory.ensures.call.step.added).on

pub returns-then-place-self-clause-none_held : goal.returns-then-place-self-clause-none_held
returns-then-place-self-clause-none_held g c it =
    admit-holds c.args.hall.now c.args.self.now.pass c.admit.new.pass c.requires.beside.pass c.admit.ensures.pass
    c.args.event c.admit.result c.admit.ensures.call it

pub returns-in-At-clause-none_held : goal.returns-in-At-clause-none_held
returns-in-At-clause-none_held g c it =
    admit-holds c.args.hall.now c.args.self.now.pass c.admit.new.pass c.requires.beside.pass c.admit.ensures.pass
    c.args.event c.admit.result c.admit.ensures.call it

pub returns-in-Closed-clause-none_held : goal.returns-in-Closed-clause-none_held
returns-in-Closed-clause-none_held g c it =
    admit-holds c.args.hall.now c.args.self.now.pass c.admit.new.pass c.requires.beside.pass c.admit.ensures.pass
    c.args.event c.admit.result c.admit.ensures.call it

pub returns-in-Full-clause-none_held : goal.returns-in-Full-clause-none_held
returns-in-Full-clause-none_held g c it =
    admit-holds c.args.hall.now c.args.self.now.pass c.admit.new.pass c.requires.beside.pass c.admit.ensures.pass
    c.args.event c.admit.result c.admit.ensures.call it

pub returns-clause-none_held : goal.returns-clause-none_held
returns-clause-none_held g c it =
    admit-holds c.args.hall.now c.args.self.now.pass c.admit.new.pass c.requires.beside.pass c.admit.ensures.pass
    c.args.event c.admit.result c.admit.ensures.call it
