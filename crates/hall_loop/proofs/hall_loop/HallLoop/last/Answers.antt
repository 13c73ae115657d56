use Rattle.std.proofs.Common.{refl}
use Rattle.hall_loop.proofs.Closing.{keeps-last, same-last}
use Rattle.hall_loop.proofs.Holding.{last-holds}
use Rattle.hall_loop.proofs.hall_loop.HallLoop.last.Goals as goal

pub returns-clause-says : goal.returns-clause-says
returns-clause-says g c = record {
  given = same-last c.args.hall.now c.args.self.now.pass c.last-said.new.pass _ _ _ _ _ _ c.requires
      c.last-said.ensures.pass c.last-said.result c.last-said.ensures.call;
  handed = refl;
}

pub returns-clause-beside : goal.returns-clause-beside
returns-clause-beside g c =
    keeps-last c.args.hall.now c.args.self.now.pass c.last-said.new.pass _ _ _ _ _ _ c.requires
    c.last-said.ensures.pass c.last-said.result c.last-said.ensures.call

pub returns-clause-none_held : goal.returns-clause-none_held
returns-clause-none_held g c it =
    last-holds c.args.hall.now c.args.self.now.pass c.last-said.new.pass c.requires.pass c.last-said.ensures.pass
    c.last-said.result c.last-said.ensures.call it
