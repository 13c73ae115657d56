use Rattle.std.proofs.Common.{refl}
use Rattle.hall_loop.proofs.Causes.{stop-seen}
use Rattle.hall_loop.proofs.Steps.{stop-kept}
use Rattle.hall_loop.proofs.Holding.{stop-holds}
use Rattle.hall_loop.proofs.hall_loop.HallLoop.stop.Goals as goal

pub returns-clause-says : goal.returns-clause-says
returns-clause-says g c = record {
  given = (stop-kept c.args.hall.now c.args.self.now.pass c.stop-said.new.pass _ _ _ _ _ _ c.requires
      c.stop-said.ensures.pass c.stop-said.result c.stop-said.ensures.call).same;
  handed = refl;
}

pub returns-clause-lost : goal.returns-clause-lost
returns-clause-lost g c lost others =
    lost ((stop-kept c.args.hall.now c.args.self.now.pass c.stop-said.new.pass _ _ _ _ _ _ c.requires
    c.stop-said.ensures.pass c.stop-said.result c.stop-said.ensures.call).others others)

pub returns-clause-beside : goal.returns-clause-beside
returns-clause-beside g c =
    (stop-kept c.args.hall.now c.args.self.now.pass c.stop-said.new.pass _ _ _ _ _ _ c.requires
    c.stop-said.ensures.pass c.stop-said.result c.stop-said.ensures.call).on

pub returns-clause-stopped : goal.returns-clause-stopped
returns-clause-stopped g c =
    stop-seen c.args.hall.now c.args.self.now.pass c.stop-said.new.pass c.stop-said.result c.stop-said.ensures.call

pub returns-clause-none_held : goal.returns-clause-none_held
returns-clause-none_held g c it =
    stop-holds c.args.hall.now c.args.self.now.pass c.stop-said.new.pass c.requires.pass c.stop-said.ensures.pass
    c.stop-said.result c.stop-said.ensures.call it
