use Rattle.std.proofs.Common.{refl}
use Rattle.hall_loop.proofs.HandedOut.{first-is, keeps-handing, window-handing}
use Rattle.hall_loop.specs.Beside.{given_of}
use Rattle.hall_loop.proofs.hall_loop.HallLoop.take.Goals as goal

pub invariant_of-self-2 : goal.invariant_of-self-2
invariant_of-self-2 c = record {
  window = window-handing c.args.hall.now c.args.self.now.pass _ _ _ _ _ _ _ c.in_ok-ended.ended c.requires
      c.in_ok-ended.ensures c.args.self.now.window;
}

pub returns-clause-says : goal.returns-clause-says
returns-clause-says c = record {
  given = refl;
  handed = refl;
  result = first-is c.args.hall.now (given_of c.args.self.now) c.args.self.now.handed _ _ c.in_ok-ended.ended
      c.requires.results c.in_ok-ended.ensures;
}

pub returns-clause-beside : goal.returns-clause-beside
returns-clause-beside c =
    keeps-handing c.args.hall.now c.args.self.now.pass _ _ _ _ _ _ _ c.in_ok-ended.ended c.requires
    c.in_ok-ended.ensures
