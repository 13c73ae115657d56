use Rattle.std.proofs.Common.{OnOk, ◌∙◌, ap, arith, length, subst, sym}
use Rattle.event_loop.proofs.Loops.{is-loop, seen}
use Rattle.event_loop.proofs.Rooms.{brought-admits, brought-closed, brought-running}
use Rattle.event_loop.proofs.event_loop.EventLoop.admit.Goals as goal
use Rattle.event_loop.specs.Loop.{Admits, HasRoom, LoopState}

pub invariant_of-self : goal.invariant_of-self
invariant_of-self c =
    let it = c.self.inside in
    let room = subst HasRoom (sym c.self.view_is) c.requires.room in
    let says = c.bring.ensures in
    record {
      running = brought-running _ _ _ _ _ _ c.bring.result c.self.invariant.running room
          (omega (arith, ap length c.admitted.ensures.records, c.if-admitted-ge-MOST_RECORDS.false))
          says.admitted
          says.unchanged says.desk;
      last = brought-closed _ _ _ c.bring.result says.admitted says.unchanged ∙ c.self.invariant.last;
    }

pub returns-clause-admitted : goal.returns-clause-admitted
returns-clause-admitted c =
    let it = c.self.inside in
    let room = subst HasRoom (sym c.self.view_is) c.requires.room in
    subst (λ (x : LoopState). OnOk c.bring.result
    (Admits x c.args.event (seen c.bring.new.desk it.handed it.counts)))
    c.self.view_is
    (brought-admits _ _ _ _ _ _ c.bring.result c.self.invariant.running room c.bring.ensures.admitted
    c.bring.ensures.desk)

pub returns-clause-is_loop : goal.returns-clause-is_loop
returns-clause-is_loop c = is-loop _ _ _ _ (invariant_of-self c).running
