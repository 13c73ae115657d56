use Rattle.event_flow.proofs.Arrivals.{arrive-new, arrive-next, arrive-within}
use Rattle.event_flow.proofs.arriving.arrive_all.Goals as goal

pub arrive-requires-clause-within : goal.arrive-requires-clause-within
arrive-requires-clause-within c =
    arrive-within c.args.states.now c.loop-place.states c.args.first c.loop-place.place c.loop-place.invariant
    (c.requires.missing c.loop-place.place c.loop-place-test.true)

pub arrive-requires-clause-new : goal.arrive-requires-clause-new
arrive-requires-clause-new c =
    arrive-new c.args.states.now c.loop-place.states c.args.first c.loop-place.place c.loop-place.invariant
    (c.requires.missing c.loop-place.place c.loop-place-test.true)

pub loop-place-preserved : goal.loop-place-preserved
loop-place-preserved c =
    arrive-next c.args.states.now c.loop-place.states c.arrive.new.self c.args.first c.loop-place.place c.loop-place.invariant
    c.arrive.ensures
