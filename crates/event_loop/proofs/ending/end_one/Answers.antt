use Rattle.std.proofs.Common.{ap, arith, refl, subst}
use Rattle.hive_model.specs.EventResult.{EventResult}
use Rattle.hive_model.specs.declared.decision.EventStatus.{EventStatus}
use Rattle.report_text.specs.Counted.{IsCounted}
use Rattle.event_loop.proofs.Ended.{ends-one}
use Rattle.event_loop.proofs.Tallying.{fits}
use Rattle.event_loop.proofs.ending.end_one.Goals as goal

pub overflow_sub-index : goal.overflow_sub-index
overflow_sub-index c =
    let ok = fits _ _ _ _ _ c.in-Some.retired c.requires.tally c.in-Some.ensures.says c.retire.ensures.desk in
    omega (arith, ok.above)

pub overflow_sub-index-2 : goal.overflow_sub-index-2
overflow_sub-index-2 c =
    let ok = fits _ _ _ _ _ c.in-Some.retired c.requires.tally c.in-Some.ensures.says c.retire.ensures.desk in
    omega (arith, ok.above)

pub add-requires : goal.add-requires
add-requires c =
    let ok = fits _ _ _ _ _ c.in-Some.retired c.requires.tally c.in-Some.ensures.says c.retire.ensures.desk in
    record { events = ok.events; ok = ok.ok; failed = ok.failed; stalled = ok.stalled }

pub put-requires : goal.put-requires
put-requires c =
    let ok = fits _ _ _ _ _ c.in-Some.retired c.requires.tally c.in-Some.ensures.says c.retire.ensures.desk in
    omega (arith, ok.above, ok.within)

pub returns : goal.returns
returns c =
    ends-one _ _ _ _ _ _ _ _ c.in-Some.retired c.requires c.in-Some.ensures.says c.retire.ensures.desk refl
    (subst (λ (s : EventStatus). IsCounted c.args.counts.now s c.add.new.self)
    (ap (λ (r : EventResult). r.status) c.ended.view_is) c.add.ensures) c.put.ensures
