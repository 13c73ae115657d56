use Rattle.std.proofs.Common.{ap, refl, subst}
use Rattle.hive_model.specs.EventResult.{EventResult}
use Rattle.hive_model.specs.declared.decision.EventStatus.{EventStatus}
use Rattle.report_text.specs.Counted.{IsCounted}
use Rattle.hall_loop.proofs.Retirements.{is-own, keeps-astray, keeps-ended, same-ended, window-ended, within-waiting}
use Rattle.hall_loop.proofs.Steps.{retire-kept}
use Rattle.hall_loop.proofs.Deeds.{call-grows, retire-done}
use Rattle.hall_loop.proofs.Holding.{retire-holds}
use Rattle.hall_loop.proofs.hall_loop.HallLoop.end_one.Goals as goal

pub returns-in_default-clause-says : goal.returns-in_default-clause-says
returns-in_default-clause-says g c = record {
  given = (retire-kept c.args.hall.now c.args.self.now.pass c.retire.new.pass _ _ _ _ _ _ c.requires
      c.retire.ensures.pass c.retire.result c.in_default.not-Some c.retire.ensures.call).same;
  handed = refl;
}

pub returns-in_default-clause-beside : goal.returns-in_default-clause-beside
returns-in_default-clause-beside g c =
    (retire-kept c.args.hall.now c.args.self.now.pass c.retire.new.pass _ _ _ _ _ _ c.requires
    c.retire.ensures.pass c.retire.result c.in_default.not-Some c.retire.ensures.call).on

pub returns-then-not-is_own-clause-says : goal.returns-then-not-is_own-clause-says
returns-then-not-is_own-clause-says g c = (
  record {
    given = same-ended c.args.hall.now c.args.self.now.pass c.retire.new.pass _ _ _ _ _ _ c.requires
        c.in-Some.ensures.pass c.in-Some.retired c.in-Some.ensures.call;
    handed = refl;
  },
  λ others.
      (c.if-not-is_own.ensures.other refl) (is-own c.args.hall.now c.args.self.now.pass c.retire.new.pass _ _ _ _ _ _ c.requires
      c.in-Some.ensures.pass c.in-Some.retired c.in-Some.ensures.call others),
)

pub returns-then-not-is_own-clause-beside : goal.returns-then-not-is_own-clause-beside
returns-then-not-is_own-clause-beside g c =
    keeps-astray c.args.hall.now c.args.self.now.pass c.retire.new.pass _ _ _ _ _ _ c.requires
    c.in-Some.ensures.pass c.in-Some.retired c.in-Some.ensures.call (c.if-not-is_own.ensures.other refl)

pub invariant_of-self-2 : goal.invariant_of-self-2
invariant_of-self-2 g c = record {
  window = window-ended _ _ _ _ _ _ _ _ c.in-Some.retired.result c.args.self.now.window
      (c.if-not-is_own.ensures.own refl).fewer (subst (λ (s : EventStatus). IsCounted c.args.self.now.counts s c.add.new.self)
      (ap (λ (r : EventResult). r.status) c.ended.view_is) c.add.ensures) c.put.ensures;
}

pub returns-clause-says : goal.returns-clause-says
returns-clause-says g c = record {
  given = same-ended c.args.hall.now c.args.self.now.pass c.retire.new.pass _ _ _ _ _ _ c.requires
      c.in-Some.ensures.pass c.in-Some.retired c.in-Some.ensures.call;
  handed = refl;
}

pub returns-clause-beside : goal.returns-clause-beside
returns-clause-beside g c =
    keeps-ended c.args.hall.now c.args.self.now.pass c.retire.new.pass _ _ _ _ _ _ c.requires
    c.in-Some.ensures.pass c.in-Some.retired c.in-Some.ensures.call (c.if-not-is_own.ensures.own refl) _ _ _ refl
    (subst (λ (s : EventStatus). IsCounted c.args.self.now.counts s c.add.new.self)
    (ap (λ (r : EventResult). r.status) c.ended.view_is) c.add.ensures) c.put.ensures
    (within-waiting _ _ _ _ _ _ c.args.self.now.window (c.if-not-is_own.ensures.own refl))

pub returns-in_default-clause-none_held : goal.returns-in_default-clause-none_held
returns-in_default-clause-none_held g c it =
    retire-holds c.args.hall.now c.args.self.now.pass c.retire.new.pass c.requires.pass c.retire.ensures.pass
    c.retire.result c.retire.ensures.call it

pub returns-then-not-is_own-clause-none_held : goal.returns-then-not-is_own-clause-none_held
returns-then-not-is_own-clause-none_held g c it =
    retire-holds c.args.hall.now c.args.self.now.pass c.retire.new.pass c.requires.pass c.retire.ensures.pass
    c.retire.result c.retire.ensures.call it

pub returns-clause-none_held : goal.returns-clause-none_held
returns-clause-none_held g c it =
    retire-holds c.args.hall.now c.args.self.now.pass c.retire.new.pass c.requires.pass c.retire.ensures.pass
    c.retire.result c.retire.ensures.call it

pub returns-clause-done : goal.returns-clause-done
returns-clause-done g c one =
    retire-done c.args.self.now.pass c.retire.new.pass c.args.hall.now c.in-Some.retired c.in-Some.ensures.call
    c.retire.ensures.queue.1

pub returns-clause-grown : goal.returns-clause-grown
returns-clause-grown g c =
    call-grows c.args.self.now.pass c.retire.new.pass c.retire.ensures.call c.retire.ensures.queue.1

pub returns-in_default-clause-grown : goal.returns-in_default-clause-grown
returns-in_default-clause-grown g c =
    call-grows c.args.self.now.pass c.retire.new.pass c.retire.ensures.call c.retire.ensures.queue.1

pub returns-then-not-is_own-clause-grown : goal.returns-then-not-is_own-clause-grown
returns-then-not-is_own-clause-grown g c =
    call-grows c.args.self.now.pass c.retire.new.pass c.retire.ensures.call c.retire.ensures.queue.1
