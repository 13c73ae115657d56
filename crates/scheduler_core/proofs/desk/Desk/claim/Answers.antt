use Rattle.std.proofs.Common.{◌≡◌, length, refl, ap, sym, ◌∙◌, subst, arith}
use Rattle.event_slots.specs.Claiming.{OneMayBeClaimed}
use Rattle.scheduler_core.proofs.Handed.{handed-kept, handed-says}
use Rattle.scheduler_core.proofs.Keeping.{grown-as, kept-desk, of-job, same-fields, went-well}
use Rattle.scheduler_core.proofs.Refused.{nothing-says, one-says}
use Rattle.scheduler_core.proofs.Undone.{given-may, may-return, undone-kept, undone-seats}
use Rattle.scheduler_core.proofs.desk.Desk.claim.Goals as goal

pub give_back-requires : goal.give_back-requires
give_back-requires c = record {
  known = may-return _ c.deref.result.now c.deref-then-is_err.result.now _ _ _ _ _ _ _ _ c.in-Job.slot c.in-Job.work
      c.into_lent.result c.self.invariant c.deref.ensures c.deref-then-is_err.ensures c.in-Job.ensures
      (ap length c.as_slice.ensures) c.into_lent.ensures.algorithm c.into_lent.ensures.clone
      c.into_lent.ensures.made_for;
}

pub invariant_of-self : goal.invariant_of-self
invariant_of-self c =
    let k = c.self.invariant in
    undone-kept _ c.deref.result.now c.deref-then-is_err.result.now _ _ _ _ _ _ _ _ _ _ _ c.in-Job.slot c.in-Job.work
    c.into_lent.result k c.deref.ensures c.deref-then-is_err.ensures c.in-Job.ensures
    (ap length c.as_slice.ensures) c.into_lent.ensures.algorithm c.into_lent.ensures.clone
    c.give_back.ensures c.reserve.ensures.items c.reserve.ensures.owed

pub returns-then-is_err-clause-says : goal.returns-then-is_err-clause-says
returns-then-is_err-clause-says c =
    let k = c.self.invariant in
    let seats = undone-seats _ c.deref.result.now c.deref-then-is_err.result.now _ _ _ c.claim.new.self
    c.give_back.new.self _ _ _ _ c.in-Job.slot c.in-Job.work c.into_lent.result k c.deref.ensures
    c.deref-then-is_err.ensures c.in-Job.ensures (ap length c.as_slice.ensures) c.into_lent.ensures.algorithm
    c.into_lent.ensures.clone c.give_back.ensures in
    one-says _ _ _ _ _ _ _ c.args.worker _ _ k c.self.view_is
    (same-fields _ _ _ _ _ c.self.inside.slots c.give_back.new.self refl c.reserve.ensures.items seats
    ∙ c.self.view_is)
    (given-may _ c.deref.result.now _ _ c.self.inside.slots c.claim.new.self _ _ _ _ c.in-Job.slot c.in-Job.work k
    c.deref.ensures c.in-Job.ensures (ap length c.as_slice.ensures))

pub returns-then-is_err-clause-desk : goal.returns-then-is_err-clause-desk
returns-then-is_err-clause-desk c = kept-desk _ _ _ _ _ _ _ (invariant_of-self c)

pub invariant_of-self-in-Job : goal.invariant_of-self-in-Job
invariant_of-self-in-Job c =
    let room = went-well c.reserve.result _ c.reserve.ensures.more (sym c.is_err.ensures.value ∙ c.if-is_err.false) in
    handed-kept _ c.deref.result.now _ _ _ _ _ _ _ _ _ _ c.in-Job.slot c.args.worker c.in-Job.work c.self.invariant
    c.deref.ensures c.in-Job.ensures (ap length c.as_slice.ensures)
    (grown-as _ _ _ _ _ c.enter.ensures.entry c.reserve.ensures.items c.entry_of.ensures) (omega (arith, room, c.enter.ensures.room))

pub returns-else-is_err-clause-says : goal.returns-else-is_err-clause-says
returns-else-is_err-clause-says c =
    handed-says _ c.deref.result.now _ _ _ _ _ _ _ _ _ c.in-Job.slot c.args.worker c.in-Job.work _ c.self.invariant
    c.deref.ensures c.self.view_is c.in-Job.ensures (ap length c.as_slice.ensures)
    (grown-as _ _ _ _ _ c.enter.ensures.entry c.reserve.ensures.items c.entry_of.ensures)

pub returns-else-is_err-clause-desk : goal.returns-else-is_err-clause-desk
returns-else-is_err-clause-desk c = kept-desk _ _ _ _ _ _ _ (invariant_of-self-in-Job c)

pub returns-in-Nothing-clause-says : goal.returns-in-Nothing-clause-says
returns-in-Nothing-clause-says c =
    nothing-says _ c.deref.result.now _ _ c.self.inside.slots c.claim.new.self _ _ _ c.args.worker c.nothing.result _
    c.self.invariant c.deref.ensures c.self.view_is c.in-Nothing.ensures c.nothing.ensures

pub returns-in-NoMemory-clause-says : goal.returns-in-NoMemory-clause-says
returns-in-NoMemory-clause-says c =
    let k = c.self.invariant in
    let it = c.in-NoMemory.ensures k.machine.slots (of-job _ _ _ _ c.deref.ensures k.slots) in
    one-says _ _ _ _ _ _ _ c.args.worker _ _ k c.self.view_is
    (same-fields _ _ _ _ _ c.self.inside.slots c.claim.new.self refl refl (it.0.as_many ∙ sym k.slots.as_many)
    ∙ c.self.view_is)
    (subst (λ j. OneMayBeClaimed j k.machine.slots) c.deref.ensures it.1)
