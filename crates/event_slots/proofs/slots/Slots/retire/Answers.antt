use Rattle.std.proofs.Common.{IsSome, refl, sym, ap, subst, ◌∙◌}
use Rattle.hive_model.specs.Event.{status_of}
use Rattle.event_slots.specs.Slots.{AreSlotsOf}
use Rattle.event_slots.specs.contracts.slots.Slots.{the_view}
use Rattle.event_slots.proofs.Found.{as-few, event-there, held-by, holds-of, same-value}
use Rattle.event_slots.proofs.Retirements.{retire-tied, same-result, told-decisions, told-ends}
use Rattle.event_slots.proofs.slots.Slots.retire.Goals as goal

pub retire_at-guest-requires : goal.retire_at-guest-requires
retire_at-guest-requires c =
    let job = c.args.job.now in
    let slots = c.requires.known.0 in
    let old = the_view c.self.inside in
    let are : AreSlotsOf job slots old = subst (AreSlotsOf job slots) (sym c.self.view_is) c.requires.known.1
    in
    let busy = held-by _ _ c.requires.known.2 in
    let it = event-there job slots old c.args.slot busy.0 are busy.1 in
    holds-of _ _ it.seat it.at (subst IsSome (sym it.place) refl)

pub invariant_of-self : goal.invariant_of-self
invariant_of-self c =
    let job = c.args.job.now in
    let slots = c.requires.known.0 in
    let old = the_view c.self.inside in
    let are : AreSlotsOf job slots old = subst (AreSlotsOf job slots) (sym c.self.view_is) c.requires.known.1
    in
    let busy = held-by _ _ c.requires.known.2 in
    let it = event-there job slots old c.args.slot busy.0 are busy.1 in
    as-few c.self.inside.seats.items c.retire_at-guest.new.seats.items c.args.slot _ _
    (c.retire_at-guest.ensures.seats it.seat it.at)
    c.self.invariant

pub returns-clause-result : goal.returns-clause-result
returns-clause-result c = λ slots b given busy.
    let job = c.args.job.now in
    let slot = c.args.slot in
    let old = the_view c.self.inside in
    let are : AreSlotsOf job slots old = subst (AreSlotsOf job slots) (sym c.self.view_is) given in
    let it = event-there job slots old slot b are busy in
    let guest = c.retire_at-guest.result in
    same-result c.args.number c.status_of.result guest.decisions.items guest.ends.items
    c.recycle-store.result job b
    (c.retire_at-guest.ensures.decisions it.seat it.at ∙ told-decisions job slots old slot b it)
    (c.retire_at-guest.ensures.ends it.seat it.at ∙ told-ends job slots old slot b it)
    (c.status_of.ensures ∙ ap status_of c.as_slice.ensures)
    (same-value _ c.recycle-store.result b.store c.recycle-store.ensures.store it.store)

pub returns-clause-slots : goal.returns-clause-slots
returns-clause-slots c = λ slots b given busy settled.
    let job = c.args.job.now in
    let slot = c.args.slot in
    let old = the_view c.self.inside in
    let are : AreSlotsOf job slots old = subst (AreSlotsOf job slots) (sym c.self.view_is) given in
    let it = event-there job slots old slot b are busy in
    retire-tied job slots old slot b it.seat c.retire_at-guest.new.seats.items c.recycle-store.new.self
    c.take_out.new.order.items are busy
    settled it.at (c.retire_at-guest.ensures.seats it.seat it.at) c.recycle-store.ensures.slots
    c.take_out.ensures
