use Rattle.std.proofs.Common.{◌<◌, length, sym, ap, subst, ◌∙◌}
use Rattle.event_flow.specs.Claimable.{IsNextClaimable}
use Rattle.event_flow.specs.Flow.{Flow}
use Rattle.event_slots.specs.Slots.{AreSlotsOf, Slots}
use Rattle.event_slots.specs.contracts.slots.Slots.{the_view}
use Rattle.event_slots.proofs.Claims.{needs-length}
use Rattle.event_slots.proofs.Found.{event-there}
use Rattle.event_slots.proofs.Readers.{next-in, seat-read, seated, vacant}
use Rattle.event_slots.proofs.slots.Slots.next_in.Goals as goal

pub returns-in-Some : goal.returns-in-Some
returns-in-Some c = λ job slots given.
    let slot = c.args.slot in
    let old = the_view c.self.inside in
    let are : AreSlotsOf job slots old = subst (AreSlotsOf job slots) (sym c.self.view_is) given in
    let within : slot < length old.seats = subst (λ (it : Slots). slot < length it.seats) (sym
    c.self.view_is) c.requires in
    let at = seat-read old.seats c.from.result slot c.index-seat.result.now c.from.ensures within
    c.index-seat.ensures in
    let its = seated job slots old slot c.in-Some._place c.index-seat.result.now are at c.in-Some.ensures in
    let it = event-there job slots old slot its.busy are its.there in
    next-in job slots slot c.args.from its.busy c.next_claimable.result its.there
    (ap (λ (f : Flow). length f.needs) (sym it.flow) ∙ needs-length job it.seat.flow it.of_job)
    (subst (λ f. IsNextClaimable f c.args.from c.next_claimable.result) (c.flow.ensures
    ∙ its.flow) c.next_claimable.ensures)

pub returns-in-None : goal.returns-in-None
returns-in-None c = λ job slots given b n busy above below.
    let slot = c.args.slot in
    let old = the_view c.self.inside in
    let are : AreSlotsOf job slots old = subst (AreSlotsOf job slots) (sym c.self.view_is) given in
    let within : slot < length old.seats = subst (λ (it : Slots). slot < length it.seats) (sym
    c.self.view_is) c.requires in
    let at = seat-read old.seats c.from.result slot c.index-seat.result.now c.from.ensures within
    c.index-seat.ensures in
    absurd (vacant job slots old slot c.index-seat.result.now b are at c.in-None.ensures busy)
