use Rattle.std.proofs.Common.{◌<◌, length, sym, subst, ◌∙◌}
use Rattle.event_flow.specs.Claimable.{IsFirstClaim}
use Rattle.event_slots.specs.Slots.{AreSlotsOf, Slots}
use Rattle.event_slots.specs.Standings.{IsFirstOf}
use Rattle.event_slots.specs.contracts.slots.Slots.{the_view}
use Rattle.event_slots.proofs.Readers.{first-of, seat-read, seated, vacant}
use Rattle.event_slots.proofs.slots.Slots.first_of.Goals as goal

pub returns-in-Some : goal.returns-in-Some
returns-in-Some c = λ job slots given.
    let slot = c.args.slot in
    let old = the_view c.self.inside in
    let are : AreSlotsOf job slots old = subst (AreSlotsOf job slots) (sym c.self.view_is) given in
    let within : slot < length old.seats = subst (λ (it : Slots). slot < length it.seats) (sym
    c.self.view_is) c.requires in
    let at = seat-read old.seats c.from.result slot c.index-seat.result.now c.from.ensures within
    c.index-seat.ensures in
    let its = seated job slots old slot c.in-Some._place c.index-seat.result.now are at c.in-Some.ensures in
    subst (IsFirstOf slots slot) (sym c.standing_at.ensures)
    (first-of job slots slot its.busy c.first_claim.result its.there
    (subst (λ f. IsFirstClaim f c.first_claim.result) (c.flow.ensures ∙ its.flow) c.first_claim.ensures))

pub returns-in-None : goal.returns-in-None
returns-in-None c = λ job slots given.
    let slot = c.args.slot in
    let old = the_view c.self.inside in
    let are : AreSlotsOf job slots old = subst (AreSlotsOf job slots) (sym c.self.view_is) given in
    let within : slot < length old.seats = subst (λ (it : Slots). slot < length it.seats) (sym
    c.self.view_is) c.requires in
    let at = seat-read old.seats c.from.result slot c.index-seat.result.now c.from.ensures within
    c.index-seat.ensures in (
      tt,
      λ number b busy. absurd (vacant job slots old slot c.index-seat.result.now b are at
          c.in-None.ensures busy),
    )
