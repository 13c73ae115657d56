use Rattle.std.proofs.Common.{◌<◌, false, length, sym, ap, subst, ◌∙◌}
use Rattle.std.specs.Option.{option_map_or}
use Rattle.event_flow.specs.Claimable.{is_settled_in}
use Rattle.hive_model.specs.Step.{is_settled}
use Rattle.event_slots.specs.Slots.{AreSlotsOf, Slots}
use Rattle.event_slots.specs.contracts.slots.Slots.{the_view}
use Rattle.event_flow.proofs.Agreeing.{settled-same}
use Rattle.event_slots.proofs.Readers.{nobody, seat-read, seated}
use Rattle.event_slots.proofs.slots.Slots.is_settled.Goals as goal

pub returns-in-Some : goal.returns-in-Some
returns-in-Some c = λ job slots given.
    let slot = c.args.slot in
    let old = the_view c.self.inside in
    let are : AreSlotsOf job slots old = subst (AreSlotsOf job slots) (sym c.self.view_is) given in
    let within : slot < length old.seats = subst (λ (it : Slots). slot < length it.seats) (sym
    c.self.view_is) c.requires in
    let at = seat-read old.seats c.from.result slot c.index-seat.result.now c.from.ensures within
    c.index-seat.ensures in
    let its = seated job slots old slot c.in-Some._place c.index-seat.result.now are at c.in-Some.ensures in
    c.is_settled.ensures ∙ ap is_settled_in (c.flow.ensures ∙ its.flow) ∙ settled-same job its.busy
    ∙ ap (λ o. option_map_or (is_settled job) o false) (sym its.there)

pub returns-in-None : goal.returns-in-None
returns-in-None c = λ job slots given.
    let slot = c.args.slot in
    let old = the_view c.self.inside in
    let are : AreSlotsOf job slots old = subst (AreSlotsOf job slots) (sym c.self.view_is) given in
    let within : slot < length old.seats = subst (λ (it : Slots). slot < length it.seats) (sym
    c.self.view_is) c.requires in
    let at = seat-read old.seats c.from.result slot c.index-seat.result.now c.from.ensures within
    c.index-seat.ensures in
    ap (λ o. option_map_or (is_settled job) o false) (sym (nobody job slots old slot c.index-seat.result.now
    are at c.in-None.ensures))
