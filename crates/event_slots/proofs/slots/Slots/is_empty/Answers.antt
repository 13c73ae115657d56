use Rattle.std.proofs.Common.{is_none, sym, ap, subst, ◌∙◌}
use Rattle.std.specs.List.{list_all}
use Rattle.event_slots.specs.Slots.{AreSlotsOf, Seat}
use Rattle.event_slots.specs.contracts.slots.Slots.{the_view}
use Rattle.event_slots.proofs.Counts.{none-seated}
use Rattle.event_slots.proofs.slots.Slots.is_empty.Goals as goal

pub returns : goal.returns
returns c = λ job slots given.
    let are : AreSlotsOf job slots (the_view c.self.inside) = subst (AreSlotsOf job slots) (sym
    c.self.view_is) given in
    c.are_empty.ensures ∙ ap (list_all (λ (seat : Seat). is_none seat.place)) c.as_slice.ensures.value
    ∙ none-seated job slots (the_view c.self.inside) are
