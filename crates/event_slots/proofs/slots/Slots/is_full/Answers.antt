use Rattle.std.proofs.Common.{sym, ap, subst, ◌∙◌}
use Rattle.std.specs.List.{list_all}
use Rattle.event_slots.specs.Seats.{is_seated}
use Rattle.event_slots.specs.Slots.{AreSlotsOf}
use Rattle.event_slots.specs.contracts.slots.Slots.{the_view}
use Rattle.event_slots.proofs.Counts.{all-seated}
use Rattle.event_slots.proofs.slots.Slots.is_full.Goals as goal

pub returns : goal.returns
returns c = λ job slots given.
    let are : AreSlotsOf job slots (the_view c.self.inside) = subst (AreSlotsOf job slots) (sym
    c.self.view_is) given in
    c.are_full.ensures ∙ ap (list_all is_seated) c.as_slice.ensures.value
    ∙ all-seated job slots (the_view c.self.inside) are
