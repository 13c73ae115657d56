use Rattle.std.proofs.Common.{slice_get, sym, ap, subst, ◌∙◌}
use Rattle.std.specs.Option.{option_and_then}
use Rattle.event_slots.specs.Seats.{place_in}
use Rattle.event_slots.specs.Slots.{AreSlotsOf}
use Rattle.event_slots.specs.contracts.slots.Slots.{the_view}
use Rattle.event_slots.proofs.Readers.{place-same}
use Rattle.event_slots.proofs.slots.Slots.place.Goals as goal

pub returns : goal.returns
returns c = λ job slots given.
    let are : AreSlotsOf job slots (the_view c.self.inside) = subst (AreSlotsOf job slots) (sym
    c.self.view_is) given in
    c.place_at.ensures ∙ ap (λ them. option_and_then place_in (slice_get them c.args.slot))
    c.as_slice.ensures.value
    ∙ place-same job slots (the_view c.self.inside) c.args.slot are
