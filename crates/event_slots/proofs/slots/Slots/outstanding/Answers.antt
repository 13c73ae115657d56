use Rattle.std.proofs.Common.{sym, ap, subst, ◌∙◌}
use Rattle.std.specs.List.{sum_by}
use Rattle.event_slots.specs.Seats.{seated_claims}
use Rattle.event_slots.specs.Slots.{AreSlotsOf}
use Rattle.event_slots.specs.contracts.slots.Slots.{the_view}
use Rattle.event_slots.proofs.Counts.{claims-same}
use Rattle.event_slots.proofs.slots.Slots.outstanding.Goals as goal

pub returns : goal.returns
returns c = λ job slots given.
    let are : AreSlotsOf job slots (the_view c.self.inside) = subst (AreSlotsOf job slots) (sym
    c.self.view_is) given in
    c.claims_in.ensures ∙ ap (sum_by seated_claims) c.as_slice.ensures.value
    ∙ claims-same job slots (the_view c.self.inside) are
