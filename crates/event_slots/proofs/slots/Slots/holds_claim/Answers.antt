use Rattle.std.proofs.Common.{slice_get, sym, ap, subst, ◌∙◌}
use Rattle.std.specs.Option.{option_and_then}
use Rattle.event_slots.specs.Seats.{seated_claim}
use Rattle.event_slots.specs.Slots.{AreSlotsOf}
use Rattle.event_slots.specs.contracts.slots.Slots.{the_view}
use Rattle.event_slots.proofs.Holdings.{claim-compared}
use Rattle.event_slots.proofs.slots.Slots.holds_claim.Goals as goal

pub returns : goal.returns
returns c = λ job slots given.
    let old = the_view c.self.inside in
    let are : AreSlotsOf job slots old = subst (AreSlotsOf job slots) (sym c.self.view_is) given in
    let same = claim-compared job slots old c.args.slot c.args.algorithm c.args.ticket c.args.clone are in
    let found = c.claim_of.ensures
    ∙ ap (λ them. option_and_then (seated_claim c.args.algorithm) (slice_get them c.args.slot))
    c.as_slice.ensures.value in
    (λ e. same.0 (sym found ∙ c.is_claim.ensures.0 e), λ h. c.is_claim.ensures.1 (found ∙ same.1 h))
