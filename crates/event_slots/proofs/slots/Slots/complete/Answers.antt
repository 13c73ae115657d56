use Rattle.std.proofs.Common.{IsSome, length, refl, sym, ap, subst, ◌∙◌, arith}
use Rattle.std.proofs.lemmas.List.{length-map}
use Rattle.std.proofs.lemmas.Option.{slice_get_within}
use Rattle.std.specs.Arc.{arc_value}
use Rattle.expr_code.specs.Claim.{left_with}
use Rattle.event_slots.specs.Slots.{AreSlotsOf}
use Rattle.event_slots.specs.contracts.slots.Slots.{the_view}
use Rattle.event_slots.proofs.Bookings.{booked, can-finish, complete-tied, few-handles, places-empty}
use Rattle.event_slots.proofs.Found.{as-few, event-there, held-by, holds-of}
use Rattle.event_slots.proofs.Returns.{returned}
use Rattle.event_slots.proofs.slots.Slots.complete.Goals as goal

pub first_output-first-requires : goal.first_output-first-requires
first_output-first-requires c =
    let of = held-by _ _ c.requires.known.2.1 in
    slice_get_within c.args.job.now.algorithms c.args.lent.algorithm of.0 of.1

pub overflow_cast-count : goal.overflow_cast-count
overflow_cast-count c =
    let of = booked c.args.job.now c.requires.known.0 c.args.self.now c.args.slot c.args.lent (left_with
    c.args.outcome.now c.args.outputs.items)
    c.requires.known.1 c.requires.known.2 c.requires.known.3 in
    omega (
      arith,
      few-handles c.args.job.now c.args.lent.algorithm of.algorithm c.requires.valid of.of_job,
      of.can.few,
      length-map c.args.outputs.items arc_value,
      ap length c.as_slice.ensures,
    )

pub put_outputs-requires-clause-taken : goal.put_outputs-requires-clause-taken
put_outputs-requires-clause-taken c =
    let job = c.args.job.now in
    let slots = c.requires.known.0 in
    let old = the_view c.self.inside in
    let are : AreSlotsOf job slots old = subst (AreSlotsOf job slots) (sym c.self.view_is) c.requires.known.1
    in
    let of = booked job slots old c.args.slot c.args.lent (left_with c.args.outcome.now c.args.outputs.items)
    are c.requires.known.2
    c.requires.known.3 in
    subst IsSome (sym of.has.store) refl

pub put_outputs-requires-clause-few : goal.put_outputs-requires-clause-few
put_outputs-requires-clause-few c =
    let of = booked c.args.job.now c.requires.known.0 c.args.self.now c.args.slot c.args.lent (left_with
    c.args.outcome.now c.args.outputs.items)
    c.requires.known.1 c.requires.known.2 c.requires.known.3 in
    omega (
      arith,
      few-handles c.args.job.now c.args.lent.algorithm of.algorithm c.requires.valid of.of_job,
      of.can.few,
      length-map c.args.outputs.items arc_value,
      c.first_output-first.ensures of.algorithm of.of_job,
    )

pub put_outputs-requires-clause-empty : goal.put_outputs-requires-clause-empty
put_outputs-requires-clause-empty c =
    let job = c.args.job.now in
    let slots = c.requires.known.0 in
    let old = the_view c.self.inside in
    let are : AreSlotsOf job slots old = subst (AreSlotsOf job slots) (sym c.self.view_is) c.requires.known.1
    in
    let left = left_with c.args.outcome.now c.args.outputs.items in
    let of = booked job slots old c.args.slot c.args.lent left are c.requires.known.2 c.requires.known.3 in
    places-empty job slots old c.args.slot of.busy c.args.lent.algorithm c.first_output-first.result (length
    c.args.outputs.items) of.algorithm
    left of.has of.can (c.first_output-first.ensures of.algorithm of.of_job) (sym (length-map
    c.args.outputs.items arc_value))

pub give_back-requires-clause-out : goal.give_back-requires-clause-out
give_back-requires-clause-out c =
    let are = subst (AreSlotsOf c.args.job.now c.requires.known.0) (sym c.self.view_is) c.requires.known.1 in
    (returned c.args.job.now c.requires.known.0 (the_view c.self.inside) c.args.slot c.args.lent are
    c.requires.known.2).is_out

pub give_back-requires-clause-made_for : goal.give_back-requires-clause-made_for
give_back-requires-clause-made_for c =
    let are = subst (AreSlotsOf c.args.job.now c.requires.known.0) (sym c.self.view_is) c.requires.known.1 in
    (returned c.args.job.now c.requires.known.0 (the_view c.self.inside) c.args.slot c.args.lent are
    c.requires.known.2).fits

pub complete_at-requires : goal.complete_at-requires
complete_at-requires c =
    let job = c.args.job.now in
    let slots = c.requires.known.0 in
    let old = the_view c.self.inside in
    let are : AreSlotsOf job slots old = subst (AreSlotsOf job slots) (sym c.self.view_is) c.requires.known.1
    in
    let left = left_with c.args.outcome.now c.args.outputs.items in
    let of = booked job slots old c.args.slot c.args.lent left are c.requires.known.2 c.requires.known.3 in
    holds-of _ _ of.has.seat of.has.at
    (can-finish job slots old c.args.slot of.busy c.args.lent.algorithm c.first_output-first.result (length
    c.as_slice.result.now) of.claim
    of.algorithm left of.has of.of_job of.claimed of.can (c.first_output-first.ensures of.algorithm of.of_job)
    (ap length c.as_slice.ensures ∙ sym (length-map c.args.outputs.items arc_value)))

pub invariant_of-self : goal.invariant_of-self
invariant_of-self c =
    let job = c.args.job.now in
    let slots = c.requires.known.0 in
    let old = the_view c.self.inside in
    let are : AreSlotsOf job slots old = subst (AreSlotsOf job slots) (sym c.self.view_is) c.requires.known.1
    in
    let of = booked job slots old c.args.slot c.args.lent (left_with c.args.outcome.now c.args.outputs.items)
    are c.requires.known.2
    c.requires.known.3 in
    as-few c.self.inside.seats.items c.complete_at.new.seats.items c.args.slot _ _ (c.complete_at.ensures
    of.has.seat of.has.at) c.self.invariant

pub returns : goal.returns
returns c = λ slots b a d given busy claimed same of_job.
    let job = c.args.job.now in
    let old = the_view c.self.inside in
    let are : AreSlotsOf job slots old = subst (AreSlotsOf job slots) (sym c.self.view_is) given in
    let it = event-there job slots old c.args.slot b are busy in
    let left = left_with c.args.outcome.now c.args.outputs.items in
    let of = booked job c.requires.known.0 c.args.self.now c.args.slot c.args.lent left c.requires.known.1
    c.requires.known.2 c.requires.known.3 in
    complete-tied job slots old c.args.slot c.first_output-first.result (length c.as_slice.result.now) b d a
    c.args.lent left it.seat
    c.complete_at.new.seats.items c.put_outputs.new.board c.give_back.new.self are busy claimed same of_job
    it.at
    (c.first_output-first.ensures a of_job) (ap length c.as_slice.ensures
    ∙ sym (length-map c.args.outputs.items arc_value)) of.can.kept_whole
    (c.complete_at.ensures it.seat it.at) c.put_outputs.ensures c.give_back.ensures.back
