use Rattle.std.proofs.Common.{slice_get, IsSome, refl, sym, ap, subst, ◌∙◌, arith}
use Rattle.std.specs.Arc.{arc_value}
use Rattle.clone_pools.specs.Loans.{Pools}
use Rattle.hive_model.specs.Enabled.{inputs_in}
use Rattle.loan_laws.proofs.WhatIsLent.{is-refused}
use Rattle.event_slots.specs.Slots.{AreSlotsOf}
use Rattle.event_slots.specs.contracts.slots.Slots.{the_view}
use Rattle.event_slots.proofs.Claims.{body-of_job, claim-fits, claim-tied, is-taken, may-be-claimed, one-may-be-claimed, performs, pools-claimed}
use Rattle.event_slots.proofs.Found.{as-few, event-there, held-by, holds-of, same-value}
use Rattle.event_slots.proofs.slots.Slots.claim_number.Goals as goal

pub place_of-place-requires : goal.place_of-place-requires
place_of-place-requires c =
    let known = c.requires.known in
    let busy = held-by _ _ known.3 in
    let it = event-there c.args.job.now known.0 c.args.self.now c.args.slot busy.0 known.1 busy.1 in
    holds-of (slice_get c.args.self.now.seats c.args.slot) _ it.seat it.at (subst IsSome (sym it.place) refl)

pub store-store-requires : goal.store-store-requires
store-store-requires c =
    let known = c.requires.known in
    let old = the_view c.self.inside in
    let are : AreSlotsOf c.args.job.now known.0 old = subst (AreSlotsOf c.args.job.now known.0) (sym
    c.self.view_is) known.1 in
    let busy = held-by _ _ known.3 in
    let it = event-there c.args.job.now known.0 old c.args.slot busy.0 are busy.1 in
    subst IsSome (sym it.store) refl

pub borrow-requires-clause-of_job : goal.borrow-requires-clause-of_job
borrow-requires-clause-of_job c =
    let known = c.requires.known in
    let are = subst (AreSlotsOf c.args.job.now known.0) (sym c.self.view_is) known.1 in
    body-of_job c.self.inside.bodies.items c.args.job.now.algorithms c.from.result c.args.number
    c.index-body.result.now
    are.bodies c.from.ensures known.2 c.index-body.ensures

pub claim_at-requires : goal.claim_at-requires
claim_at-requires c =
    let known = c.requires.known in
    let old = the_view c.self.inside in
    let are : AreSlotsOf c.args.job.now known.0 old = subst (AreSlotsOf c.args.job.now known.0) (sym
    c.self.view_is) known.1 in
    let busy = held-by _ _ known.3 in
    let it = event-there c.args.job.now known.0 old c.args.slot busy.0 are busy.1 in
    holds-of (slice_get c.self.inside.seats.items c.args.slot) _ it.seat it.at
    (claim-fits c.args.job.now known.0 old c.args.slot busy.0 c.args.number it known.2 busy.2)

pub new-requires-clause-performs : goal.new-requires-clause-performs
new-requires-clause-performs c =
    let known = c.requires.known in
    let are = subst (AreSlotsOf c.args.job.now known.0) (sym c.self.view_is) known.1 in
    let of_job = body-of_job c.self.inside.bodies.items c.args.job.now.algorithms c.from.result c.args.number
    c.index-body.result.now
    are.bodies c.from.ensures known.2 c.index-body.ensures in
    performs c.args.job.now c.args.number (arc_value c.index-body.result.now) (arc_value c.in-Lent.body)
    c.requires.valid known.2
    of_job c.in-Lent.ensures.0

pub invariant_of-self : goal.invariant_of-self
invariant_of-self c =
    let known = c.requires.known in
    let old = the_view c.self.inside in
    let are : AreSlotsOf c.args.job.now known.0 old = subst (AreSlotsOf c.args.job.now known.0) (sym
    c.self.view_is) known.1 in
    let busy = held-by _ _ known.3 in
    let it = event-there c.args.job.now known.0 old c.args.slot busy.0 are busy.1 in
    as-few c.self.inside.seats.items c.claim_at.new.seats.items c.args.slot _ _ (c.claim_at.ensures it.seat
    it.at) c.self.invariant

pub returns-in-Lent : goal.returns-in-Lent
returns-in-Lent c = λ slots given can.
    let job = c.args.job.now in
    let slot = c.args.slot in
    let number = c.args.number in
    let old = the_view c.self.inside in
    let are : AreSlotsOf job slots old = subst (AreSlotsOf job slots) (sym c.self.view_is) given in
    let busy = held-by _ _ can in
    let b = busy.0 in
    let it = event-there job slots old slot b are busy.1 in
    let was = event-there job slots c.args.self.now slot b given busy.1 in
    let a = arc_value c.index-body.result.now in
    let of_job = body-of_job c.self.inside.bodies.items job.algorithms c.from.result number
    c.index-body.result.now
    are.bodies c.from.ensures c.requires.known.2 c.index-body.ensures in
    let store = same-value _ c.store-store.result.now b.store c.store-store.ensures.store it.store in
    let place = same-value was.seat.place c.place_of-place.result b.place (c.place_of-place.ensures was.seat
    was.at) was.place in
    let borrowed = c.in-Lent.ensures.1 in
    let lent = c.in-Lent.lent in
    let tied = claim-tied job slots old slot b number a c.args.ticket lent.clone it.seat
    c.claim_at.new.seats.items c.borrow.new.pools
    are busy.1 it.at (c.claim_at.ensures it.seat it.at)
    (pools-claimed job slots old.pools c.borrow.new.pools slot number c.place_of-place.result c.args.ticket b
    a
    c.store-store.result.now lent are.pools it.there of_job busy.2 (omega (
      arith,
      it.sized.claims,
      c.requires.known.2,
    )) borrowed) in (
      refl,
      is-taken job slots slot c.args.ticket c.place_of-place.result number b a (arc_value c.in-Lent.body)
          lent c.new.result _
          busy.1 of_job c.new.ensures.claim place c.in-Lent.ensures.0 borrowed.algorithm
          (borrowed.inputs ∙ ap (λ places. inputs_in places a.inputs) store)
          (may-be-claimed job slots old.pools c.borrow.new.pools number c.place_of-place.result b a
          c.store-store.result.now lent
          are.pools of_job busy.2 borrowed) tied,
    )

pub returns-in-NotFree : goal.returns-in-NotFree
returns-in-NotFree c = λ slots given can.
    let job = c.args.job.now in
    let are : AreSlotsOf job slots (the_view c.self.inside) = subst (AreSlotsOf job slots) (sym
    c.self.view_is) given in (
      ap (λ (them : Pools). record (the_view c.self.inside) { pools = them }) c.in-NotFree.ensures.1
          ∙ c.self.view_is,
      λ a clone at. is-refused job slots c.self.inside.pools c.args.number a clone are.pools at
          c.in-NotFree.ensures.0,
    )

pub returns-in-NoMemory : goal.returns-in-NoMemory
returns-in-NoMemory c = λ slots given can.
    let job = c.args.job.now in
    let slot = c.args.slot in
    let number = c.args.number in
    let are : AreSlotsOf job slots (the_view c.self.inside) = subst (AreSlotsOf job slots) (sym
    c.self.view_is) given in
    let busy = held-by _ _ can in
    let of_job = body-of_job c.self.inside.bodies.items job.algorithms c.from.result number
    c.index-body.result.now
    are.bodies c.from.ensures c.requires.known.2 c.index-body.ensures in (
      ap (λ (them : Pools). record (the_view c.self.inside) { pools = them }) c.in-NoMemory.ensures.1
          ∙ c.self.view_is,
      one-may-be-claimed job slots c.self.inside.pools slot number busy.0 (arc_value c.index-body.result.now)
          are.pools busy.1 of_job
          busy.2 c.in-NoMemory.ensures.0,
    )
