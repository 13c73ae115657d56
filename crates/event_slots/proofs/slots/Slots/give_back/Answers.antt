use Rattle.std.proofs.Common.{sym, subst}
use Rattle.event_slots.specs.Slots.{AreSlotsOf}
use Rattle.event_slots.specs.contracts.slots.Slots.{the_view}
use Rattle.event_slots.proofs.Found.{as-few, event-there, held-by, holds-of}
use Rattle.event_slots.proofs.Returns.{claim-held, return-tied, returned}
use Rattle.event_slots.proofs.slots.Slots.give_back.Goals as goal

pub give_back-requires-clause-out : goal.give_back-requires-clause-out
give_back-requires-clause-out c =
    let are = subst (AreSlotsOf c.args.job.now c.requires.known.0) (sym c.self.view_is) c.requires.known.1 in
    (returned c.args.job.now c.requires.known.0 (the_view c.self.inside) c.args.slot c.args.lent are
    c.requires.known.2).is_out

pub give_back-requires-clause-made_for : goal.give_back-requires-clause-made_for
give_back-requires-clause-made_for c =
    let are = subst (AreSlotsOf c.args.job.now c.requires.known.0) (sym c.self.view_is) c.requires.known.1 in
    (returned c.args.job.now c.requires.known.0 (the_view c.self.inside) c.args.slot c.args.lent are
    c.requires.known.2).fits

pub put_back_at-requires : goal.put_back_at-requires
put_back_at-requires c =
    let old = the_view c.self.inside in
    let are : AreSlotsOf c.args.job.now c.requires.known.0 old = subst (AreSlotsOf c.args.job.now
    c.requires.known.0) (sym c.self.view_is) c.requires.known.1 in
    let of = returned c.args.job.now c.requires.known.0 old c.args.slot c.args.lent are c.requires.known.2 in
    let it = event-there c.args.job.now c.requires.known.0 old c.args.slot of.busy are of.there in
    holds-of _ _ it.seat it.at
    (claim-held c.args.job.now c.requires.known.0 old c.args.slot of.busy c.args.lent.algorithm of.claim
    of.algorithm it of.of_job of.claimed)

pub invariant_of-self : goal.invariant_of-self
invariant_of-self c =
    let old = the_view c.self.inside in
    let are : AreSlotsOf c.args.job.now c.requires.known.0 old = subst (AreSlotsOf c.args.job.now
    c.requires.known.0) (sym c.self.view_is) c.requires.known.1 in
    let of = returned c.args.job.now c.requires.known.0 old c.args.slot c.args.lent are c.requires.known.2 in
    let it = event-there c.args.job.now c.requires.known.0 old c.args.slot of.busy are of.there in
    as-few c.self.inside.seats.items c.put_back_at.new.seats.items c.args.slot _ _ (c.put_back_at.ensures
    it.seat it.at) c.self.invariant

pub returns : goal.returns
returns c = λ slots b d given busy claimed same.
    let job = c.args.job.now in
    let old = the_view c.self.inside in
    let are : AreSlotsOf job slots old = subst (AreSlotsOf job slots) (sym c.self.view_is) given in
    let it = event-there job slots old c.args.slot b are busy in
    let of = held-by _ _ c.requires.known.2.1 in
    return-tied job slots old c.args.slot b d of.0 c.args.lent it.seat c.put_back_at.new.seats.items
    c.give_back.new.self are busy claimed
    same of.1 it.at (c.put_back_at.ensures it.seat it.at) c.give_back.ensures.back
