use Rattle.std.proofs.Common.{◌≤◌, ◌++◌, ◌∷◌, [], None, Some, length, map, is_some, set, refl, sym, ap, subst, ◌∙◌, arith}
use Rattle.std.proofs.lemmas.List.{length-map}
use Rattle.event_flow.specs.Steps.{begun_with}
use Rattle.hive_model.specs.Handles.{handle_count}
use Rattle.hive_model.specs.Store.{shown}
use Rattle.whiteboard.specs.Slots.{products_in, with_store}
use Rattle.event_slots.specs.Places.{laid}
use Rattle.event_slots.specs.Seats.{HasRoomFor}
use Rattle.event_slots.specs.Slots.{AreSlotsOf}
use Rattle.event_slots.specs.contracts.slots.Slots.{the_view}
use Rattle.event_slots.proofs.Admissions.{admit-tied, few-cells, not-full, places-free, slot-empty, store-placed}
use Rattle.event_slots.proofs.Claims.{needs-length}
use Rattle.event_slots.proofs.Found.{as-few, holds-of, seat-there}
use Rattle.event_slots.proofs.slots.Slots.admit.Goals as goal

pub lay_cells-requires-clause-few : goal.lay_cells-requires-clause-few
lay_cells-requires-clause-few c =
    omega (
      arith,
      length-map c.in_ok-luggage.luggage.cells.items shown,
      ap length c.in_ok-luggage.ensures.cells,
      few-cells c.args.job.now c.args.event.now c.requires.fits,
      c.requires.valid.limits.handles,
    )

pub lay_cells-requires-clause-empty : goal.lay_cells-requires-clause-empty
lay_cells-requires-clause-empty c =
    let job = c.args.job.now in
    let few : length c.in_ok-luggage.luggage.cells.items ≤ handle_count job =
    omega (
      arith,
      length-map c.in_ok-luggage.luggage.cells.items shown,
      ap length c.in_ok-luggage.ensures.cells,
      few-cells job c.args.event.now c.requires.fits,
    ) in
    places-free c.take_slot.new.self c.in-Ok.slot (handle_count job) (length
    c.in_ok-luggage.luggage.cells.items) c.in_ok-luggage.luggage.store
    (store-placed c.self.inside.board c.take_slot.new.self c.in-Ok.slot c.in_ok-luggage.luggage.store
    c.in-Ok.ensures.taken.0
    c.in-Ok.ensures.taken.1) c.in_ok-luggage.ensures.store few

pub admit_at-requires : goal.admit_at-requires
admit_at-requires c =
    let job = c.args.job.now in
    let slots = c.requires.room.0 in
    let old = the_view c.self.inside in
    let are : AreSlotsOf job slots old = subst (AreSlotsOf job slots) (sym c.self.view_is) c.requires.room.1
    in
    let it = seat-there job slots old c.in-Ok.slot None are (slot-empty job slots old c.in-Ok.slot are
    c.in-Ok.ensures.taken.0) in
    let guest = c.in_ok-luggage.luggage.guest in
    holds-of _ _ it.seat it.at (
      it.is.0,
      subst (λ n. HasRoomFor n (length it.seat.flow.needs) guest) (sym (ap length it.is.1.sequences_are))
          (subst (λ n. HasRoomFor (length job.sequences) n guest) (sym (needs-length job it.seat.flow
          it.is.1)) c.in_ok-luggage.ensures.room),
      omega (
        arith,
        ap length c.cells.ensures,
        few-cells job c.args.event.now c.requires.fits,
        it.is.1.all_handles,
      ),
    )

pub invariant_of-self-in-Ok : goal.invariant_of-self-in-Ok
invariant_of-self-in-Ok c =
    let job = c.args.job.now in
    let slots = c.requires.room.0 in
    let old = the_view c.self.inside in
    let are : AreSlotsOf job slots old = subst (AreSlotsOf job slots) (sym c.self.view_is) c.requires.room.1
    in
    let it = seat-there job slots old c.in-Ok.slot None are (slot-empty job slots old c.in-Ok.slot are
    c.in-Ok.ensures.taken.0) in
    as-few c.self.inside.seats.items c.admit_at.new.seats.items c.in-Ok.slot _ _ (c.admit_at.ensures it.seat
    it.at) c.self.invariant

pub unreachable-requires : goal.unreachable-requires
unreachable-requires c =
    let job = c.args.job.now in
    let slots = c.requires.room.0 in
    let are = subst (AreSlotsOf job slots) (sym c.self.view_is) c.requires.room.1 in
    not-full job slots (the_view c.self.inside) are c.requires.room.2 (c.in-Err.ensures.full.0 refl)

pub returns : goal.returns
returns c = λ slots given.
    let job = c.args.job.now in
    let slot = c.in-Ok.slot in
    let old = the_view c.self.inside in
    let are : AreSlotsOf job slots old = subst (AreSlotsOf job slots) (sym c.self.view_is) given in
    let empty = slot-empty job slots old slot are c.in-Ok.ensures.taken.0 in
    let it = seat-there job slots old slot None are empty in
    let luggage = c.in_ok-luggage.luggage in
    let sits = c.admit_at.ensures it.seat it.at
    ∙ ap (λ cells. set old.seats slot (record {
      flow = begun_with it.seat.flow (map is_some cells);
      place =
          Some luggage.guest.place;
    }))
    c.cells.ensures
    ∙ ap (λ place. set old.seats slot (record {
      flow = begun_with it.seat.flow (map is_some
          c.args.event.now.cells);
      place = Some place;
    }))
    c.in_ok-luggage.ensures.place in (
      empty,
      admit-tied job slots old slot c.args.place c.args.event.now it.seat c.admit_at.new.seats.items
          c.take_slot.new.self
          c.lay_cells.new.board luggage.store c.push_reserved.new.self.items are empty c.requires.fits it.at
          sits c.in-Ok.ensures.taken.0
          c.in-Ok.ensures.taken.1 c.in_ok-luggage.ensures.store
          (c.lay_cells.ensures ∙ ap (λ cells. with_store c.take_slot.new.self slot (laid 0 cells (products_in
          c.take_slot.new.self slot)))
          c.in_ok-luggage.ensures.cells)
          (c.push_reserved.ensures.items ∙ ap (λ items. items ++ slot ∷ []) c.in_ok-reserve.ensures.items),
    )
