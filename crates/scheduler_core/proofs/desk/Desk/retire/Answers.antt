use Rattle.std.proofs.Common.{length, ap, arith}
use Rattle.scheduler_core.proofs.Ended.{ended-kept, ended-says, has-place, known, none-says, owed-some, spare-some}
use Rattle.scheduler_core.proofs.Keeping.{kept-desk}
use Rattle.scheduler_core.proofs.desk.Desk.retire.Goals as goal

pub returns-in_err-slot-clause-says : goal.returns-in_err-slot-clause-says
returns-in_err-slot-clause-says c =
    none-says _ c.deref.result.now _ _ c.self.inside.slots _ _ _ _ _ c.self.invariant c.deref.ensures c.self.view_is
    c.in_err-slot.ensures c.from_residual.ensures

pub returns-in_err-place-clause-says : goal.returns-in_err-place-clause-says
returns-in_err-place-clause-says c =
    absurd (has-place _ c.deref.result.now _ _ c.self.inside.slots _ _ _ c.in_ok-slot.slot c.place.result
    c.self.invariant c.deref.ensures c.in_ok-slot.ensures c.place.ensures c.in_err-place.was)

pub number_at-number-requires-clause-some : goal.number_at-number-requires-clause-some
number_at-number-requires-clause-some c =
    let k = c.self.invariant in
    let it = known _ c.deref.result.now _ _ c.self.inside.slots _ _ _ c.in_ok-slot.slot c.in_ok-place.place
    c.place.result k c.deref.ensures c.in_ok-slot.ensures c.place.ensures c.in_ok-place.was in
    it.some

pub number_at-number-requires-clause-within : goal.number_at-number-requires-clause-within
number_at-number-requires-clause-within c =
    let k = c.self.invariant in
    let it = known _ c.deref.result.now _ _ c.self.inside.slots _ _ _ c.in_ok-slot.slot c.in_ok-place.place
    c.place.result k c.deref.ensures c.in_ok-slot.ensures c.place.ensures c.in_ok-place.was in
    omega (arith, it.within, ap length c.as_slice.ensures)

pub enter-requires : goal.enter-requires
enter-requires c =
    let k = c.self.invariant in
    let it = known _ c.deref.result.now _ _ c.self.inside.slots _ _ _ c.in_ok-slot.slot c.in_ok-place.place
    c.place.result k c.deref.ensures c.in_ok-slot.ensures c.place.ensures c.in_ok-place.was in
    spare-some _ _ _ _ _ _ _ _ k it.rests

pub overflow_sub-self : goal.overflow_sub-self
overflow_sub-self c =
    let k = c.self.invariant in
    let it = known _ c.deref.result.now _ _ c.self.inside.slots _ _ _ c.in_ok-slot.slot c.in_ok-place.place
    c.place.result k c.deref.ensures c.in_ok-slot.ensures c.place.ensures c.in_ok-place.was in
    owed-some _ _ _ _ _ _ _ _ k it.rests

pub invariant_of-self : goal.invariant_of-self
invariant_of-self c =
    let k = c.self.invariant in
    let it = known _ c.deref.result.now _ _ c.self.inside.slots _ _ _ c.in_ok-slot.slot c.in_ok-place.place
    c.place.result k c.deref.ensures c.in_ok-slot.ensures c.place.ensures c.in_ok-place.was in
    ended-kept _ c.deref-2.result.now _ _ _ _ _ _ _ _ _ _ _ k c.deref-2.ensures it c.retire-result.ensures.slots
    c.enter.ensures.entry c.enter.ensures.room

pub returns-clause-says : goal.returns-clause-says
returns-clause-says c =
    let k = c.self.invariant in
    let it = known _ c.deref.result.now _ _ c.self.inside.slots _ _ _ c.in_ok-slot.slot c.in_ok-place.place
    c.place.result k c.deref.ensures c.in_ok-slot.ensures c.place.ensures c.in_ok-place.was in
    ended-says _ c.deref-2.result.now _ c.as_slice.result.now _ _ _ _ _ _ _ _ _ c.number_at-number.result _ _ k
    c.deref-2.ensures c.self.view_is it c.as_slice.ensures c.number_at-number.ensures
    c.retire-result.ensures.result c.retire-result.ensures.slots c.enter.ensures.entry

pub returns-clause-desk : goal.returns-clause-desk
returns-clause-desk c = kept-desk _ _ _ _ _ _ _ (invariant_of-self c)
