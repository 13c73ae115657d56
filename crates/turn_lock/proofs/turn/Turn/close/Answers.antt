-- The slot has the last value, since no pass that might hold it is left.
use Rattle.std.proofs.Common.{◌≡◌, length, Some, sym, ◌∙◌, subst}
use Rattle.turn_lock.specs.Turn.{opening}
use Rattle.turn_lock.proofs.Ends.{IsLast, closes}
use Rattle.turn_lock.proofs.turn.Turn.close.Goals as goal

last : (g : _) (c : goal.In-Some g)
    → IsLast g.V.Kept.list (length (opening g.V.Kept.list c.args.self)) c.args.pass.seat.me.0 c.in-Some.value
last g c =
    let all = sym c.args.pass.rights_are ∙ c.requires.rights in
    let x = closes g.V.Kept.list _ _ _ _ _ _ c.take-slot.result c.requires.pass.1.0 all
    c.close_with-closed.ensures.values.2 c.take-slot.ensures.value in
    let is : Some x.0 ≡ Some c.in-Some.value = sym x.1 ∙ c.in-Some.is in
    let same : x.0 ≡ c.in-Some.value = cc in
    subst (IsLast g.V.Kept.list _ c.args.pass.seat.me.0) same x.2

pub unreachable-requires : goal.unreachable-requires
unreachable-requires g c =
    let all = sym c.args.pass.rights_are ∙ c.requires.rights in
    let x = closes g.V.Kept.list _ _ _ _ _ _ c.take-slot.result c.requires.pass.1.0 all
    c.close_with-closed.ensures.values.2 c.take-slot.ensures.value in
    let is = sym x.1 ∙ c.in-None.is in
    cc

pub returns-clause-seen : goal.returns-clause-seen
returns-clause-seen g c = (last g c).0

pub returns-clause-own : goal.returns-clause-own
returns-clause-own g c = (last g c).2

pub returns-clause-fits : goal.returns-clause-fits
returns-clause-fits g c = (last g c).1
