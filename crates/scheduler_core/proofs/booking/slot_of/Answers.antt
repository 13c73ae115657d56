use Rattle.scheduler_core.proofs.Claims.{held-out, no-name, not-held, other-name, where-none}
use Rattle.scheduler_core.proofs.booking.slot_of.Goals as goal
use Rattle.scheduler_core.proofs.booking.slot_of.Goals.{else-claimed-algorithm-via-then-claimed-algorithm+else-holds, else-claimed-algorithm-via-else-claimed-algorithm}

pub returns-in_err-slot-clause-none : goal.returns-in_err-slot-clause-none
returns-in_err-slot-clause-none c =
    where-none _ _ c.from_residual.ensures
    (λ m known slots slot out. no-name _ _ m slot _ _ _ _ known c.in_err-slot.ensures.none out)

pub returns-then-holds-clause-some : goal.returns-then-holds-clause-some
returns-then-holds-clause-some c = λ m known slots.
    held-out _ _ m _ _ _ _ _ known ((c.holds.ensures m.slots slots).0 c.if-holds.true)

pub returns-else-claimed-algorithm-clause-none : goal.returns-else-claimed-algorithm-clause-none
returns-else-claimed-algorithm-clause-none c = λ m known slots slot out. elim c.else-claimed-algorithm.branch [
  | else-claimed-algorithm-via-then-claimed-algorithm+else-holds w ↦
      not-held _ _ m _ slot _ _ _ _ _ known c.in_ok-slot.ensures.some
      (λ held. cc (w.if-holds.false, (w.holds.ensures m.slots slots).1 held)) out
  | else-claimed-algorithm-via-else-claimed-algorithm w ↦
      other-name _ _ m _ slot _ _ _ _ _ known c.in_ok-slot.ensures.some w.if-claimed-algorithm.false out
]
