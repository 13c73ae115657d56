use Rattle.std.proofs.Common.{◌≡◌, ◌+◌, ◌∷◌, ◌++◌, [], length, refl, ap, sym, ◌∙◌, subst, arith}
use Rattle.hive_model.specs.Fits.{Fits}
use Rattle.scheduler_core.proofs.Admitted.{admitted-kept, closed-says, full-says, no-room-says}
use Rattle.scheduler_core.proofs.Keeping.{grown-as, kept-desk, of-job, same-fields, went-well}
use Rattle.scheduler_core.proofs.desk.Desk.admit.Goals as goal
use Rattle.scheduler_core.proofs.desk.Desk.admit.Goals.{then-is_err-via-then-is_err, then-is_err-via-else-is_err+then-is_err-2}

pub returns-then-self-clause-says : goal.returns-then-self-clause-says
returns-then-self-clause-says c = closed-says _ _ _ _ _ _ _ _ _ c.self.invariant c.self.view_is c.if-self.true

pub returns-then-is_full-clause-says : goal.returns-then-is_full-clause-says
returns-then-is_full-clause-says c =
    full-says _ _ _ _ _ _ _ _ _ c.self.invariant c.self.view_is c.if-self.false
    (λ j slots of_them. sym c.if-is_full.true ∙ c.is_full.ensures j slots of_them)

pub returns-then-is_err-clause-says : goal.returns-then-is_err-clause-says
returns-then-is_err-clause-says c =
    no-room-says _ _ _ _ _ _ _ _ _ c.then-is_err.self c.self.invariant c.self.view_is (elim c.then-is_err.branch [
      | then-is_err-via-then-is_err w ↦
          w.self-is ∙ (same-fields _ _ _ _ _ c.self.inside.slots c.self.inside.slots refl c.reserve.ensures.items refl ∙ c.self.view_is)
      | then-is_err-via-else-is_err+then-is_err-2 w ↦
          w.self-is ∙ (same-fields _ _ _ _ _ c.self.inside.slots c.self.inside.slots
          w.reserve-else-is_err.ensures.items c.reserve.ensures.items refl
          ∙ c.self.view_is)
    ]) c.if-self.false (λ j slots of_them. sym c.if-is_full.false ∙ c.is_full.ensures j slots of_them)

pub invariant_of-self-in-Ok : goal.invariant_of-self-in-Ok
invariant_of-self-in-Ok c =
    let k = c.self.invariant in
    let room = went-well c.reserve.result _ c.reserve.ensures.more (sym c.is_err.ensures.value ∙ c.if-is_err.false) in
    admitted-kept _ c.deref-2.result.now _ _ _ _ _ _ _ _ _ _ _ _ c.args.event k c.deref-2.ensures c.if-self.false
    (subst (λ d. Fits d.job c.args.event) (sym c.self.view_is) c.requires)
    (ap (λ l. length l + 1) (c.as_slice.ensures ∙ c.reserve-else-is_err.ensures.items)) c.in-Ok.ensures
    (c.keep.ensures ∙ ap (λ l. l ++ c.args.event ∷ []) c.reserve-else-is_err.ensures.items)
    (grown-as _ _ _ _ _ c.enter.ensures.entry c.reserve.ensures.items refl)
    (omega (arith, room, c.enter.ensures.room))

pub returns-in-Ok-clause-desk : goal.returns-in-Ok-clause-desk
returns-in-Ok-clause-desk c = kept-desk _ _ _ _ _ _ _ (invariant_of-self-in-Ok c)

pub returns-in-Err-clause-says : goal.returns-in-Err-clause-says
returns-in-Err-clause-says c =
    let k = c.self.invariant in
    let now = c.in-Err.ensures k.machine.slots (of-job _ _ _ _ c.deref-2.ensures k.slots) in
    no-room-says _ _ _ _ _ _ _ _ _ _ k c.self.view_is
    (same-fields _ _ _ _ _ c.self.inside.slots c.admit.new.self c.reserve-else-is_err.ensures.items c.reserve.ensures.items
    (now.as_many ∙ sym k.slots.as_many) ∙ c.self.view_is) c.if-self.false
    (λ j slots of_them. sym c.if-is_full.false ∙ c.is_full.ensures j slots of_them)
