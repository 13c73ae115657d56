use Rattle.std.proofs.Common.{◌≡◌, true, refl, ap, sym, ◌∙◌, arith}
use Rattle.hive_model.specs.declared.entry.Entry.TheVariants.{Last}
use Rattle.scheduler_core.proofs.Entries.{lasts}
use Rattle.scheduler_core.proofs.Keeping.{closed-told, entered, kept-desk, kept-on}
use Rattle.scheduler_core.proofs.Owing.{last-owes}
use Rattle.scheduler_core.proofs.desk.Desk.last.Goals as goal
use Rattle.scheduler_core.specs.Says.{is_closed, with_entry}

pub returns-then-self-clause-says : goal.returns-then-self-clause-says
returns-then-self-clause-says c =
    (refl, ap is_closed (sym c.self.view_is) ∙ (closed-told _ _ _ _ _ _ _ c.self.invariant ∙ c.if-self.true))

pub invariant_of-self : goal.invariant_of-self
invariant_of-self c =
    let k = c.self.invariant in
    let on = k.last ∙ c.if-self.false in
    let owes = last-owes k.machine on in
    kept-on _ _ _ _ _ Last k.machine (record k.machine { closed = true }) _ _ _ _ k.valid k.some k.fitting k.led
    (lasts _ _ _ k.machine on) c.enter.ensures.entry refl k.all refl k.slots (omega (arith, k.owes, owes))
    (omega (arith, k.room, c.enter.ensures.room))

pub returns-clause-says : goal.returns-clause-says
returns-clause-says c =
    let grown = entered _ _ _ _ Last c.self.inside.slots c.self.inside.slots refl c.enter.ensures.entry in (
      grown ∙ ap (λ d. with_entry d Last) c.self.view_is,
      ap is_closed (sym c.self.view_is) ∙ (closed-told _ _ _ _ _ _ _ c.self.invariant ∙ c.if-self.false),
    )

pub returns-clause-desk : goal.returns-clause-desk
returns-clause-desk c = kept-desk _ _ _ _ _ _ _ (invariant_of-self c)
