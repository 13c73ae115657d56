use Rattle.std.proofs.Common.{◌≡◌, refl, ap, sym, ◌∙◌, subst}
use Rattle.expr_code.specs.Claim.{IsOfJob}
use Rattle.scheduler_core.proofs.Keeping.{kept-desk, of-job}
use Rattle.scheduler_core.proofs.Returned.{back-entered, back-kept, can-return, found-out, none-found, out-told, owed-some, spare-some}
use Rattle.scheduler_core.proofs.desk.Desk.back.Goals as goal

pub returns-in_default-clause-says : goal.returns-in_default-clause-says
returns-in_default-clause-says c = (
  refl,
  refl,
  none-found _ c.deref.result.now _ _ c.as_slice.result.now _ _ _ _ _ _ _ _ c.args.value _ c.self.invariant
      c.self.view_is
      (record {
        same = c.deref.ensures;
        journal_is = c.as_slice.ensures;
        ticket_is = c.ticket-ticket.ensures;
        number_is = c.algorithm.ensures;
        clone_is = c.clone_number.ensures;
        inputs_are = c.inputs.ensures;
      })
      c.in_default.ensures.none,
)

pub give_back-requires : goal.give_back-requires
give_back-requires c =
    let k = c.self.invariant in
    let out = found-out _ c.deref.result.now _ _ c.as_slice.result.now _ _ _ _ c.in-Some.slot _ _ _ _ c.args.value k
    (record {
      same = c.deref.ensures;
      journal_is = c.as_slice.ensures;
      ticket_is = c.ticket-ticket.ensures;
      number_is = c.algorithm.ensures;
      clone_is = c.clone_number.ensures;
      inputs_are = c.inputs.ensures;
    })
    c.in-Some.ensures.some in record {
      known = (
        k.machine.slots,
        of-job _ _ _ _ c.deref-2.ensures k.slots,
        can-return _ c.deref-2.result.now k.machine c.in-Some.slot out.busy c.args.value.algorithm _ _ c.into_lent.result
            c.deref-2.ensures out.there out.claim c.into_lent.ensures.algorithm c.into_lent.ensures.clone
            (subst (λ d. IsOfJob d.job c.args.value) (sym c.self.view_is) c.requires) c.into_lent.ensures.made_for,
      );
    }

pub enter-requires : goal.enter-requires
enter-requires c =
    let k = c.self.invariant in
    let out = found-out _ c.deref.result.now _ _ c.as_slice.result.now _ _ _ _ c.in-Some.slot _ _ _ _ c.args.value k
    (record {
      same = c.deref.ensures;
      journal_is = c.as_slice.ensures;
      ticket_is = c.ticket-ticket.ensures;
      number_is = c.algorithm.ensures;
      clone_is = c.clone_number.ensures;
      inputs_are = c.inputs.ensures;
    })
    c.in-Some.ensures.some in
    spare-some _ _ _ _ _ _ _ _ _ _ _ k out.there out.claim

pub overflow_sub-self : goal.overflow_sub-self
overflow_sub-self c =
    let k = c.self.invariant in
    let out = found-out _ c.deref.result.now _ _ c.as_slice.result.now _ _ _ _ c.in-Some.slot _ _ _ _ c.args.value k
    (record {
      same = c.deref.ensures;
      journal_is = c.as_slice.ensures;
      ticket_is = c.ticket-ticket.ensures;
      number_is = c.algorithm.ensures;
      clone_is = c.clone_number.ensures;
      inputs_are = c.inputs.ensures;
    })
    c.in-Some.ensures.some in
    owed-some _ _ _ _ _ _ _ _ _ _ _ k out.there out.claim

pub invariant_of-self : goal.invariant_of-self
invariant_of-self c =
    let k = c.self.invariant in
    let out = found-out _ c.deref.result.now _ _ c.as_slice.result.now _ _ _ _ c.in-Some.slot _ _ _ _ c.args.value k
    (record {
      same = c.deref.ensures;
      journal_is = c.as_slice.ensures;
      ticket_is = c.ticket-ticket.ensures;
      number_is = c.algorithm.ensures;
      clone_is = c.clone_number.ensures;
      inputs_are = c.inputs.ensures;
    })
    c.in-Some.ensures.some in
    back-kept _ c.deref-2.result.now _ _ _ _ _ _ _ _ _ _ c.in-Some.slot out.busy c.args.value.algorithm _
    c.into_lent.result k c.deref-2.ensures out.there out.claim c.into_lent.ensures.algorithm
    c.into_lent.ensures.clone c.give_back.ensures c.ticket-ticket.ensures c.enter.ensures.entry
    c.enter.ensures.room

pub returns-clause-says : goal.returns-clause-says
returns-clause-says c =
    let k = c.self.invariant in
    let out = found-out _ c.deref.result.now _ _ c.as_slice.result.now _ _ _ _ c.in-Some.slot _ _ _ _ c.args.value k
    (record {
      same = c.deref.ensures;
      journal_is = c.as_slice.ensures;
      ticket_is = c.ticket-ticket.ensures;
      number_is = c.algorithm.ensures;
      clone_is = c.clone_number.ensures;
      inputs_are = c.inputs.ensures;
    })
    c.in-Some.ensures.some in (
      back-entered _ c.deref-2.result.now _ _ _ _ _ _ _ _ _ _ c.in-Some.slot out.busy c.args.value.algorithm _
          c.into_lent.result _ k c.deref-2.ensures c.self.view_is out.there out.claim c.into_lent.ensures.algorithm
          c.into_lent.ensures.clone c.give_back.ensures c.ticket-ticket.ensures c.enter.ensures.entry,
      out-told _ _ _ _ _ _ _ c.in-Some.slot c.args.value _ k c.self.view_is out,
    )

pub returns-clause-desk : goal.returns-clause-desk
returns-clause-desk c = kept-desk _ _ _ _ _ _ _ (invariant_of-self c)
