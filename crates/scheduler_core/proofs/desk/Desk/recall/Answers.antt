use Rattle.std.proofs.Common.{length, refl, ap, sym, ◌∙◌, arith}
use Rattle.std.proofs.lemmas.Option.{slice_get_within}
use Rattle.hive_model.specs.Job.{Job}
use Rattle.scheduler_core.proofs.Keeping.{kept-desk, of-job}
use Rattle.scheduler_core.proofs.Recalled.{made-for, nothing-out, recalled-says, something-out, stands-of}
use Rattle.scheduler_core.proofs.Returned.{back-entered, back-kept, can-return, owed-some, spare-some}
use Rattle.scheduler_core.proofs.desk.Desk.recall.Goals as goal

pub returns-in_default-clause-says : goal.returns-in_default-clause-says
returns-in_default-clause-says c = (
  refl,
  nothing-out _ c.deref.result.now _ _ c.self.inside.slots _ _ _ _ c.self.invariant c.deref.ensures c.self.view_is
      c.in_default.ensures,
)

pub bounds-algorithms-algorithm : goal.bounds-algorithms-algorithm
bounds-algorithms-algorithm c =
    let k = c.self.invariant in
    let it = stands-of _ c.deref.result.now _ _ c.self.inside.slots _ _ _ c.in-Some.claim.ticket c.in-Some.claim.slot
    c.in-Some.claim.algorithm c.in-Some.claim.clone k c.deref.ensures c.in-Some.ensures in
    let within = slice_get_within _ c.in-Some.claim.algorithm it.algorithm it.known in
    let same = ap length (c.algorithms.ensures ∙ ap (λ (j : Job). j.algorithms) c.deref-2.ensures) in
    omega (arith, within, c.from-algorithm.ensures, same)

pub returns-in_default-new-clause-says : goal.returns-in_default-new-clause-says
returns-in_default-new-clause-says c =
    let k = c.self.invariant in
    let it = stands-of _ c.deref.result.now _ _ c.self.inside.slots _ _ _ c.in-Some.claim.ticket c.in-Some.claim.slot
    c.in-Some.claim.algorithm c.in-Some.claim.clone k c.deref.ensures c.in-Some.ensures in (
      refl,
      something-out _ _ _ c.self.inside.slots _ _ _ c.in-Some.claim.ticket c.in-Some.claim.slot
          c.in-Some.claim.algorithm c.in-Some.claim.clone _ k c.self.view_is it,
    )

pub give_back-requires : goal.give_back-requires
give_back-requires c =
    let k = c.self.invariant in
    let it = stands-of _ c.deref.result.now _ _ c.self.inside.slots _ _ _ c.in-Some.claim.ticket c.in-Some.claim.slot
    c.in-Some.claim.algorithm c.in-Some.claim.clone k c.deref.ensures c.in-Some.ensures in record {
      known = (
        k.machine.slots,
        of-job _ _ _ _ c.deref-3.ensures k.slots,
        can-return _ c.deref-3.result.now k.machine c.in-Some.claim.slot it.busy c.in-Some.claim.algorithm it.claim
            it.algorithm (record {
              algorithm = c.in-Some.claim.algorithm;
              clone = c.in-Some.claim.clone;
              scratch = c.in-Ok.scratch;
            }) c.deref-3.ensures it.there it.mine refl (sym it.clone_is) it.known
            (made-for _ _ _ _ _ _ _ _ c.algorithms.ensures c.deref-2.ensures c.from-algorithm.ensures it.known
            c.index-algorithms-algorithm.is c.in-Ok.ensures.made_for),
      );
    }

pub enter-requires : goal.enter-requires
enter-requires c =
    let k = c.self.invariant in
    let it = stands-of _ c.deref.result.now _ _ c.self.inside.slots _ _ _ c.in-Some.claim.ticket c.in-Some.claim.slot
    c.in-Some.claim.algorithm c.in-Some.claim.clone k c.deref.ensures c.in-Some.ensures in
    spare-some _ _ _ _ _ _ _ _ _ _ _ k it.there it.mine

pub overflow_sub-self : goal.overflow_sub-self
overflow_sub-self c =
    let k = c.self.invariant in
    let it = stands-of _ c.deref.result.now _ _ c.self.inside.slots _ _ _ c.in-Some.claim.ticket c.in-Some.claim.slot
    c.in-Some.claim.algorithm c.in-Some.claim.clone k c.deref.ensures c.in-Some.ensures in
    owed-some _ _ _ _ _ _ _ _ _ _ _ k it.there it.mine

pub invariant_of-self : goal.invariant_of-self
invariant_of-self c =
    let k = c.self.invariant in
    let it = stands-of _ c.deref.result.now _ _ c.self.inside.slots _ _ _ c.in-Some.claim.ticket c.in-Some.claim.slot
    c.in-Some.claim.algorithm c.in-Some.claim.clone k c.deref.ensures c.in-Some.ensures in
    back-kept _ c.deref-3.result.now _ _ _ _ _ _ _ _ _ _ c.in-Some.claim.slot it.busy c.in-Some.claim.algorithm
    it.claim (record {
      algorithm = c.in-Some.claim.algorithm;
      clone = c.in-Some.claim.clone;
      scratch = c.in-Ok.scratch;
    }) k c.deref-3.ensures it.there it.mine refl (sym it.clone_is) c.give_back.ensures (sym it.ticket_is)
    c.enter.ensures.entry c.enter.ensures.room

pub returns-clause-says : goal.returns-clause-says
returns-clause-says c =
    let k = c.self.invariant in
    let it = stands-of _ c.deref.result.now _ _ c.self.inside.slots _ _ _ c.in-Some.claim.ticket c.in-Some.claim.slot
    c.in-Some.claim.algorithm c.in-Some.claim.clone k c.deref.ensures c.in-Some.ensures in
    recalled-says _ _ _ c.self.inside.slots _ _ _ c.in-Some.claim.ticket c.in-Some.claim.slot
    c.in-Some.claim.algorithm c.in-Some.claim.clone _ _ k c.self.view_is it
    (back-entered _ c.deref-3.result.now _ _ _ _ _ _ _ _ _ c.in-Some.claim.ticket c.in-Some.claim.slot it.busy
    c.in-Some.claim.algorithm it.claim (record {
      algorithm = c.in-Some.claim.algorithm;
      clone = c.in-Some.claim.clone;
      scratch = c.in-Ok.scratch;
    }) _ k c.deref-3.ensures c.self.view_is it.there it.mine refl
    (sym it.clone_is) c.give_back.ensures refl c.enter.ensures.entry)

pub returns-clause-desk : goal.returns-clause-desk
returns-clause-desk c = kept-desk _ _ _ _ _ _ _ (invariant_of-self c)
