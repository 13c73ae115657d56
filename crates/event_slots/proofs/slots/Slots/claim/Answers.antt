use Rattle.std.proofs.Common.{◌≡◌, inl, inr, ◌<◌, length, slice_get, sym, ap, subst, ◌∙◌, arith}
use Rattle.std.proofs.lemmas.Bool.{cases_lt}
use Rattle.std.proofs.lemmas.Option.{slice_get_within}
use Rattle.event_slots.specs.Attempts.{AreRefused}
use Rattle.event_slots.specs.Slots.{AreSlotsOf, Slots}
use Rattle.event_slots.proofs.Found.{event-in-order, read-at, same-value}
use Rattle.event_slots.proofs.slots.Slots.claim.Goals as goal

pub claim_in-requires-clause-known : goal.claim_in-requires-clause-known
claim_in-requires-clause-known c =
    let job = c.args.job.now in
    let slots = c.requires.known.0 in
    let same = c.loop-at.invariant.same in
    let order = c.args.self.now.order in
    let long : c.loop-at.at < length order =
    omega (
      arith,
      c.loop-at-test.true,
      c.len-at-end.ensures,
      ap (λ (it : Slots). length it.order)
          c.self.view_is,
    ) in
    let read = read-at c.self-in-loop-at.inside.order.items order c.loop-at.at c.index-slot.result.now
    (ap (λ (it : Slots). it.order) (c.self-in-loop-at.view_is ∙ same)) long c.index-slot.ensures in (
      slots,
      subst (AreSlotsOf job slots) (sym same) c.requires.known.1,
      event-in-order job slots c.args.self.now c.loop-at.at c.index-slot.result.now c.requires.known.1 read,
    )

pub loop-at-preserved : goal.loop-at-preserved
loop-at-preserved c =
    let job = c.args.job.now in
    let known = c.requires.known.0 in
    let same = c.loop-at.invariant.same in
    let order = c.args.self.now.order in
    let at = c.loop-at.at in
    let long : at < length order =
    omega (
      arith,
      c.loop-at-test.true,
      c.len-at-end.ensures,
      ap (λ (it : Slots). length it.order)
          c.self.view_is,
    ) in
    let read = read-at c.self-in-loop-at.inside.order.items order at c.index-slot.result.now
    (ap (λ (it : Slots). it.order) (c.self-in-loop-at.view_is ∙ same)) long c.index-slot.ensures in
    record {
      same = (c.in-Nothing.ensures known (subst (AreSlotsOf job known) (sym same) c.requires.known.1)).0
          ∙ same;
      refused = λ slots i slot given below stands.
          elim (cases_lt i at) [
            | inl less ↦ c.loop-at.invariant.refused slots i slot given less stands
            | inr not_less ↦
                let here : i ≡ at = omega (arith, below) in
                let is = same-value (slice_get order at) c.index-slot.result.now slot read (ap (slice_get
                order) (sym here) ∙ stands) in
                subst (λ s. AreRefused job slots s (length job.algorithms)) is
                (c.in-Nothing.ensures slots (subst (AreSlotsOf job slots) (sym same) given)).1
          ];
    }

pub returns : goal.returns
returns c = λ slots given.
    let job = c.args.job.now in
    let same = c.loop-at.invariant.same in
    let order = c.args.self.now.order in (
      subst (AreSlotsOf job slots) (sym same) given,
      λ slot number b a clone busy of_job.
          let stands = given.order.all slot b busy in
          let within = slice_get_within order stands.0 slot stands.1 in
          let short : stands.0 < c.loop-at.at =
          omega (
            arith,
            within,
            c.loop-at-test.false,
            c.len-at-end.ensures,
            ap (λ (it : Slots). length
                it.order) c.self.view_is,
          ) in
          c.loop-at.invariant.refused slots stands.0 slot given short stands.1 b a number clone busy
          (slice_get_within job.algorithms number a of_job) of_job,
    )
