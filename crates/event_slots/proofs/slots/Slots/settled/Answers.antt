use Rattle.std.proofs.Common.{◌≡◌, inl, inr, ◌<◌, false, length, slice_get, sym, ap, ◌∙◌, arith}
use Rattle.std.proofs.lemmas.Bool.{cases_lt}
use Rattle.std.proofs.lemmas.Option.{slice_get_within}
use Rattle.std.specs.Option.{option_map_or}
use Rattle.hive_model.specs.Step.{is_settled}
use Rattle.event_slots.specs.Slots.{Slots, busy_in}
use Rattle.event_slots.proofs.Found.{event-in-order, read-at, same-value}
use Rattle.event_slots.proofs.Oldest.{settled-there}
use Rattle.event_slots.proofs.slots.Slots.settled.Goals as goal

pub is_settled-requires : goal.is_settled-requires
is_settled-requires c =
    let slots = c.requires.known.0 in
    let are = c.requires.known.1 in
    let order = c.args.self.now.order in
    let at = c.loop-at.at in
    let long : at < length order =
    omega (
      arith,
      c.loop-at-test.true,
      c.len-at-end.ensures,
      ap (λ (it : Slots). length it.order)
          c.self.view_is,
    ) in
    let read = read-at c.self.inside.order.items order at c.index-slot.result.now (ap (λ (it : Slots).
    it.order) c.self.view_is) long
    c.index-slot.ensures in
    let within = event-in-order c.args.job.now slots c.args.self.now at c.index-slot.result.now are read in
    omega (arith, within, are.as_many)

pub returns-then-is_settled : goal.returns-then-is_settled
returns-then-is_settled c = λ slots given.
    settled-there c.args.job.now (busy_in slots c.index-slot.result.now)
    (sym (c.is_settled.ensures c.args.job.now slots given) ∙ c.if-is_settled.true)

pub loop-at-preserved : goal.loop-at-preserved
loop-at-preserved c = λ slots i slot given below stands.
    let job = c.args.job.now in
    let order = c.args.self.now.order in
    let at = c.loop-at.at in
    let long : at < length order =
    omega (
      arith,
      c.loop-at-test.true,
      c.len-at-end.ensures,
      ap (λ (it : Slots). length it.order)
          c.self.view_is,
    ) in
    let read = read-at c.self.inside.order.items order at c.index-slot.result.now (ap (λ (it : Slots).
    it.order) c.self.view_is) long
    c.index-slot.ensures in
    elim (cases_lt i at) [
      | inl less ↦ c.loop-at.invariant slots i slot given less stands
      | inr not_less ↦
          let here : i ≡ at = omega (arith, below) in
          let is = same-value (slice_get order at) c.index-slot.result.now slot read (ap (slice_get order)
          (sym here) ∙ stands) in
          ap (λ s. option_map_or (is_settled job) (busy_in slots s) false) (sym is)
          ∙ sym (c.is_settled.ensures job slots given) ∙ c.if-is_settled.false
    ]

pub returns : goal.returns
returns c = λ slots given slot b busy.
    let job = c.args.job.now in
    let stands = given.order.all slot b busy in
    let within = slice_get_within c.args.self.now.order stands.0 slot stands.1 in
    let short : stands.0 < c.loop-at.at =
    omega (
      arith,
      within,
      c.loop-at-test.false,
      c.len-at-end.ensures,
      ap (λ (it : Slots). length it.order)
          c.self.view_is,
    ) in
    ap (λ o. option_map_or (is_settled job) o false) (sym busy)
    ∙ c.loop-at.invariant slots stands.0 slot given short stands.1
