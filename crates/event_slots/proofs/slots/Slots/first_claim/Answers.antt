use Rattle.std.proofs.Common.{◌<◌, ◌≤◌, ◌+◌, length, sym, ap, subst, arith}
use Rattle.event_slots.specs.Slots.{Slots}
use Rattle.event_slots.specs.Standings.{IsFirstAmong}
use Rattle.event_slots.proofs.Found.{event-in-order, read-at}
use Rattle.event_slots.proofs.Oldest.{first-of-all, one-more}
use Rattle.event_slots.proofs.slots.Slots.first_claim.Goals as goal

pub first_of-requires : goal.first_of-requires
first_of-requires c =
    let slots = c.requires.known.0 in
    let are = c.requires.known.1 in
    let order = c.args.self.now.order in
    let at = c.loop-at.at in
    let long : at < length order =
    omega (
      arith,
      c.loop-at-test.true,
      c.len-at-end.ensures,
      ap (λ (it : Slots). length it.order)
          c.self.view_is,
    ) in
    let read = read-at c.self.inside.order.items order at c.index.result.now (ap (λ (it : Slots). it.order)
    c.self.view_is) long
    c.index.ensures in
    let within = event-in-order c.args.job.now slots c.args.self.now at c.index.result.now are read in
    omega (arith, within, are.as_many)

pub loop-at-preserved : goal.loop-at-preserved
loop-at-preserved c = λ slots given.
    let order = c.args.self.now.order in
    let at = c.loop-at.at in
    let long : at < length order =
    omega (
      arith,
      c.loop-at-test.true,
      c.len-at-end.ensures,
      ap (λ (it : Slots). length it.order)
          c.self.view_is,
    ) in
    let read = read-at c.self.inside.order.items order at c.index.result.now (ap (λ (it : Slots). it.order)
    c.self.view_is) long
    c.index.ensures in
    subst (IsFirstAmong slots order (at + 1)) (sym c.older-first.ensures)
    (one-more slots order at c.index.result.now c.loop-at.first c.first_of.result (c.loop-at.invariant slots
    given)
    (c.first_of.ensures c.args.job.now slots given) read)

pub returns : goal.returns
returns c = λ slots given.
    let long : length c.args.self.now.order ≤ c.loop-at.at =
    omega (
      arith,
      c.loop-at-test.false,
      c.len-at-end.ensures,
      ap (λ (it : Slots). length it.order)
          c.self.view_is,
    ) in
    first-of-all c.args.job.now slots c.args.self.now c.loop-at.at c.loop-at.first given long
    (c.loop-at.invariant slots given)
