use Rattle.std.proofs.Common.{◌≡◌, ◌<◌, ℕ, false, get_or, length, ap, refl, ◌∙◌}
use Rattle.algo_states.specs.States.{States}
use Rattle.algo_states.specs.Table.{lists_of}
use Rattle.algo_states.proofs.Arriving.{arrive-told, consumers-read, there-told, within-index}
use Rattle.algo_states.proofs.table.StateTable.arrive.Goals as goal

pub count_down-requires-clause-there : goal.count_down-requires-clause-there
count_down-requires-clause-there c =
    let it = c.self.inside in
    let h = c.from-number.result in
    let lt : h < length it.arrived.items = rw (c.from-number.ensures, ap (λ (t : States). length t.arrived) c.self.view_is) c.requires.within in
    let new : get_or it.arrived.items h false ≡ false =
    ap (λ (k : ℕ). get_or it.arrived.items k false) c.from-number.ensures ∙ ap (λ (t : States). get_or t.arrived c.args.handle false) c.self.view_is
    ∙ c.requires.new in
    let index : h < length it.consumers.items = within-index it.consumers.items it.arrived.items h c.self.invariant.sizes.indexed lt in
    let seen = consumers-read it.consumers.items h h c.index.result.now c.as_slice.result.now refl index c.index.ensures c.as_slice.ensures in
    there-told (lists_of it.needs.items) (lists_of it.consumers.items) it.missing.items it.reached.items it.scheduled.items it.outcomes.items it.arrived.items
    it.ready h c.as_slice.result.now c.self.invariant lt new seen

pub invariant_of-self : goal.invariant_of-self
invariant_of-self c =
    let it = c.self.inside in
    let h = c.from-number.result in
    let lt : h < length it.arrived.items = rw (c.from-number.ensures, ap (λ (t : States). length t.arrived) c.self.view_is) c.requires.within in
    let new : get_or it.arrived.items h false ≡ false =
    ap (λ (k : ℕ). get_or it.arrived.items k false) c.from-number.ensures ∙ ap (λ (t : States). get_or t.arrived c.args.handle false) c.self.view_is
    ∙ c.requires.new in
    let index : h < length it.consumers.items = within-index it.consumers.items it.arrived.items h c.self.invariant.sizes.indexed lt in
    let seen = consumers-read it.consumers.items h h c.index.result.now c.as_slice.result.now refl index c.index.ensures c.as_slice.ensures in
    arrive-told (lists_of it.needs.items) (lists_of it.consumers.items) it.missing.items it.reached.items it.scheduled.items it.outcomes.items it.arrived.items
    it.ready h c.as_slice.result.now c.self.invariant lt new seen
    c.count_down.new.missing.items c.count_down.new.ready c.count_down.ensures.length c.count_down.ensures.counts
    (rw (← c.as_slice-2.ensures.value, ← c.as_slice-3.ensures.value, ← c.as_slice-4.ensures.value) c.count_down.ensures.set)
