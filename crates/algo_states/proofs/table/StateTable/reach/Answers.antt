use Rattle.std.proofs.Common.{◌<◌, length, ap}
use Rattle.algo_states.specs.States.{States}
use Rattle.algo_states.specs.Table.{lists_of}
use Rattle.algo_states.proofs.Telling.{reach-told}
use Rattle.algo_states.proofs.table.StateTable.reach.Goals as goal

pub invariant_of-self : goal.invariant_of-self
invariant_of-self c =
    let it = c.self.inside in
    let n = c.from-number.result in
    let lt : n < length (lists_of it.needs.items) =
    rw (c.from-number.ensures, ap (λ (t : States). length t.needs) c.self.view_is) c.requires in
    let put = rw (← c.from-number.ensures) at c.put.ensures in
    reach-told (lists_of it.needs.items) (lists_of it.consumers.items) it.missing.items it.reached.items it.scheduled.items it.outcomes.items it.arrived.items
    it.ready c.put.new.ready n c.self.invariant lt c.index.result.now c.index-2.result.now c.index-3.result.now c.can_run-is_in.result c.index.ensures c.index-2.ensures c.index-3.ensures
    c.can_run-is_in.ensures put
