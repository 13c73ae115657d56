use Rattle.std.proofs.Common.{◌<◌, length, ap, ◌∙◌}
use Rattle.algo_states.specs.States.{States, state_of}
use Rattle.algo_states.specs.Table.{lists_of}
use Rattle.algo_states.proofs.Telling.{state-told}
use Rattle.algo_states.proofs.table.StateTable.state.Goals as goal

pub returns : goal.returns
returns c =
    let it = c.self.inside in
    let n = c.from-number.result in
    let lt : n < length (lists_of it.needs.items) =
    rw (c.from-number.ensures, ap (λ (t : States). length t.needs) c.self.view_is) c.requires in
    c.state_by.ensures
    ∙ state-told (lists_of it.needs.items) (lists_of it.consumers.items) it.missing.items it.reached.items it.scheduled.items it.outcomes.items it.arrived.items
    it.ready c.self.invariant n lt c.index-2.result.now c.index.result.now c.index-outcome.result.now c.index-3.result.now c.index-2.ensures c.index.ensures
    c.index-outcome.ensures c.index-3.ensures
    ∙ ap (λ (t : States). state_of t n) c.self.view_is ∙ ap (state_of c.args.self.now) c.from-number.ensures
