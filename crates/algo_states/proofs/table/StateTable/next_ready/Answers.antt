use Rattle.std.proofs.Common.{subst}
use Rattle.algo_states.specs.States.{IsNextReady, States}
use Rattle.algo_states.specs.Table.{lists_of}
use Rattle.algo_states.proofs.Telling.{next-told}
use Rattle.algo_states.proofs.table.StateTable.next_ready.Goals as goal

pub returns : goal.returns
returns c =
    let it = c.self.inside in
    subst (λ (t : States). IsNextReady t c.args.from c.first_from.result) c.self.view_is
    (next-told (lists_of it.needs.items) (lists_of it.consumers.items) it.missing.items it.reached.items it.scheduled.items it.outcomes.items it.arrived.items
    it.ready c.self.invariant c.args.from c.first_from.result c.first_from.ensures)
