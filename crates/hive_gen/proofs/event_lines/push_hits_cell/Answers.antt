use Rattle.hive_gen.proofs.Drawing.{drawn_behind}
use Rattle.hive_gen.proofs.event_lines.push_hits_cell.Goals as goal

pub returns-clause-state : goal.returns-clause-state
returns-clause-state c =
    let moved = c.next_state-count_drawn in
    drawn_behind c.args.number c.args.state moved.result c.drawn.result _ c.if-number-eq0.false moved.ensures
    c.drawn.ensures c.in_ok-behind.ensures.state
