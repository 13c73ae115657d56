use Rattle.std.proofs.Common.{◌∙◌}
use Rattle.hive_gen.proofs.Drawing.{moved_on, written_first}
use Rattle.hive_gen.proofs.event_lines.push_hits.Goals as goal

pub returns-clause-text : goal.returns-clause-text
returns-clause-text c =
    written_first c.args.count c.args.state c.next_state-first.result c.drawn.result _ _ _ c.requires
    c.next_state-first.ensures c.drawn.ensures c.in_ok-push_hit.ensures.text c.in_ok-behind.ensures.text

pub returns-clause-state : goal.returns-clause-state
returns-clause-state c =
    c.in_ok-behind.ensures.state
    ∙ moved_on c.args.count c.args.state c.next_state-first.result c.requires c.next_state-first.ensures
