use Rattle.std.proofs.Common.{◌≡◌, ◌<◌, length, sym, ◌∙◌, arith}
use Rattle.text_model.specs.Walks.{is_on_cycle}
use Rattle.graph_parts.proofs.Finding.{found-at, found-none}
use Rattle.graph_parts.specs.Links.{links}
use Rattle.graph_parts.proofs.cycle.first_on_cycle.Goals as goal

pub returns-then-branch-clause-first : goal.returns-then-branch-clause-first
returns-then-branch-clause-first c =
    sym (found-none (is_on_cycle (links c.args.next.now) (length c.args.next.now)) (length c.args.next.now)
    (λ n h. c.in_ok-is_ordered.ensures c.if-branch.true (length c.args.next.now) n h))

pub returns-then-branch-2-clause-first : goal.returns-then-branch-2-clause-first
returns-then-branch-2-clause-first c =
    sym (found-at (is_on_cycle (links c.args.next.now) (length c.args.next.now)) c.loop-number.number (length c.args.next.now) c.loop-number-test.true
    (λ n h. c.loop-number.invariant (length c.args.next.now) n h) (sym c.in_ok-leads_back.ensures.back ∙ c.if-branch-2.true))

pub returns-clause-first : goal.returns-clause-first
returns-clause-first c =
    sym (found-none (is_on_cycle (links c.args.next.now) (length c.args.next.now)) (length c.args.next.now)
    (λ n h. c.loop-number.invariant (length c.args.next.now) n (omega arith)))
