use Rattle.std.proofs.Common.{not, is_some, sym, ap, ◌∙◌}
use Rattle.std.specs.List.{count_by}
use Rattle.event_flow.specs.Flow.{Flow}
use Rattle.std.proofs.Math.Bool.{not-not}
use Rattle.event_flow.proofs.Views.{busy-unsettled, idle-settled}
use Rattle.event_flow.proofs.flow.Flow.is_settled.Goals as goal

pub returns-then-self-gt0 : goal.returns-then-self-gt0
returns-then-self-gt0 c =
    busy-unsettled c.args.self.now c.self.inside.outstanding
    (c.self.invariant.counted ∙ ap (λ (f : Flow). count_by is_some f.claims) c.self.view_is) c.if-self-gt0.true

pub returns : goal.returns
returns c =
    sym (not-not c.is_none.result) ∙ ap not (sym c.is_none.ensures)
    ∙ idle-settled c.args.self.now c.self.inside.outstanding c.next_claimable-next.result
    (c.self.invariant.counted ∙ ap (λ (f : Flow). count_by is_some f.claims) c.self.view_is) c.if-self-gt0.false
    c.next_claimable-next.ensures
