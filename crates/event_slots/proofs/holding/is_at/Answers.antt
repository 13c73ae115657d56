use Rattle.std.proofs.Common.{Some, ap, ◌∙◌}
use Rattle.event_slots.proofs.Comparing.{input-at}
use Rattle.event_slots.proofs.Found.{same-value}
use Rattle.event_slots.proofs.holding.is_at.Goals as goal

pub returns : goal.returns
returns c =
    let read = input-at c.args.inputs.now c.args.index c.index-inputs-index.result c.if-index-inputs.false
    c.index-inputs-index.is in (
      λ e. read ∙ ap Some (c.is_same.ensures.0 e),
      λ e. c.is_same.ensures.1 (same-value _ _ c.args.product.now
          read e),
    )
