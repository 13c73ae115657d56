-- The slot is out with the pass once its ticket is served.
use Rattle.std.proofs.Common.{◌∷◌, Some, rules, sym, ap, ◌∙◌}
use Rattle.atomic_table.specs.Table.{rest}
use Rattle.turn_lock.proofs.turn.Turn.hold.Goals as goal

pub exchange-requires : goal.exchange-requires
exchange-requires g c =
    let taken = c.wait.ensures.takes.1 in
    (search rules, (Some taken.0, taken.2 ∙ ap (λ slots. (0, Some taken.0) ∷ slots) (sym (ap rest taken.2))))
