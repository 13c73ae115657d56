use Rattle.std.proofs.Common.{◌≡◌, true≢false, Some, None, is_some, slice_get, sym, ap, ◌∙◌}
use Rattle.std.proofs.lemmas.List.Folds.{list_all_at}
use Rattle.std.proofs.lemmas.Option.{get_or_from_slice_get, slice_get_within}
use Rattle.whiteboard.specs.Slots.{Slots}
use Rattle.whiteboard.proofs.board.Whiteboard.take_slot.Goals as goal

pub returns-in-Some-clause-full : goal.returns-in-Some-clause-full
returns-in-Some-clause-full c =
    let slots = c.args.self.now.slots in
    let same = ap (λ (b : Slots). b.slots) c.self.view_is in
    let free : slice_get slots c.in-Some.slot ≡ Some None = ap (λ l. slice_get l c.in-Some.slot) (sym (c.as_slice.ensures.value ∙ same)) ∙ c.in-Some.ensures.some in
    let empty = ap is_some (get_or_from_slice_get slots c.in-Some.slot None None free) in
    let not_all = list_all_at is_some slots c.in-Some.slot None (slice_get_within slots c.in-Some.slot None free) empty in
    ((λ no. absurd (true≢false (sym no))), λ all. sym not_all ∙ all)
