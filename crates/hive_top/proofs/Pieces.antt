-- A journal whose text is written in pieces.
use Rattle.std.proofs.Common.{◌≡◌, ◌≤◌, ◌-◌, ℕ, List, [], ◌++◌, length, take, drop, sym, ap, ◌∙◌, arith, flat_map}
use Rattle.std.proofs.Math.ListN.{drop_of_length-le}
use Rattle.std.proofs.lemmas.Grind.{flat_map-append}
use Rattle.std.proofs.lemmas.List.{drop-drop, take-append-drop}
use Rattle.hive_model.specs.declared.entry.Entry.{Entry}
use Rattle.text_model.specs.Timeline.{entry_text, timeline}

-- the text of a piece, and of what follows it
pub next_piece : (journal : List Entry) (at end : ℕ) (piece : List ℕ) →
    piece ≡ timeline (take (end - at) (drop at journal)) → at ≤ end →
    piece ++ timeline (drop end journal) ≡ timeline (drop at journal)
unfolding timeline
next_piece journal at end piece is later =
    ap (λ l. l ++ flat_map entry_text (drop end journal)) is
    ∙ (ap (λ l. flat_map entry_text (take (end - at) (drop at journal)) ++ flat_map entry_text l) rest
    ∙ (sym (flat_map-append entry_text (take (end - at) (drop at journal)) (drop (end - at) (drop at journal)))
    ∙ ap (flat_map entry_text) (take-append-drop (end - at) (drop at journal))))
  where
    rest : drop end journal ≡ drop (end - at) (drop at journal)
    rest = ap (λ n. drop n journal) (omega (later, arith)) ∙ sym (drop-drop (end - at) at journal)

-- nothing follows the end
pub last_piece : (journal : List Entry) (at : ℕ) → length journal ≤ at → timeline (drop at journal) ≡ []
unfolding timeline
last_piece journal at over = ap (flat_map entry_text) (drop_of_length-le journal over)
