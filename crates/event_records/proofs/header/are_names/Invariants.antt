use Rattle.std.proofs.Common.{◌≡◌, drop, map}
use Rattle.std.specs.Cmp.Lexicographic.{pointwise}
use Rattle.hive_model.specs.Same.{same_text, texts}
use Rattle.hive_model.specs.declared.algorithm.Raw.{Raw}
use Rattle.event_records.proofs.header.are_names.Given as goal

abbrev pub invariant-loop-index : goal.invariant-loop-index
invariant-loop-index l =
    pointwise same_text (map (λ (raw : Raw). raw.name) (drop l.index l.raws)) (texts (drop l.index l.cells))
    ≡ pointwise same_text (map (λ (raw : Raw). raw.name) l.raws) (texts l.cells)
