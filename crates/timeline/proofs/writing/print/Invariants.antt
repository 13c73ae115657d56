-- What is written, with the lines of the entries that are left, is the whole text.
use Rattle.std.proofs.Common.{◌≡◌, ◌++◌, drop}
use Rattle.std.specs.List.{flat_map}
use Rattle.text_model.specs.Timeline.{entry_text}
use Rattle.timeline.proofs.writing.print.Given as goal

abbrev pub invariant-loop-entry : goal.invariant-loop-entry
invariant-loop-entry l = l.text.items ++ flat_map entry_text (drop l.entry-index l.entries)
    ≡ flat_map entry_text l.entries
