use Rattle.std.proofs.Common.{◌≡◌, drop}
use Rattle.hive_edge.specs.Shelf.{text_of, files_of}
use Rattle.hive_edge.proofs.pieces.find_text.Given as goal

abbrev pub invariant-loop-file : goal.invariant-loop-file
invariant-loop-file l =
    text_of l.name (files_of l.files) ≡ text_of l.name (files_of (drop l.file-index l.files))
