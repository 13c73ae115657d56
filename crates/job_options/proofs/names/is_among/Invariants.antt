use Rattle.std.proofs.Common.{◌≡◌, drop}
use Rattle.hive_model.specs.Same.{texts}
use Rattle.text_model.specs.Names.{is_among}
use Rattle.job_options.proofs.names.is_among.Given as goal

abbrev pub invariant-loop-word : goal.invariant-loop-word
invariant-loop-word l = is_among (texts (drop l.word-index l.words)) l.text ≡ is_among (texts l.words) l.text
