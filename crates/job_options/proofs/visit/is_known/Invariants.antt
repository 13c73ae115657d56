use Rattle.std.proofs.Common.{◌≡◌, drop}
use Rattle.text_model.specs.Keys.{names_of}
use Rattle.text_model.specs.Names.{is_among}
use Rattle.job_options.specs.Told.{told_keys}
use Rattle.job_options.proofs.visit.is_known.Given as goal

abbrev pub invariant-loop-key : goal.invariant-loop-key
invariant-loop-key g l =
    is_among (names_of (told_keys g.R.Rule.told (drop l.key-index l.keys))) l.name
    ≡ is_among (names_of (told_keys g.R.Rule.told l.keys)) l.name
