use Rattle.std.proofs.Common.{◌≡◌, drop}
use Rattle.toml.specs.View.{members_view}
use Rattle.text_model.specs.Keys.{refusal_of_key}
use Rattle.text_model.specs.Steps.{find_map}
use Rattle.job_options.specs.Told.{told_keys}
use Rattle.job_options.proofs.visit.check_keys.Given as goal

abbrev pub invariant-loop-key : goal.invariant-loop-key
invariant-loop-key g l =
    find_map (refusal_of_key l.path (members_view l.table.entries)) (told_keys g.R.Rule.told (drop l.key-index l.keys))
    ≡ find_map (refusal_of_key l.path (members_view l.table.entries)) (told_keys g.R.Rule.told l.keys)
