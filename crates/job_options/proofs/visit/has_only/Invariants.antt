use Rattle.std.proofs.Common.{◌≡◌}
use Rattle.toml.specs.View.{members_view}
use Rattle.text_model.specs.Keys.{has_only, names_of}
use Rattle.job_options.specs.Told.{told_keys}
use Rattle.job_options.proofs.visit.has_only.Given as goal

abbrev pub invariant-members : goal.invariant-members
invariant-members g l =
    (goal.iterator-members g).can_next l.name-iterator × (goal.iterator-members g).is_finite l.name-iterator
    × (has_only (names_of (told_keys g.R.Rule.told l.keys)) (members_view l.name-iterator)
    ≡ has_only (names_of (told_keys g.R.Rule.told l.keys)) (members_view l.table.entries))
