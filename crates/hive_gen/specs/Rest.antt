-- What is still to come of a records text: the header, where it isn't written yet, and the lines of the
-- events that are left.
use Rattle.std.specs.Prelude.{ℕ, ◌+◌, ◌≤◌, List, [], ◌++◌, if◌then◌else◌}
use Rattle.std.specs.List.{flat_map}
use Rattle.hive_gen.specs.EventTexts.{event_line, header}
use Rattle.hive_gen.specs.Events.{events_from}
use Rattle.hive_gen.specs.declared.generator.Position.{Position}
use Rattle.text_model.specs.declared.limits.TheConstants.{MOST_EVENTS}

unfoldable pub rest_of : Position → List ℕ
rest_of at =
    (if at.headed then [] else header) ++ flat_map event_line (events_from at.left at.number at.state)

-- no event has a number over the most that a text has
abbrev pub IsWithin : Position → Type 0
IsWithin at = at.number + at.left ≤ MOST_EVENTS + 1
