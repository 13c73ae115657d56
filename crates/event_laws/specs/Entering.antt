-- Which members a reached node enters, in the rule's own words.
use Rattle.std.specs.Prelude.{◌≡◌, ℕ, ◌<◌, true, false, List, length, Some, slice_get}
use Rattle.hive_model.specs.Decision.{is_undecided, is_fixing}
use Rattle.hive_model.specs.Reached.{entered}
use Rattle.hive_model.specs.Sequence.{Sequence}
use Rattle.hive_model.specs.declared.decision.Decision.{Decision}

-- the member of that number is among those that are entered, which are the first ones
abbrev pub Enters : Sequence → List Decision → ℕ → Type 0
Enters q decisions number = number < length (entered q decisions)

-- a member with this decision lets a sequential node go on
pub record LetsPass (q : Sequence) (d : Decision) : Type 0 where
  pub decided : is_undecided d ≡ false
  pub fixes_nothing : q.short_circuit ≡ true → is_fixing q.mode_or d ≡ false

abbrev pub EntersByRule : Sequence → List Decision → ℕ → Type 0
EntersByRule q decisions number =
    q.sequential ≡ true → (before : ℕ) (d : Decision) → before < number → slice_get decisions before ≡ Some d → LetsPass q d
