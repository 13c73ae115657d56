-- Where the event of a place stands: in a slot, or among those that ended. Each record that was admitted
-- stands at one of these once, and nothing else stands there.
use Rattle.std.specs.Prelude.{◌≡◌, ℕ, ◌+◌, ◌<◌, ◌≤◌, nat_eq, Bool, false, is_some, find, length, Option, Some}
use Rattle.std.specs.List.{count_by}
use Rattle.std.specs.Option.{option_map_or}
use Rattle.hive_model.specs.EventResult.{EventResult}
use Rattle.hive_model.specs.Machine.{Busy, Finished, Machine}

abbrev pub has_place : ℕ → Option Busy → Bool
has_place place slot = option_map_or (λ (b : Busy). nat_eq b.place place) slot false

abbrev pub ended_at : ℕ → Finished → Bool
ended_at place f = nat_eq f.place place

-- in how many slots the event of that place is, and how often it ended
abbrev pub times : ℕ → Machine → ℕ
times place m = count_by (has_place place) m.slots + count_by (ended_at place) m.finished

pub record AreOnce (m : Machine) : Type 0 where
  pub once : (place : ℕ) → 0 < place → place ≤ m.admitted → times place m ≡ 1
  -- places count from 1
  pub zero : times 0 m ≡ 0
  pub later : (place : ℕ) → m.admitted < place → times place m ≡ 0
  pub many : count_by is_some m.slots + length m.finished ≡ m.admitted

-- the first end at that place has such a result
pub record HasEndedAs (m : Machine) (place : ℕ) (P : EventResult → Type 0) : Type 0 where
  pub end : Finished
  pub found_is : find (ended_at place) m.finished ≡ Some end
  pub result_is : P end.result
