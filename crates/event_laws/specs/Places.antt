-- The places that control flow has reached. A sequence has a place for each of its members: place i, counted from 0, is that of
-- member i. A place is reached where its sequence is reached and enters that member.
use Rattle.std.specs.Prelude.{◌≡◌, ◌≢◌, ℕ, Bool, true, List, map, Option, Some, slice_get}
use Rattle.std.specs.List.{list_any}
use Rattle.hive_model.specs.Below.{is_sequence_of}
use Rattle.hive_model.specs.Decision.{decision, fixing}
use Rattle.hive_model.specs.Job.{Job}
use Rattle.hive_model.specs.Reached.{reached, entered}
use Rattle.hive_model.specs.Sequence.{Sequence}
use Rattle.hive_model.specs.declared.decision.Decision.TheVariants.{Undecided}
use Rattle.hive_model.specs.declared.outcome.Outcome.{Outcome}
use Rattle.hive_model.specs.declared.sequence.Member.{Member}

abbrev pub is_reached_sequence : List Member → ℕ → Bool
is_reached_sequence members number = list_any (is_sequence_of number) members

-- place i of the sequence s is reached, and this member stands there
pub record IsReachedPlace (job : Job) (ran : List (Option Outcome)) (s i : ℕ) (member : Member) : Type 0 where
  pub node : Sequence
  pub there : slice_get job.sequences s ≡ Some node
  pub is_reached : is_reached_sequence (reached job ran) s ≡ true
  pub is_entered : slice_get (entered node (map (decision job ran) node.members)) i ≡ Some member

-- the member of that index is decided and, in a short-circuit node, doesn't fix it
pub record LetsGoOn (job : Job) (ran : List (Option Outcome)) (q : Sequence) (index : ℕ) : Type 0 where
  pub decided : (member : Member) → slice_get q.members index ≡ Some member → decision job ran member ≢ Undecided
  pub unfixed : (member : Member) → slice_get q.members index ≡ Some member → q.short_circuit ≡ true → decision job ran member ≢ fixing q.mode_or
