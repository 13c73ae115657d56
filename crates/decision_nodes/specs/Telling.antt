-- What members say to their nodes. A member's place is pending where what it says isn't taken down yet: then
-- nothing is.
use Rattle.std.specs.Prelude.{◌≡◌, ℕ, ◌⊎◌, Bool, if◌then◌else◌, List, ◌∷◌, ◌++◌, length, Option, Some, slice_get, slice_set}
use Rattle.std.specs.Option.{option_map_or}
use Rattle.hive_model.specs.Decision.{leaf_decision}
use Rattle.hive_model.specs.Results.{outcome_at}
use Rattle.hive_model.specs.declared.decision.Decision.{Decision}
use Rattle.hive_model.specs.declared.decision.Decision.TheVariants.{Undecided}
use Rattle.hive_model.specs.declared.outcome.Outcome.{Outcome}
use Rattle.hive_model.specs.declared.sequence.Member.{Member}
use Rattle.hive_model.specs.declared.sequence.Member.TheVariants.{Alg, Seq}
use Rattle.decision_nodes.specs.Index.{IsAmong}
use Rattle.decision_nodes.specs.Marks.{AreMarks}
use Rattle.decision_nodes.specs.Standing.{Standing, heard, said}
use Rattle.decision_nodes.specs.declared.edge.Edge.{Edge}

-- what a member says
abbrev pub told : List Standing → List (Option Outcome) → Member → Decision
told nodes outcomes (Alg a) = leaf_decision (outcome_at outcomes a)
told nodes outcomes (Seq s) = option_map_or said (slice_get nodes s) Undecided

-- that member of that node stands at the place
pub record StandsIn (nodes : List Standing) (e : Edge) (n : Standing) (m : Member) : Type 0 where
  pub there : slice_get nodes e.sequence ≡ Some n
  pub stands : slice_get n.sequence.members e.place ≡ Some m

abbrev pub AreSaid : List Standing → List (Option Outcome) → List Edge → Type 0
AreSaid nodes outcomes pending =
    (e : Edge) (n : Standing) (m : Member) → StandsIn nodes e n m →
    (slice_get n.states e.place ≡ Some (told nodes outcomes m))
    ⊎ (IsAmong e pending × (slice_get n.states e.place ≡ Some Undecided))

-- The node of the place has heard its member, and the others are as before.
abbrev pub HasHeard : List Standing → List (Option Outcome) → Edge → List Standing → Type 0
HasHeard nodes outcomes e after =
    (n : Standing) (m : Member) → StandsIn nodes e n m →
    after ≡ slice_set nodes e.sequence (heard n e.place (told nodes outcomes m))

-- in the midst of telling: what is pending isn't taken down, and the marks are right for what is
pub record IsUnderWay (nodes : List Standing) (outcomes : List (Option Outcome)) (pending : List Edge)
    (top : ℕ) (marks : Member → Bool) : Type 0 where
  pub filled : (s : ℕ) (n : Standing) → slice_get nodes s ≡ Some n
      → length n.states ≡ length n.sequence.members
  pub said : AreSaid nodes outcomes pending
  pub marks_are : AreMarks nodes top marks

-- One place is told: it isn't pending any more, and where its node is decided by it, all places of that
-- sequence are.
abbrev pub Tells : List Standing → List (Option Outcome) → Edge → Bool → List Standing → (Member → Bool) →
    (Member → Bool) → Type 0
Tells nodes outcomes e decided after marks more =
    (top : ℕ) (above rest : List Edge) →
    ((p : Edge) (n : Standing) → StandsIn nodes p n (Seq e.sequence) → IsAmong p above) →
    IsUnderWay nodes outcomes (e ∷ rest) top marks →
    IsUnderWay after outcomes (if decided then above ++ rest else rest) top more
