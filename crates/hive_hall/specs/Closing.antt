-- What a hall leaves behind.
use Rattle.std.specs.Prelude.{◌≡◌, ℕ, ◌+◌, List, ◌++◌, All, length, Some, slice_get, sum_by}
use Rattle.std.specs.List.{flat_map}
use Rattle.std.specs.List.Sorted.{IsPermutation}
use Rattle.expr_code.specs.Claim.{Done, IsOfJob}
use Rattle.hive_model.specs.History.{BeginsWith, DeskState, newcomer as new_participant}
use Rattle.hive_model.specs.declared.item.Item.{Item}
use Rattle.turn_lock.specs.History.{below, times}
use Rattle.hive_hall.specs.Legal.{IsHistoryOf}
use Rattle.hive_hall.specs.Pass.{IsPassOf, job_of, number_of, opening_of, own, participant, passes_of, put, seen, slots_of, took}
use Rattle.hive_hall.specs.declared.hall.Hall.{Hall}
use Rattle.hive_hall.specs.declared.pass.Pass.{Pass}

-- the pass is this hall's, and has seen what the core did before it was shared
abbrev pub IsNewIn : Hall → DeskState → Pass → Type 0
IsNewIn hall d p = IsPassOf hall p × (participant p ≡ new_participant d)

-- these are all passes of the hall
abbrev pub AreAllOf : Hall → List Pass → Type 0
AreAllOf hall passes = (length passes ≡ passes_of hall) × All (IsPassOf hall) passes

-- The scheduler core tells the last history. That begins with all that each pass has seen, and each item that was
-- added to the opening history stands in the own positions of exactly one pass, once.
pub record IsLast (hall : Hall) (passes : List Pass) (d : DeskState) : Type 0 where
  pub final : List Item
  pub legal : IsHistoryOf (job_of hall) (slots_of hall) final d
  pub opened : BeginsWith final (opening_of hall)
  pub begins : All (λ p. BeginsWith final (seen p)) passes
  pub owned : (position : ℕ) → sum_by (λ p. times position (own p)) passes
      + below position (length (opening_of hall)) ≡ below position (length final)

-- The results that were queued are, as often, those that were taken and those that are left; of one pass in order.
pub record IsConserved (hall : Hall) (passes : List Pass) (left : List Done) : Type 0 where
  pub conserved : IsPermutation (flat_map put passes) (flat_map took passes ++ left)
  pub in_order : passes_of hall ≡ 1 → flat_map put passes ≡ flat_map took passes ++ left
  pub of_job : All (λ d. IsOfJob (job_of hall) d.claim) left

-- the passes stand in the order of their numbers, from 0
abbrev pub AreNumbered : List Pass → Type 0
AreNumbered passes = (i : ℕ) (p : Pass) → slice_get passes i ≡ Some p → number_of p ≡ i
