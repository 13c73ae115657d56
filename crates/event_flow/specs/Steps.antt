-- How an event goes on: it begins, an algorithm is claimed, put back, or completed.
use Rattle.std.specs.Prelude.{ℕ, zero, suc, ◌+◌, Bool, true, false, List, [], ◌∷◌, length, replicate, Some, None, slice_set}
use Rattle.hive_model.specs.declared.outcome.Outcome.{Outcome}
use Rattle.event_flow.specs.Flow.{Flow}
use Rattle.event_flow.specs.declared.held.Held.{Held}

-- n flags, the first of them as these, and the others not set
abbrev pub filled : ℕ → List Bool → List Bool
filled zero flags = []
filled (suc n) [] = false ∷ filled n []
filled (suc n) (flag ∷ flags) = flag ∷ filled n flags

-- another event begins, of which these handles are there, from the first on
abbrev pub begun_with : Flow → List Bool → Flow
begun_with f present = record f {
  outcomes = replicate (length f.outcomes) None;
  claims = replicate (length f.claims) None;
  arrived = filled (length f.arrived) present;
}

abbrev pub with_claim : Flow → ℕ → Held → Flow
with_claim f number held = record f { claims = slice_set f.claims number (Some held) }

abbrev pub without_claim : Flow → ℕ → Flow
without_claim f number = record f { claims = slice_set f.claims number None }

-- so many flags from one on are set
abbrev pub flagged : ℕ → ℕ → List Bool → List Bool
flagged first zero flags = flags
flagged first (suc count) flags = flagged (first + 1) count (slice_set flags first true)

-- the claim goes, and so many outputs from a handle on arrive
abbrev pub completed_in : Flow → ℕ → Outcome → ℕ → ℕ → Flow
completed_in f number outcome first count = record f {
  outcomes = slice_set f.outcomes number (Some outcome);
  claims = slice_set f.claims number None;
  arrived = flagged first count f.arrived;
}
