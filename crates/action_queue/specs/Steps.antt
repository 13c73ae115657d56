-- What each step tells its pass: what it knew, the result, and what it knows after.
use Rattle.std.specs.Prelude.{◌≡◌, ◌<◌, List, [], ◌∷◌, ◌++◌, All, length}
use Rattle.std.specs.List.Sorted.{IsPermutation}
use Rattle.expr_code.specs.Claim.{Done}
use Rattle.action_queue.specs.declared.limits.TheConstants.{MOST_WAITING}
use Rattle.action_queue.specs.declared.view.Tally.{Tally}
use Rattle.action_queue.specs.Rule.{IsMade}

-- the pass has all parts, so each step was its own
abbrev pub IsWhole : Tally → Type 0
IsWhole v = v.parts ≡ v.made

-- the job, the number of passes and the parts are as before
abbrev pub IsSame : Tally → Tally → Type 0
IsSame v w = (w.job ≡ v.job) × (w.made ≡ v.made) × (w.parts ≡ v.parts)

-- a result was put; who has all parts knows that there was room
abbrev pub Put : Tally → Done → Tally → Type 0
Put v x w = IsSame v w × (w.put ≡ v.put ++ x ∷ []) × (w.took ≡ v.took)
    × (IsWhole v → (length v.rest < MOST_WAITING) × (w.rest ≡ v.rest ++ x ∷ []))

-- a result of the job was taken; who has all parts knows that it was the oldest
abbrev pub Took : Tally → Done → Tally → Type 0
Took v x w = IsSame v w × (w.put ≡ v.put) × (w.took ≡ v.took ++ x ∷ [])
    × (IsWhole v → v.rest ≡ x ∷ w.rest) × IsMade v.job x

-- who has all parts knows what waits
abbrev pub Knows : Tally → List Done → Type 0
Knows v items = IsWhole v → v.rest ≡ items

-- what was put is what was taken and what waits, each as often
abbrev pub Settled : Tally → List Done → Type 0
Settled v items = (v.rest ≡ items) × IsPermutation v.put (v.took ++ items) × All (IsMade v.job) items
