-- Results that wait for their turn, as a list: each item is the result of one place, if it waits. The first
-- item is that of the next place.
use Rattle.std.specs.Prelude.{◌≡◌, ℕ, List, [], ◌∷◌, ◌++◌, Option, Some, None, slice_get}
use Rattle.std.specs.Option.{option_flatten}
use Rattle.hive_model.specs.EventResult.{EventResult}

abbrev pub Waits : Type 0
Waits = List (Option EventResult)

-- the result that waits at that index, if one does
abbrev pub waiting_at : Waits → ℕ → Option EventResult
waiting_at waiting index = option_flatten (slice_get waiting index)

-- the first one went, and the others moved up
pub record MovesUp (old : Waits) (first : Option EventResult) (new : Waits) : Type 0 where
  pub rest : Waits
  pub was : old ≡ first ∷ rest
  pub is : new ≡ rest ++ None ∷ []

-- the first result was taken out; nothing exactly where none waits there
abbrev pub TakesFirst : Waits → Option EventResult → Waits → Type 0
TakesFirst old (Some r) new = MovesUp old (Some r) new
TakesFirst old None new = (new ≡ old) × (waiting_at old 0 ≡ None)
