-- What a search keeps that goes from one number to all those that it leads to: which numbers it has seen, and those that it
-- found, in their order.
use Rattle.std.specs.Prelude.{◌≡◌, ◌≢◌, ℕ, ◌+◌, ◌<◌, Bool, true, false, List, [], ◌∷◌, ◌++◌, length, get_or, suc, if◌then◌else◌, All, ◌⊎◌}
use Rattle.std.specs.List.{Contains}
use Rattle.std.specs.declared.alloc.Global.{Global}
use Rattle.std.specs.declared.vec.Vec.{Vec}
use Rattle.text_model.specs.Walks.{leads_within}
use Rattle.graph_parts.specs.Links.{links}

abbrev pub is_seen : List Bool → ℕ → Bool
is_seen seen n = get_or seen n false

-- how many were seen
abbrev pub seen_count : List Bool → ℕ
seen_count [] = 0
seen_count (true ∷ seen) = suc (seen_count seen)
seen_count (false ∷ seen) = seen_count seen

-- those found, and behind them the number, if it is new
abbrev pub found_with : List Bool → List ℕ → ℕ → List ℕ
found_with seen found n = if is_seen seen n then found else found ++ n ∷ []

-- The targets are seen now, none of them is the number that is looked for, and those that are new are found behind the others.
pub record Follows (targets : List ℕ) (from : ℕ) (seen : List Bool) (found : List ℕ) (now : List Bool) (all : List ℕ) : Type 0 where
  pub size : length now ≡ length seen
  pub kept : (n : ℕ) → is_seen seen n ≡ true → is_seen now n ≡ true
  pub extra : List ℕ
  pub grown : all ≡ found ++ extra
  pub among : All (Contains targets) extra
  pub reached : All (λ t. (is_seen now t ≡ true) × (t ≢ from)) targets
  pub listed : (n : ℕ) → is_seen now n ≡ true → (is_seen seen n ≡ true) ⊎ Contains extra n
  pub many : length all + seen_count seen ≡ length found + seen_count now
