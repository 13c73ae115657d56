-- Where a list of numbers leads on from each number: whether a number lies on a cycle, and how deep it stands. `Paths` of
-- hive_model says the same as relations.
use Rattle.std.specs.Prelude.{ℕ, zero, suc, nat_eq, Bool, true, false, ◌||◌, List}
use Rattle.std.specs.List.{list_any}

-- at least one and at most so many steps lead from one number to another
unfoldable pub leads_within : (ℕ → List ℕ) → ℕ → ℕ → ℕ → Bool
leads_within next zero from to = false
leads_within next (suc steps) from to = list_any (λ n. nat_eq n to || leads_within next steps n to) (next from)

-- Among so many numbers a shortest way back takes no more steps than there are numbers.
abbrev pub is_on_cycle : (ℕ → List ℕ) → ℕ → ℕ → Bool
is_on_cycle next count n = leads_within next count n n

-- so many further numbers stand one below the other from it on
unfoldable pub is_deeper_than : (ℕ → List ℕ) → ℕ → ℕ → Bool
is_deeper_than next zero n = true
is_deeper_than next (suc further) n = list_any (is_deeper_than next further) (next n)
