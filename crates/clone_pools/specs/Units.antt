-- The units that are left, by resource, and those that an execution takes: one of each resource in a list.
use Rattle.std.specs.Prelude.{ℕ, nat_lt, Bool, if◌then◌else◌, List, slice_index}
use Rattle.clone_pools.specs.Loans.{is_named}

abbrev pub has_left : List ℕ → ℕ → Bool
has_left left r = nat_lt 0 (slice_index left r)

abbrev pub named : ℕ → List ℕ → ℕ
named r resources = if is_named r resources then 1 else 0
