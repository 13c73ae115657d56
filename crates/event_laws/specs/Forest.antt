-- What the law on nested sequences says of a forest: each member of each sequence is there.
use Rattle.std.specs.Prelude.{◌≡◌, ℕ, ◌<◌, List, length, Some, slice_get}
use Rattle.std.specs.List.{AllByRecursion}
use Rattle.hive_model.specs.Sequence.{Sequence}
use Rattle.hive_model.specs.declared.sequence.Member.{Member}
use Rattle.hive_model.specs.declared.sequence.Member.TheVariants.{Alg, Seq}

-- a member that is a sequence is in range
abbrev pub IsThere : List Sequence → Member → Type 0
IsThere sequences (Alg a) = Unit {0}
IsThere sequences (Seq s) = s < length sequences

abbrev pub HasAllMembers : List Sequence → Type 0
HasAllMembers sequences = (s : ℕ) (q : Sequence) → slice_get sequences s ≡ Some q → AllByRecursion (IsThere sequences) q.members
