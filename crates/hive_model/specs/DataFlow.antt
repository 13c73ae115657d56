-- Who produces what, and who takes it. An algorithm takes from another one where an input of it is an output of that one.
use Rattle.std.specs.Prelude.{◌≡◌, ℕ, ◌+◌, ◌<◌, ◌≤◌, List, [], ◌∷◌, length, slice_get, IsSomeAnd}
use Rattle.std.specs.List.{Contains}
use Rattle.hive_model.specs.Algorithm.{Algorithm}
use Rattle.hive_model.specs.Job.{Job}

-- each algorithm's first output is the handle after all earlier ones
abbrev pub AreNumberedFrom : ℕ → List Algorithm → Type 0
AreNumberedFrom next [] = Unit {0}
AreNumberedFrom next (a ∷ rest) = (a.first_output ≡ next) × AreNumberedFrom (next + length a.outputs) rest

abbrev pub TakesFrom : Algorithm → Algorithm → Type 0
TakesFrom a b = (h : ℕ) × Contains a.inputs h × (b.first_output ≤ h) × (h < b.first_output + length b.outputs)

-- both numbers are those of algorithms, and the first takes from the second
abbrev pub Takes : Job → ℕ → ℕ → Type 0
Takes job m n = IsSomeAnd (slice_get job.algorithms m) (λ a. IsSomeAnd (slice_get job.algorithms n) (TakesFrom a))
