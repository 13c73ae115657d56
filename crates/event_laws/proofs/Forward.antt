-- A relation along which a number falls has no cycle. So data flows on where each algorithm takes handles before its own alone.
use Rattle.std.proofs.Common.{◌≡◌, ℕ, zero, suc, ◌<◌, List, [], ◌∷◌, Option, Some, None, IsSomeAnd, slice_get, refl, subst, arith}
use Rattle.std.specs.List.{AllByRecursion}
use Rattle.std.specs.Option.{option_map_or}
use Rattle.event_laws.proofs.Depths.{all_contained}
use Rattle.hive_model.specs.Algorithm.{Algorithm}
use Rattle.hive_model.specs.DataFlow.{Takes, TakesFrom}
use Rattle.hive_model.specs.Job.{Job}
use Rattle.hive_model.specs.Paths.{IsPath, HasNoCycle}

path-falls : (R : ℕ → ℕ → Type 0) (f : ℕ → ℕ) → ((m n : ℕ) → R m n → f n < f m) → (from : ℕ) (between : List ℕ) (to : ℕ) → IsPath R from between to → f to < f from
path-falls R f falls from [] to p = falls from to p
path-falls R f falls from (n ∷ between) to p =
    let first = falls from n p.0 in let later = path-falls R f falls n between to p.1 in omega (arith, first, later)

pub falling-no_cycle : (R : ℕ → ℕ → Type 0) (f : ℕ → ℕ) → ((m n : ℕ) → R m n → f n < f m) → HasNoCycle R
falling-no_cycle R f falls n cycle = let less = path-falls R f falls n cycle.0 n cycle.1 in absurd (omega (arith, less))

-- the first output of the algorithm of that number
begins : Job → ℕ → ℕ
begins job n = option_map_or (λ (a : Algorithm). a.first_output) (slice_get job.algorithms n) 0

abbrev IsForward : Algorithm → Type 0
IsForward a = AllByRecursion (λ h. h < a.first_output) a.inputs

forward_at : (algorithms : List Algorithm) (n : ℕ) (a : Algorithm) → AllByRecursion IsForward algorithms → slice_get algorithms n ≡ Some a → IsForward a
forward_at [] n a all e = cc
forward_at (b ∷ rest) zero a all e = let same : b ≡ a = cc in subst IsForward same all.0
forward_at (b ∷ rest) (suc n) a all e = forward_at rest n a all.1 e

falls-both : (o p : Option Algorithm) → ((a : Algorithm) → o ≡ Some a → IsForward a) → IsSomeAnd o (λ a. IsSomeAnd p (TakesFrom a)) →
    option_map_or (λ (b : Algorithm). b.first_output) p 0 < option_map_or (λ (a : Algorithm). a.first_output) o 0
falls-both None p forward h = absurd h
falls-both (Some a) None forward h = absurd h
falls-both (Some a) (Some b) forward h =
    let below = all_contained (λ n. n < a.first_output) a.inputs h.0 (forward a refl) h.1 in let from = h.2 in omega (arith, below, from)

pub forward-acyclic : (job : Job) → AllByRecursion (λ (a : Algorithm). AllByRecursion (λ h. h < a.first_output) a.inputs) job.algorithms → HasNoCycle (Takes job)
unfolding begins
forward-acyclic job all = falling-no_cycle (Takes job) (begins job) falls
  where
    falls : (m n : ℕ) → Takes job m n → begins job n < begins job m
    falls m n h = falls-both (slice_get job.algorithms m) (slice_get job.algorithms n) (λ a e. forward_at job.algorithms m a all e) h
