-- The way from a sequence up to the top, sequence by sequence.
use Rattle.std.specs.Prelude.{◌≡◌, ℕ, List, [], ◌∷◌, Some, slice_get}
use Rattle.hive_model.specs.Job.{Job}
use Rattle.hive_model.specs.Sequence.{Sequence}
use Rattle.hive_model.specs.declared.sequence.Member.{Member}
use Rattle.hive_model.specs.declared.sequence.Member.TheVariants.{Seq}

-- the member stands in the sequence of that number
pub record IsMemberIn (job : Job) (s : ℕ) (member : Member) : Type 0 where
  pub node : Sequence
  pub there : slice_get job.sequences s ≡ Some node
  pub index : ℕ
  pub at : slice_get node.members index ≡ Some member

-- each stands in the next one, and the last one is the top
abbrev pub IsWay : Job → List ℕ → Type 0
IsWay job [] = ⊥
IsWay job (s ∷ []) = s ≡ job.top
IsWay job (s ∷ (t ∷ way)) = IsMemberIn job t (Seq s) × IsWay job (t ∷ way)
