-- What a job with cut nodes owes: a cut node is concurrent and short-circuit, what stands below it stands nowhere else, and what
-- is computed there is taken only there. So what it cuts off is missed by nothing outside.
use Rattle.std.specs.Prelude.{◌≡◌, ℕ, nat_eq, true, false, Some, slice_get, IsTrue}
use Rattle.std.specs.List.{AllByRecursion, count_by}
use Rattle.hive_model.specs.Below.{is_algorithm_below}
use Rattle.hive_model.specs.ControlFlow.{leaves}
use Rattle.hive_model.specs.DataFlow.{Takes}
use Rattle.hive_model.specs.Job.{Job}
use Rattle.hive_model.specs.Sequence.{Sequence}

-- the algorithm has a leaf below the cut node s
pub record IsCutBy (job : Job) (s number : ℕ) : Type 0 where
  pub node : Sequence
  pub there : slice_get job.sequences s ≡ Some node
  pub cut : node.cut ≡ true
  pub below : IsTrue (is_algorithm_below job s number)

pub record AreCutsClosed (job : Job) : Type 0 where
  pub kind : AllByRecursion (λ (q : Sequence). q.cut ≡ true → (q.sequential ≡ false) × (q.short_circuit ≡ true)) job.sequences
  -- what has a leaf below a cut node has no other
  pub one_leaf : (s number : ℕ) → IsCutBy job s number → count_by (nat_eq number) (leaves job) ≡ 1
  -- what takes from it is below that node too
  pub takers : (s m n : ℕ) → IsCutBy job s n → Takes job m n → IsTrue (is_algorithm_below job s m)
