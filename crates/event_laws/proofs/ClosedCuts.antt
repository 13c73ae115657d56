-- A job without cut nodes meets the condition on them.
use Rattle.std.proofs.Common.{◌≡◌, ℕ, zero, suc, true, false, List, [], ◌∷◌, Some, slice_get, subst}
use Rattle.std.specs.List.{AllByRecursion}
use Rattle.event_laws.specs.Uncut.{HasNoCut}
use Rattle.hive_model.specs.Cut.{IsCutBy, AreCutsClosed}
use Rattle.hive_model.specs.Job.{Job}
use Rattle.hive_model.specs.Sequence.{Sequence}

abbrev AreUncut : List Sequence → Type 0
AreUncut sequences = AllByRecursion (λ (q : Sequence). q.cut ≡ false) sequences

uncut_at : (sequences : List Sequence) (s : ℕ) (q : Sequence) → AreUncut sequences → slice_get sequences s ≡ Some q → q.cut ≡ false
uncut_at [] s q all e = cc
uncut_at (p ∷ rest) zero q all e = let same : p ≡ q = cc in subst (λ (it : Sequence). it.cut ≡ false) same all.0
uncut_at (p ∷ rest) (suc s) q all e = uncut_at rest s q all.1 e

kinds : (sequences : List Sequence) → AreUncut sequences → AllByRecursion (λ (q : Sequence). q.cut ≡ true → (q.sequential ≡ false) × (q.short_circuit ≡ true)) sequences
kinds [] all = tt
kinds (q ∷ rest) all = (λ e. let no_cut = all.0 in cc, kinds rest all.1)

none : (job : Job) → HasNoCut job → (s number : ℕ) → IsCutBy job s number → ⊥
none job all s number c = let uncut = uncut_at job.sequences s c.node all c.there in let is_cut = c.cut in cc

pub uncut-closed : (job : Job) → HasNoCut job → AreCutsClosed job
uncut-closed job all = record {
  kind = kinds job.sequences all;
  one_leaf = λ s number c. absurd (none job all s number c);
  takers = λ s m n c t. absurd (none job all s n c);
}
