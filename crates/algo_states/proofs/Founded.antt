-- A table that was told nothing.
use Rattle.std.proofs.Common.{◌≡◌, ℕ, zero, suc, ◌≤◌, Bool, false, not, ◌&&◌, is_some, List, [], ◌∷◌, length, get_or, replicate, refl, ap, sym, ◌∙◌, arith, Option, None}
use Rattle.std.specs.List.{count_by}
use Rattle.std.proofs.lemmas.List.{length-replicate}
use Rattle.hive_model.specs.declared.limits.TheConstants.{MOST_ALGORITHMS}
use Rattle.hive_model.specs.declared.outcome.Outcome.{Outcome}
use Rattle.number_set.specs.Numbers.{has}
use Rattle.number_set.specs.declared.NumberSet.{NumberSet}
use Rattle.algo_states.specs.Table.{IsIndex, IsTable, is_missing, waits}
use Rattle.algo_states.proofs.Mentions.{bit, count-cons, count-none}
use Rattle.algo_states.proofs.ReadySets.{waiting}

none-set : (count n : ℕ) → get_or (replicate count false) n false ≡ false
none-set zero n = refl
none-set (suc count) zero = refl
none-set (suc count) (suc n) = none-set count n

all-missing : (count : ℕ) (xs : List ℕ) → count_by (is_missing (replicate count false)) xs ≡ length xs
all-missing count [] = count-none (is_missing (replicate count false))
all-missing count (x ∷ xs) =
    let more = count-cons (is_missing (replicate count false)) x xs in
    let one : bit (is_missing (replicate count false) x) ≡ 1 = ap (λ (b : Bool). bit (not b)) (none-set count x) in
    let rest = all-missing count xs in
    omega arith

pub table-opened : (needs consumers : List (List ℕ)) (missing : List ℕ) (reached scheduled : List Bool) (outcomes : List (Option Outcome)) (arrived : List Bool)
    (ready : NumberSet) → length needs ≤ MOST_ALGORITHMS → IsIndex needs consumers → length missing ≡ length needs → reached ≡ replicate (length needs) false →
    scheduled ≡ replicate (length needs) false → outcomes ≡ replicate (length needs) None → arrived ≡ replicate (length consumers) false →
    ((a : ℕ) → get_or missing a 0 ≡ length (get_or needs a [])) → ((n : ℕ) → has ready n ≡ false) →
    IsTable needs consumers missing reached scheduled outcomes arrived ready
table-opened needs consumers missing reached scheduled outcomes arrived ready few index len r s o a counts none = record {
  sizes = record {
    few = few;
    indexed = sym (ap length a ∙ length-replicate (length consumers) false);
    counted = len;
    reach = ap length r ∙ length-replicate (length needs) false;
    schedule = ap length s ∙ length-replicate (length needs) false;
    outcome = ap length o ∙ length-replicate (length needs) None;
  };
  index = index;
  counts = λ n. counts n ∙ sym (ap (λ (them : List Bool). count_by (is_missing them) (get_or needs n [])) a ∙ all-missing (length consumers) (get_or needs n []));
  set = λ n. none n
      ∙ sym (waiting reached scheduled outcomes missing n
      ∙ ap (λ (b : Bool). b && waits (get_or scheduled n false) (is_some (get_or outcomes n None)) (get_or missing n 0))
      (ap (λ (them : List Bool). get_or them n false) r ∙ none-set (length needs) n));
}
