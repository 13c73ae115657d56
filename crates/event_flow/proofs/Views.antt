-- What the tables answer is what contracts say of the flow.
use Rattle.std.proofs.Common.{◌≡◌, ℕ, zero, suc, ◌+◌, ◌<◌, ◌≤◌, ◌&&◌, ◌||◌, Bool, true, false, not, is_some, List, [], ◌∷◌, length, map, get_or, slice_get, ⊎_elim, eq-or-lt_of_le, Option, Some, None, refl, sym, ap, ap₂, ◌∙◌, subst, arith}
use Rattle.std.specs.List.{count_by, list_all, list_any, range_with_len}
use Rattle.std.specs.Option.{option_flatten}
use Rattle.std.proofs.Math.Bool.{and-false, and-true, not-not}
use Rattle.std.proofs.lemmas.Bool.{or_left, or_right}
use Rattle.algo_states.specs.States.{States, holds, is_data_ready}
use Rattle.decision_nodes.specs.Tree.{Tree, is_reached_in, is_withdrawn_in, job_of}
use Rattle.hive_model.specs.Event.{decisions_of, end_by}
use Rattle.hive_model.specs.Live.{is_live}
use Rattle.hive_model.specs.Results.{outcome_at}
use Rattle.hive_model.specs.declared.outcome.Outcome.{Outcome}
use Rattle.number_set.specs.declared.NumberSet.{NumberSet}
use Rattle.event_flow.specs.Claimable.{IsFirstClaim, IsNextClaimable, can_claim_in, is_settled_in}
use Rattle.event_flow.specs.Claims.{IsLeast, IsNextLive, is_live_ready}
use Rattle.event_flow.specs.Flow.{Flow, tree_of}
use Rattle.event_flow.specs.Keeping.{IsTied}
use Rattle.event_flow.specs.Telling.{decisions_by, end_said, ends_by}
use Rattle.event_flow.specs.Told.{decisions_in, end_in, ends_in}
use Rattle.event_flow.specs.declared.held.Held.{Held}
use Rattle.event_flow.proofs.Counted.{none-counted, some-counted}
use Rattle.event_flow.proofs.Ties.{shown}

regroup : (r s n c w : Bool) → ((r && (n && c)) && w) && s ≡ (r && (s && (n && c))) && w
regroup false s n c w = refl
regroup true true n c w = and-true ((n && c) && w)
regroup true false n c w = and-false ((n && c) && w)

any-none : (p : ℕ → Bool) (from count : ℕ) → ((n : ℕ) → from ≤ n → p n ≡ false) → list_any p (range_with_len from count) ≡ false
any-none p from zero none = refl
any-none p from (suc count) none =
    ap₂ (λ (x y : Bool). x || y) (none from (omega arith)) (any-none p (from + 1) count (λ n low. none n (omega arith)))

any-one : (p : ℕ → Bool) (from count n : ℕ) → from ≤ n → n < from + count → p n ≡ true → list_any p (range_with_len from count) ≡ true
any-one p from zero n low high e = absurd (omega arith)
any-one p from (suc count) n low high e =
    ⊎_elim
    (λ (same : from ≡ n). or_left (p from) _ (ap p same ∙ e))
    (λ (less : from < n). or_right (p from) _ (any-one p (from + 1) count n (omega arith) (omega arith) e))
    (eq-or-lt_of_le low)

-- settled, where so many claims are outstanding and that algorithm is the next that can be claimed

pub busy-unsettled : (f : Flow) (outstanding : ℕ) → outstanding ≡ count_by is_some f.claims → 0 < outstanding → false ≡ is_settled_in f
unfolding is_settled_in
busy-unsettled f outstanding counted some =
    sym (ap (λ (b : Bool). not b && not (list_any (can_claim_in f) (range_with_len 0 (length f.needs))))
    (some-counted f.claims (subst (λ (k : ℕ). 0 < k) counted some)))

pub idle-settled : (f : Flow) (outstanding : ℕ) (next : Option ℕ) → outstanding ≡ count_by is_some f.claims → outstanding ≤ 0 →
    IsNextClaimable f 0 next → not (is_some next) ≡ is_settled_in f
unfolding is_settled_in
idle-settled f outstanding None counted none next =
    sym (ap₂ (λ (a b : Bool). not a && not b) (none-counted f.claims (sym counted ∙ omega arith))
    (any-none (can_claim_in f) 0 (length f.needs) next))
idle-settled f outstanding (Some n) counted none next =
    sym (ap₂ (λ (a b : Bool). not a && not b) (none-counted f.claims (sym counted ∙ omega arith))
    (any-one (can_claim_in f) 0 (length f.needs) n (omega arith) (omega (arith, next.1)) next.2))

-- the oldest claim
pub least-first : (f : Flow) (claims : List (Option Held)) (it : Option (ℕ × Held)) → claims ≡ f.claims → IsLeast claims it → IsFirstClaim f it
least-first f claims None same none = λ n. ap (λ them. option_flatten (slice_get them n)) (sym same) ∙ none n
least-first f claims (Some found) same least = record {
  there = ap (λ them. option_flatten (slice_get them found.0)) (sym same) ∙ least.0;
  least = λ n other e. least.1 n other (ap (λ them. option_flatten (slice_get them n)) same ∙ e);
}

module _ (tree : Tree) (states : States) (claims : List (Option Held)) (claimed : NumberSet) (outstanding nodes : ℕ)
    (tied : IsTied tree states claims claimed outstanding nodes) (f : Flow) (view : shown tree states claims ≡ f) where
  tree-same : tree_of (shown tree states claims) ≡ tree
  tree-same = ap (λ (them : List (Option Outcome)). record tree { outcomes = them }) (sym tied.outcomes_are)

  claimable-shown : (n : ℕ) → can_claim_in (shown tree states claims) n ≡ is_live_ready tree states n
  unfolding can_claim_in is_live_ready is_data_ready
  claimable-shown n =
      let complete = list_all (holds states.arrived) (get_or states.needs n []) in
      ap (λ (t : Tree).
      ((is_reached_in t n && (not (is_some (outcome_at states.outcomes n)) && complete)) && not (is_withdrawn_in t n))
      && not (is_some (option_flatten (slice_get claims n)))) tree-same
      ∙ ap₂ (λ (r c : Bool).
      ((r && (not (is_some (outcome_at states.outcomes n)) && complete)) && not (is_withdrawn_in tree n)) && not c)
      (sym (tied.reached_are n)) (sym (tied.scheduled_are n))
      ∙ regroup (holds states.reached n) (not (holds states.scheduled n)) (not (is_some (outcome_at states.outcomes n))) complete
      (not (is_withdrawn_in tree n))

  claimable-is : (n : ℕ) → can_claim_in f n ≡ is_live_ready tree states n
  claimable-is n = ap (λ (g : Flow). can_claim_in g n) (sym view) ∙ claimable-shown n

  pub next-is : (from : ℕ) (it : Option ℕ) → IsNextLive tree states from it → IsNextClaimable f from it
  next-is from None none = λ n low. claimable-is n ∙ none n low
  next-is from (Some number) found = (
    found.0,
    subst (λ (g : Flow). number < length g.needs) view found.1,
    claimable-is number ∙ found.2,
    λ n low high. claimable-is n ∙ found.3 n low high,
  )

  pub decisions-shown : decisions_by tree nodes ≡ decisions_in f
  unfolding decisions_by decisions_in job_of
  decisions-shown =
      ap (λ (k : ℕ). decisions_by tree k) tied.sizes.nodes_are
      ∙ ap (λ (t : Tree). decisions_of (job_of t) t.outcomes) (sym tree-same)
      ∙ ap decisions_in view

  pub ends-shown : (count : ℕ) → count ≡ length claims → ends_by tree states count ≡ ends_in f
  unfolding ends_by ends_in
  ends-shown count all =
      ap (λ (k : ℕ). ends_by tree states k) (all ∙ tied.sizes.claim)
      ∙ map-same (end_said tree states) (end_in (shown tree states claims)) end-same (range_with_len 0 (length states.needs))
      ∙ ap ends_in view
    where
      map-same : {X Y : Type 0} (f g : X → Y) → ((x : X) → f x ≡ g x) → (xs : List X) → map f xs ≡ map g xs
      map-same f g same [] = refl
      map-same f g same (x ∷ xs) = ap₂ ◌∷◌ (same x) (map-same f g same xs)

      end-same : (n : ℕ) → end_said tree states n ≡ end_in (shown tree states claims) n
      end-same n =
          ap (λ (live : Bool). end_by (is_reached_in tree n) live (outcome_at states.outcomes n)) (not-not (is_live (job_of tree) tree.outcomes n))
          ∙ ap (λ (t : Tree). end_by (is_reached_in t n) (is_live (job_of t) t.outcomes n) (outcome_at states.outcomes n)) (sym tree-same)
