-- Decisions and what is reached, one sequence deep: what they are at a leaf, at a sequence that is there, and elsewhere.
use Rattle.std.proofs.Common.{◌≡◌, ℕ, zero, suc, ◌-◌, ◌<◌, List, [], ◌∷◌, Option, Some, None, map, take, slice_get, ◌+◌, true, false, if◌then◌else◌, MatchOption, refl, sym, subst, ap, ◌∙◌, arith}
use Rattle.std.specs.List.{AllByRecursion, flat_map, prefix_len}
use Rattle.std.specs.Option.{option_map_or}
use Rattle.hive_model.specs.Decision.{leaf_decision, node_decision, decision, decision_within}
use Rattle.hive_model.specs.Reached.{entered, passes, reached_within}
use Rattle.event_laws.proofs.Lists.{map-agree, flat_map-agree, AllByRecursion-take}
use Rattle.hive_model.specs.Job.{Job}
use Rattle.hive_model.specs.Sequence.{Sequence}
use Rattle.hive_model.specs.ControlFlow.{IsNestedWithin}
use Rattle.hive_model.specs.Results.{outcome_at}
use Rattle.hive_model.specs.declared.limits.TheConstants.{MOST_DEPTH}
use Rattle.hive_model.specs.declared.decision.Decision.{Decision}
use Rattle.hive_model.specs.declared.decision.Decision.TheVariants.{Undecided}
use Rattle.hive_model.specs.declared.outcome.Outcome.{Outcome}
use Rattle.hive_model.specs.declared.sequence.Member.{Member}
use Rattle.hive_model.specs.declared.sequence.Member.TheVariants.{Alg, Seq}

below : (d : ℕ) → suc d - 1 ≡ d
below d = omega arith

pub decision_within-leaf : (depth : ℕ) (sequences : List Sequence) (ran : List (Option Outcome)) (a : ℕ) →
    decision_within depth sequences ran (Alg a) ≡ leaf_decision (outcome_at ran a)
unfolding decision_within
decision_within-leaf zero sequences ran a = refl
decision_within-leaf (suc depth) sequences ran a = refl

pub decision_within-sequence : (depth : ℕ) (sequences : List Sequence) (ran : List (Option Outcome)) (s : ℕ) (q : Sequence) → 0 < depth →
    slice_get sequences s ≡ Some q →
    decision_within depth sequences ran (Seq s) ≡ node_decision q (map (decision_within (depth - 1) sequences ran) q.members)
unfolding decision_within
decision_within-sequence zero sequences ran s q h e = absurd (omega arith)
decision_within-sequence (suc depth) sequences ran s q h e =
    rw (below depth) (ap (λ o. option_map_or (λ it. node_decision it (map (decision_within depth sequences ran) it.members)) o Undecided) e)

-- too deep
pub decision_within-zero : (depth : ℕ) (sequences : List Sequence) (ran : List (Option Outcome)) (s : ℕ) → depth ≡ 0 →
    decision_within depth sequences ran (Seq s) ≡ Undecided
unfolding decision_within
decision_within-zero zero sequences ran s e = refl
decision_within-zero (suc depth) sequences ran s e = absurd (omega arith)

-- no such sequence
pub decision_within-none : (depth : ℕ) (sequences : List Sequence) (ran : List (Option Outcome)) (s : ℕ) → slice_get sequences s ≡ None →
    decision_within depth sequences ran (Seq s) ≡ Undecided
unfolding decision_within
decision_within-none zero sequences ran s e = refl
decision_within-none (suc depth) sequences ran s e =
    ap (λ o. option_map_or (λ it. node_decision it (map (decision_within depth sequences ran) it.members)) o Undecided) e

pub reached_within-leaf : (depth : ℕ) (sequences : List Sequence) (decide : Member → Decision) (a : ℕ) →
    reached_within depth sequences decide (Alg a) ≡ Alg a ∷ []
unfolding reached_within
reached_within-leaf zero sequences decide a = refl
reached_within-leaf (suc depth) sequences decide a = refl

pub reached_within-sequence : (depth : ℕ) (sequences : List Sequence) (decide : Member → Decision) (s : ℕ) (q : Sequence) → 0 < depth →
    slice_get sequences s ≡ Some q →
    reached_within depth sequences decide (Seq s)
    ≡ Seq s ∷ flat_map (reached_within (depth - 1) sequences decide) (entered q (map decide q.members))
unfolding reached_within
reached_within-sequence zero sequences decide s q h e = absurd (omega arith)
reached_within-sequence (suc depth) sequences decide s q h e =
    rw (below depth) (ap (λ o. Seq s ∷ option_map_or (λ it. flat_map (reached_within depth sequences decide) (entered it (map decide it.members))) o []) e)

pub reached_within-zero : (depth : ℕ) (sequences : List Sequence) (decide : Member → Decision) (s : ℕ) → depth ≡ 0 →
    reached_within depth sequences decide (Seq s) ≡ []
unfolding reached_within
reached_within-zero zero sequences decide s e = refl
reached_within-zero (suc depth) sequences decide s e = absurd (omega arith)

pub reached_within-none : (depth : ℕ) (sequences : List Sequence) (decide : Member → Decision) (s : ℕ) → 0 < depth → slice_get sequences s ≡ None →
    reached_within depth sequences decide (Seq s) ≡ Seq s ∷ []
unfolding reached_within
reached_within-none zero sequences decide s h e = absurd (omega arith)
reached_within-none (suc depth) sequences decide s h e =
    ap (λ o. Seq s ∷ option_map_or (λ it. flat_map (reached_within depth sequences decide) (entered it (map decide it.members))) o []) e

-- depth doesn't matter, where it is enough

-- the sequence that a nested number names, whose members are nested one less deep
pub opened : (o : Option Sequence) (P : Sequence → Type 0) → MatchOption o ⊥ P → (q : Sequence) × (o ≡ Some q) × P q
opened None P h = absurd h
opened (Some q) P h = (q, refl, h)

pub decision_within-deeper : (depth : ℕ) (sequences : List Sequence) (ran : List (Option Outcome)) (m : Member) → IsNestedWithin depth sequences m →
    decision_within (suc depth) sequences ran m ≡ decision_within depth sequences ran m
unfolding decision_within
decision_within-deeper zero sequences ran (Alg a) h = refl
decision_within-deeper (suc depth) sequences ran (Alg a) h = refl
decision_within-deeper zero sequences ran (Seq s) h = absurd h
decision_within-deeper (suc depth) sequences ran (Seq s) h =
    let it = opened (slice_get sequences s) (λ q. AllByRecursion (IsNestedWithin depth sequences) q.members) h in
    let members =
    map-agree (decision_within (suc depth) sequences ran) (decision_within depth sequences ran) (IsNestedWithin depth sequences)
    (λ m n. decision_within-deeper depth sequences ran m n) it.0.members it.2
    in
    ap (λ o. option_map_or (λ q. node_decision q (map (decision_within (suc depth) sequences ran) q.members)) o Undecided) it.1
    ∙ ap (node_decision it.0) members
    ∙ sym (ap (λ o. option_map_or (λ q. node_decision q (map (decision_within depth sequences ran) q.members)) o Undecided) it.1)

-- the members of a nested sequence
nested_members : (depth : ℕ) (sequences : List Sequence) (s : ℕ) (q : Sequence) → IsNestedWithin (suc depth) sequences (Seq s) →
    slice_get sequences s ≡ Some q → AllByRecursion (IsNestedWithin depth sequences) q.members
nested_members depth sequences s q h e =
    let P : Option Sequence → Type 0 = λ o. MatchOption o ⊥ (λ it. AllByRecursion (IsNestedWithin depth sequences) it.members) in subst P e h

decision_within-nested : (depth : ℕ) (sequences : List Sequence) (ran : List (Option Outcome)) (s : ℕ) (q : Sequence) →
    IsNestedWithin (suc depth) sequences (Seq s) → slice_get sequences s ≡ Some q →
    decision_within (suc depth) sequences ran (Seq s) ≡ node_decision q (map (decision_within (suc depth) sequences ran) q.members)
decision_within-nested depth sequences ran s q h e =
    decision_within-sequence (suc depth) sequences ran s q (omega arith) e
    ∙ rw (below depth)
    (ap (node_decision q)
    (sym (map-agree (decision_within (suc depth) sequences ran) (decision_within depth sequences ran) (IsNestedWithin depth sequences)
    (λ m n. decision_within-deeper depth sequences ran m n) q.members (nested_members depth sequences s q h e))))

-- the decision of a nested sequence is that of its node over the decisions of its members
pub decision-sequence : (job : Job) (ran : List (Option Outcome)) (s : ℕ) (q : Sequence) → IsNestedWithin MOST_DEPTH job.sequences (Seq s) →
    slice_get job.sequences s ≡ Some q → decision job ran (Seq s) ≡ node_decision q (map (decision job ran) q.members)
unfolding decision
decision-sequence job ran s q h e = decision_within-nested 63 job.sequences ran s q h e

-- what a node enters are members of it
entered-all : (P : Member → Type 0) (q : Sequence) (decisions : List Decision) → AllByRecursion P q.members → AllByRecursion P (entered q decisions)
unfolding entered
entered-all P q decisions all =
    elim q.sequential as (λ b. AllByRecursion P (if b then take (prefix_len (passes q) decisions + 1) q.members else q.members)) [
      | true ↦ AllByRecursion-take P (prefix_len (passes q) decisions + 1) q.members all
      | false ↦ all
    ]

pub reached_within-deeper : (depth : ℕ) (sequences : List Sequence) (decide : Member → Decision) (m : Member) → IsNestedWithin depth sequences m →
    reached_within (suc depth) sequences decide m ≡ reached_within depth sequences decide m
unfolding reached_within
reached_within-deeper zero sequences decide (Alg a) h = refl
reached_within-deeper (suc depth) sequences decide (Alg a) h = refl
reached_within-deeper zero sequences decide (Seq s) h = absurd h
reached_within-deeper (suc depth) sequences decide (Seq s) h =
    let it = opened (slice_get sequences s) (λ q. AllByRecursion (IsNestedWithin depth sequences) q.members) h in
    let members =
    flat_map-agree (reached_within (suc depth) sequences decide) (reached_within depth sequences decide) (IsNestedWithin depth sequences)
    (λ m n. reached_within-deeper depth sequences decide m n) (entered it.0 (map decide it.0.members))
    (entered-all (IsNestedWithin depth sequences) it.0 (map decide it.0.members) it.2)
    in
    ap (λ o. Seq s ∷ option_map_or (λ q. flat_map (reached_within (suc depth) sequences decide) (entered q (map decide q.members))) o []) it.1
    ∙ ap (λ them. Seq s ∷ them) members
    ∙ sym (ap (λ o. Seq s ∷ option_map_or (λ q. flat_map (reached_within depth sequences decide) (entered q (map decide q.members))) o []) it.1)

reached_within-nested : (depth : ℕ) (sequences : List Sequence) (decide : Member → Decision) (s : ℕ) (q : Sequence) →
    IsNestedWithin (suc depth) sequences (Seq s) → slice_get sequences s ≡ Some q →
    reached_within (suc depth) sequences decide (Seq s)
    ≡ Seq s ∷ flat_map (reached_within (suc depth) sequences decide) (entered q (map decide q.members))
reached_within-nested depth sequences decide s q h e =
    reached_within-sequence (suc depth) sequences decide s q (omega arith) e
    ∙ rw (below depth)
    (ap (λ them. Seq s ∷ them)
    (sym (flat_map-agree (reached_within (suc depth) sequences decide) (reached_within depth sequences decide) (IsNestedWithin depth sequences)
    (λ m n. reached_within-deeper depth sequences decide m n) (entered q (map decide q.members))
    (entered-all (IsNestedWithin depth sequences) q (map decide q.members) (nested_members depth sequences s q h e)))))

-- from a nested sequence what it enters is reached, and what is reached from there
pub reached-sequence : (job : Job) (decide : Member → Decision) (s : ℕ) (q : Sequence) → IsNestedWithin MOST_DEPTH job.sequences (Seq s) →
    slice_get job.sequences s ≡ Some q →
    reached_within MOST_DEPTH job.sequences decide (Seq s) ≡ Seq s ∷ flat_map (reached_within MOST_DEPTH job.sequences decide) (entered q (map decide q.members))
reached-sequence job decide s q h e = reached_within-nested 63 job.sequences decide s q h e
