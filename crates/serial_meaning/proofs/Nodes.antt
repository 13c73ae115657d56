-- Decisions of a job's members, and what stands below a sequence, one sequence deep.
use Rattle.std.proofs.Common.{◌≡◌, ℕ, zero, suc, ◌-◌, ◌<◌, ◌||◌, nat_eq, Bool, true, false, List, [], ◌∷◌, Option, Some, None, slice_get, refl, sym, ap, ◌∙◌, arith}
use Rattle.std.specs.List.{flat_map, list_any}
use Rattle.std.specs.Option.{option_map_or}
use Rattle.std.proofs.lemmas.List.Folds.{list_any-append}
use Rattle.event_laws.proofs.Nesting.{decision_within-leaf}
use Rattle.hive_model.specs.Below.{below_within}
use Rattle.hive_model.specs.Decision.{decision, leaf_decision}
use Rattle.hive_model.specs.Job.{Job}
use Rattle.hive_model.specs.Reached.{is_leaf_of}
use Rattle.hive_model.specs.Results.{outcome_at}
use Rattle.hive_model.specs.Sequence.{Sequence}
use Rattle.hive_model.specs.declared.limits.TheConstants.{MOST_DEPTH}
use Rattle.hive_model.specs.declared.outcome.Outcome.{Outcome}
use Rattle.hive_model.specs.declared.sequence.Member.{Member}
use Rattle.hive_model.specs.declared.sequence.Member.TheVariants.{Alg, Seq}

pub decision-leaf : (job : Job) (ran : List (Option Outcome)) (a : ℕ) →
    decision job ran (Alg a) ≡ leaf_decision (outcome_at ran a)
unfolding decision
decision-leaf job ran a = decision_within-leaf MOST_DEPTH job.sequences ran a

-- below a sequence

pub below_within-leaf : (depth : ℕ) (sequences : List Sequence) (a : ℕ) → below_within depth sequences (Alg a) ≡ []
unfolding below_within
below_within-leaf zero sequences a = refl
below_within-leaf (suc depth) sequences a = refl

-- too deep
pub below_within-zero : (depth : ℕ) (sequences : List Sequence) (s : ℕ) → depth ≡ 0 →
    below_within depth sequences (Seq s) ≡ []
unfolding below_within
below_within-zero zero sequences s e = refl
below_within-zero (suc depth) sequences s e = absurd (omega arith)

-- no such sequence
pub below_within-none : (depth : ℕ) (sequences : List Sequence) (s : ℕ) → slice_get sequences s ≡ None →
    below_within depth sequences (Seq s) ≡ []
unfolding below_within
below_within-none zero sequences s e = refl
below_within-none (suc depth) sequences s e =
    ap (λ o. option_map_or (λ q. flat_map (λ m. m ∷ below_within depth sequences m) q.members) o []) e

below_within-sequence : (depth : ℕ) (sequences : List Sequence) (s : ℕ) (q : Sequence) → 0 < depth →
    slice_get sequences s ≡ Some q →
    below_within depth sequences (Seq s) ≡ flat_map (λ m. m ∷ below_within (depth - 1) sequences m) q.members
unfolding below_within
below_within-sequence zero sequences s q h e = absurd (omega arith)
below_within-sequence (suc depth) sequences s q h e =
    let less : suc depth - 1 ≡ depth = omega arith in
    rw less (ap (λ o. option_map_or (λ it. flat_map (λ m. m ∷ below_within depth sequences m) it.members) o []) e)

or-false : (b : Bool) → (b || false) ≡ b
or-false true = refl
or-false false = refl

-- the algorithm is the member, or has a leaf below it
abbrev pub leads : ℕ → List Sequence → ℕ → Member → Bool
leads depth sequences number m = is_leaf_of number m || list_any (is_leaf_of number) (below_within depth sequences m)

any-flat_map : {X Y : Type 0} (test : Y → Bool) (f : X → List Y) (xs : List X) →
    list_any test (flat_map f xs) ≡ list_any (λ x. list_any test (f x)) xs
any-flat_map test f [] = refl
any-flat_map test f (x ∷ xs) =
    list_any-append test (f x) (flat_map f xs) ∙ ap (λ b. list_any test (f x) || b) (any-flat_map test f xs)

-- a sequence has a leaf below it where one of its members leads to it
pub leaf-below : (depth : ℕ) (sequences : List Sequence) (s number : ℕ) (q : Sequence) → 0 < depth →
    slice_get sequences s ≡ Some q →
    list_any (is_leaf_of number) (below_within depth sequences (Seq s)) ≡ list_any
    (leads (depth - 1) sequences number) q.members
leaf-below depth sequences s number q h e =
    ap (list_any (is_leaf_of number)) (below_within-sequence depth sequences s q h e)
    ∙ any-flat_map (is_leaf_of number) (λ m. m ∷ below_within (depth - 1) sequences m) q.members

-- what a member leads to, where its number went through a conversion

pub leads-leaf : (depth : ℕ) (sequences : List Sequence) (number a n : ℕ) (m : Member) (found : Bool) →
    found ≡ nat_eq n number → n ≡ a → m ≡ Alg a → found ≡ leads depth sequences number m
leads-leaf depth sequences number a n m found f e is =
    rw (is, below_within-leaf depth sequences a) (f ∙ ap (λ k. nat_eq k number) e ∙ sym (or-false (nat_eq a number)))

pub leads-sequence : (depth : ℕ) (sequences : List Sequence) (number s n : ℕ) (m : Member) (found : Bool) →
    found ≡ list_any (is_leaf_of number) (below_within depth sequences (Seq n)) → n ≡ s → m ≡ Seq s →
    found ≡ leads depth sequences number m
leads-sequence depth sequences number s n m found f e is =
    rw is (f ∙ ap (λ k. list_any (is_leaf_of number) (below_within depth sequences (Seq k))) e)
