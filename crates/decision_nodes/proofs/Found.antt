-- A new table, from a valid job and the places of its members.
use Rattle.std.proofs.Common.{◌≡◌, ℕ, zero, suc, Bool, true, List, [], ◌∷◌, ◌++◌, Option, Some, length, map, slice_get, refl, sym, ap, ◌∙◌, subst, arith}
use Rattle.std.specs.List.{AllByRecursion, flat_map}
use Rattle.event_laws.proofs.Executions.{all_at}
use Rattle.hive_model.specs.ControlFlow.{IsMemberOf}
use Rattle.hive_model.specs.Job.{Job}
use Rattle.hive_model.specs.Sequence.{Sequence}
use Rattle.hive_model.specs.Valid.{IsValidJob}
use Rattle.hive_model.specs.declared.outcome.Outcome.{Outcome}
use Rattle.hive_model.specs.declared.sequence.Member.{Member}
use Rattle.hive_model.specs.declared.sequence.Member.TheVariants.{Alg, Seq}
use Rattle.decision_nodes.specs.Index.{IsForest, IsIn, IsIndex, StandsAt}
use Rattle.decision_nodes.specs.Marks.{IsNested, sequences_of}
use Rattle.decision_nodes.specs.Standing.{Standing, fresh}
use Rattle.decision_nodes.specs.Table.{IsTable}
use Rattle.decision_nodes.specs.Telling.{IsUnderWay}
use Rattle.decision_nodes.specs.declared.edge.Edge.{Edge}
use Rattle.decision_nodes.proofs.Hearing.{same_length}
use Rattle.decision_nodes.proofs.Standings.{get_is, get_within}

first_all : {X : Type 0} (P : X → Type 0) (xs ys : List X) → AllByRecursion P (xs ++ ys) → AllByRecursion P xs
first_all P [] ys all = tt
first_all P (x ∷ xs) ys all = (all.0, first_all P xs ys all.1)

last_all : {X : Type 0} (P : X → Type 0) (xs ys : List X) → AllByRecursion P (xs ++ ys) → AllByRecursion P ys
last_all P [] ys all = all
last_all P (x ∷ xs) ys all = last_all P xs ys all.1

members_of : {X Y : Type 0} (P : Y → Type 0) (f : X → List Y) (xs : List X) (i : ℕ) (x : X) → AllByRecursion P (flat_map f xs) →
    slice_get xs i ≡ Some x → AllByRecursion P (f x)
members_of P f [] i x all e = cc
members_of P f (y ∷ xs) zero x all e = let same : y ≡ x = cc in subst (λ z. AllByRecursion P (f z)) same (first_all P (f y) (flat_map f xs) all)
members_of P f (y ∷ xs) (suc i) x all e = members_of P f xs i x (last_all P (f y) (flat_map f xs) all) e

in_of : (job : Job) (m : Member) → IsMemberOf job m → IsIn (length job.algorithms) (length job.sequences) m
in_of job (Alg a) h = h
in_of job (Seq s) h = h

pub valid_members : (job : Job) → IsValidJob job → (e : Edge) (m : Member) → StandsAt job.sequences e m → IsIn (length job.algorithms) (length job.sequences) m
valid_members job valid e m at =
    let all = members_of (IsMemberOf job) (λ (q : Sequence). q.members) job.sequences e.sequence at.node valid.members at.there in
    in_of job m
    (all_at (IsMemberOf job) at.node.members e.place m all (get_within at.node.members e.place m at.stands) (sym (get_is at.node.members e.place m m at.stands)))

pub sequences_fresh : (qs : List Sequence) → sequences_of (map fresh qs) ≡ qs
sequences_fresh [] = refl
sequences_fresh (q ∷ qs) = ap (λ them. q ∷ them) (sequences_fresh qs)

pub forest_of : (job : Job) (nodes : List Standing) (leaves parents : List (List Edge)) (algorithms : ℕ) → IsValidJob job → sequences_of nodes ≡ job.sequences →
    algorithms ≡ length job.algorithms → IsIndex job.sequences leaves parents → length parents ≡ length job.sequences →
    IsForest (sequences_of nodes) algorithms parents
unfolding IsNested
forest_of job nodes leaves parents algorithms valid same count index long =
    subst (λ them. IsForest them algorithms parents) (sym same)
    (subst (λ k. IsForest job.sequences k parents) (sym count)
    (record {
      nested = valid.nested;
      members = valid_members job valid;
      few_algorithms = valid.limits.algorithms;
      few_sequences = let few = valid.limits.sequences in omega (arith, few);
      all_parents = long;
      parents_cover = λ e s at. index.covers e (Seq s) at;
      parents_right = λ e s among. index.right e (Seq s) among;
    }))

pub table_of : (job : Job) (nodes : List Standing) (leaves parents : List (List Edge)) (outcomes : List (Option Outcome)) (marks : Member → Bool) →
    IsValidJob job → sequences_of nodes ≡ job.sequences → length outcomes ≡ length job.algorithms → IsIndex job.sequences leaves parents →
    length leaves ≡ length job.algorithms → length parents ≡ length job.sequences → IsUnderWay nodes outcomes [] job.top marks →
    marks (Seq job.top) ≡ true → IsTable nodes leaves parents outcomes job.top marks
table_of job nodes leaves parents outcomes marks valid same count index all_leaves all_parents way up =
    record {
      forest = forest_of job nodes leaves parents (length outcomes) valid same count index all_parents;
      leaves_cover = λ e a at. index.covers e (Alg a) (subst (λ them. StandsAt them e (Alg a)) same at);
      leaves_right = λ e a among. subst (λ them. StandsAt them e (Alg a)) (sym same) (index.right e (Alg a) among);
      all_leaves = all_leaves ∙ sym count;
      top_there = let there = valid.top in let long = ap length same in omega (arith, there, long, same_length nodes);
      under_way = way;
      top_marked = up;
    }
