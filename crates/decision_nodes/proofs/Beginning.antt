-- Where nothing is settled, and where one outcome more is.
use Rattle.std.proofs.Common.{◌≡◌, ◌≢◌, ℕ, zero, suc, ◌+◌, ◌<◌, Bool, true, false, ◌&&◌, ◌⊎◌, inl, inr, not, List, [], ◌∷◌, ◌++◌, Option, Some, None, length, map, replicate, set, slice_get, refl, sym, ap, ap₂, ◌∙◌, subst, arith}
use Rattle.std.specs.List.{flat_map}
use Rattle.std.specs.Option.{option_flatten}
use Rattle.std.proofs.lemmas.Bool.{cases_eq, false≢true}
use Rattle.std.proofs.lemmas.List.{length-replicate}
use Rattle.hive_model.specs.Decision.{leaf_decision}
use Rattle.hive_model.specs.Results.{outcome_at}
use Rattle.hive_model.specs.Sequence.{Sequence}
use Rattle.hive_model.specs.declared.decision.Decision.{Decision}
use Rattle.hive_model.specs.declared.decision.Decision.TheVariants.{Undecided}
use Rattle.hive_model.specs.declared.outcome.Outcome.{Outcome}
use Rattle.hive_model.specs.declared.sequence.Member.{Member}
use Rattle.hive_model.specs.declared.sequence.Member.TheVariants.{Alg, Seq}
use Rattle.decision_nodes.specs.Index.{IsAmong, IsForest, StandsAt, places_at}
use Rattle.decision_nodes.specs.Marks.{sequences_of}
use Rattle.decision_nodes.specs.Standing.{Standing, fresh}
use Rattle.decision_nodes.specs.Table.{IsTable}
use Rattle.decision_nodes.specs.Telling.{IsUnderWay, StandsIn, told}
use Rattle.decision_nodes.specs.declared.edge.Edge.{Edge}
use Rattle.decision_nodes.proofs.Hearing.{stands_at}
use Rattle.decision_nodes.proofs.Standings.{get_other, get_same, get_within}

-- nothing is settled

all_none : (count a : ℕ) → leaf_decision (outcome_at (replicate count None) a) ≡ Undecided
all_none zero a = refl
all_none (suc count) zero = refl
all_none (suc count) (suc a) = all_none count a

all_undecided : (count i : ℕ) → i < count → slice_get (replicate count Undecided) i ≡ Some Undecided
all_undecided zero i lt = absurd (omega arith)
all_undecided (suc count) zero lt = refl
all_undecided (suc count) (suc i) lt = all_undecided count i (omega arith)

among_left : (p : Edge) (xs ys : List Edge) → IsAmong p xs → IsAmong p (xs ++ ys)
among_left p [] ys h = absurd h
among_left p (x ∷ xs) ys (inl e) = inl e
among_left p (x ∷ xs) ys (inr h) = inr (among_left p xs ys h)

among_right : (p : Edge) (xs ys : List Edge) → IsAmong p ys → IsAmong p (xs ++ ys)
among_right p [] ys h = h
among_right p (x ∷ xs) ys h = inr (among_right p xs ys h)

among_lists : (lists : List (List Edge)) (i : ℕ) (p : Edge) → IsAmong p (places_at lists i) → IsAmong p (flat_map (λ (them : List Edge). them) lists)
among_lists [] i p h = absurd h
among_lists (x ∷ lists) zero p h = among_left p x (flat_map (λ (them : List Edge). them) lists) h
among_lists (x ∷ lists) (suc i) p h = among_right p x (flat_map (λ (them : List Edge). them) lists) (among_lists lists i p h)

fresh_at : (qs : List Sequence) (s : ℕ) (n : Standing) → slice_get (map fresh qs) s ≡ Some n → n ≡ fresh n.sequence
fresh_at [] s n e = cc
fresh_at (q ∷ qs) zero n e = let same : fresh q ≡ n = cc in sym same ∙ ap (λ (x : Standing). fresh x.sequence) same
fresh_at (q ∷ qs) (suc s) n e = fresh_at qs s n e

pub fresh_nodes : (nodes : List Standing) → nodes ≡ map fresh (sequences_of nodes) → (s : ℕ) (n : Standing) → slice_get nodes s ≡ Some n → n ≡ fresh n.sequence
fresh_nodes nodes are s n e = fresh_at (sequences_of nodes) s n (ap (λ them. slice_get them s) (sym are) ∙ e)

pub begun : (nodes : List Standing) (outcomes : List (Option Outcome)) (parents : List (List Edge)) (top : ℕ) (marks : Member → Bool) →
    IsForest (sequences_of nodes) (length outcomes) parents → nodes ≡ map fresh (sequences_of nodes) → outcomes ≡ replicate (length outcomes) None →
    ((m : Member) → marks m ≡ false) → IsUnderWay nodes outcomes (flat_map (λ (them : List Edge). them) parents) top marks
begun nodes outcomes parents top marks forest are none unmarked =
    record {
      filled = λ s n e. let new = fresh_nodes nodes are s n e in ap (λ (x : Standing). length x.states) new ∙ length-replicate (length n.sequence.members) Undecided;
      said = λ e n m at. by e n m at m refl;
      marks_are = record { closed = λ s h. absurd (false≢true (sym (unmarked (Seq s)) ∙ h)); reasons = λ m h. absurd (false≢true (sym (unmarked m) ∙ h)) };
    }
  where
    state : (e : Edge) (n : Standing) (m : Member) → StandsIn nodes e n m → slice_get n.states e.place ≡ Some Undecided
    state e n m at =
        ap (λ (x : Standing). slice_get x.states e.place) (fresh_nodes nodes are e.sequence n at.there)
        ∙ all_undecided (length n.sequence.members) e.place (get_within n.sequence.members e.place m at.stands)

    by : (e : Edge) (n : Standing) (m : Member) → StandsIn nodes e n m → (k : Member) → m ≡ k →
        (slice_get n.states e.place ≡ Some (told nodes outcomes m))
        ⊎ (IsAmong e (flat_map (λ (them : List Edge). them) parents) × (slice_get n.states e.place ≡ Some Undecided))
    by e n m at (Alg a) same =
        inl (state e n m at
        ∙ sym (ap (λ k. Some (told nodes outcomes k)) same ∙ ap (λ them. Some (leaf_decision (outcome_at them a))) none ∙ ap Some (all_none (length outcomes) a)))
    by e n m at (Seq t) same =
        inr (among_lists parents t e (forest.parents_cover e t (subst (StandsAt (sequences_of nodes) e) same (stands_at nodes e n m at))), state e n m at)

-- nodes are cleared one after another

pub cleared_more : (nodes : List Standing) (k : ℕ) (x : Standing) → slice_get nodes k ≡ Some x →
    ((i : ℕ) (n : Standing) → i < k → slice_get nodes i ≡ Some n → n ≡ fresh n.sequence) →
    (i : ℕ) (n : Standing) → i < k + 1 → slice_get (set nodes k (fresh x.sequence)) i ≡ Some n → n ≡ fresh n.sequence
cleared_more nodes k x there so_far i n lt e = by (cases_eq i k)
  where
    by : (i ≡ k) ⊎ (i ≡ k → ⊥) → n ≡ fresh n.sequence
    by (inl same) =
        let new : slice_get (set nodes k (fresh x.sequence)) i ≡ Some (fresh x.sequence) =
        ap (slice_get (set nodes k (fresh x.sequence))) same ∙ get_same nodes k (fresh x.sequence) (get_within nodes k x there)
        in
        let is : n ≡ fresh x.sequence = cc (e, new) in
        is ∙ ap (λ (y : Standing). fresh y.sequence) (sym is)
    by (inr ne) =
        let other : i ≢ k = ne in
        so_far i n (omega (arith, other)) (sym (get_other nodes k i (fresh x.sequence) ne) ∙ e)

pub cleared_all : (nodes : List Standing) → ((i : ℕ) (n : Standing) → i < length nodes → slice_get nodes i ≡ Some n → n ≡ fresh n.sequence) →
    nodes ≡ map fresh (sequences_of nodes)
cleared_all [] h = refl
cleared_all (x ∷ nodes) h = ap₂ ◌∷◌ (h 0 x (omega arith) refl) (cleared_all nodes (λ i n lt e. h (suc i) n (omega arith) e))

-- one outcome more

outcome_other : (outcomes : List (Option Outcome)) (a b : ℕ) (o : Option Outcome) → b ≢ a → outcome_at (set outcomes a o) b ≡ outcome_at outcomes b
outcome_other outcomes a b o ne = ap option_flatten (get_other outcomes a b o ne)

pub settling : (nodes : List Standing) (outcomes : List (Option Outcome)) (leaves parents : List (List Edge)) (top a : ℕ) (o : Outcome) (marks : Member → Bool) →
    IsTable nodes leaves parents outcomes top marks → slice_get outcomes a ≡ Some None →
    IsUnderWay nodes (set outcomes a (Some o)) (places_at leaves a ++ []) top marks
settling nodes outcomes leaves parents top a o marks table unsettled =
    record { filled = table.under_way.filled; said = λ e n m at. by e n m at m refl (table.under_way.said e n m at); marks_are = table.under_way.marks_are }
  where
    Said : Edge → Standing → Decision → Type 0
    Said e n d = (slice_get n.states e.place ≡ Some d) ⊎ (IsAmong e (places_at leaves a ++ []) × (slice_get n.states e.place ≡ Some Undecided))

    old : (e : Edge) (n : Standing) (m : Member) →
        (slice_get n.states e.place ≡ Some (told nodes outcomes m)) ⊎ (⊥ × (slice_get n.states e.place ≡ Some Undecided)) →
        slice_get n.states e.place ≡ Some (told nodes outcomes m)
    old e n m (inl h) = h
    old e n m (inr h) = absurd h.0

    leaf : (e : Edge) (n : Standing) (m : Member) → StandsIn nodes e n m → (b : ℕ) → m ≡ Alg b → (b ≡ a) ⊎ (b ≡ a → ⊥) →
        slice_get n.states e.place ≡ Some (told nodes outcomes m) →
        (slice_get n.states e.place ≡ Some (told nodes (set outcomes a (Some o)) m))
        ⊎ (IsAmong e (places_at leaves a ++ []) × (slice_get n.states e.place ≡ Some Undecided))
    leaf e n m at b is (inl same) state =
        let here : m ≡ Alg a = is ∙ ap Alg same in
        inr (
          among_left e (places_at leaves a) [] (table.leaves_cover e a (subst (StandsAt (sequences_of nodes) e) here (stands_at nodes e n m at))),
          state ∙ ap (λ k. Some (told nodes outcomes k)) here ∙ ap (λ it. Some (leaf_decision (option_flatten it))) unsettled,
        )
    leaf e n m at b is (inr ne) state =
        inl (state ∙ ap (λ k. Some (told nodes outcomes k)) is
        ∙ ap (λ it. Some (leaf_decision it)) (sym (outcome_other outcomes a b (Some o) ne))
        ∙ ap (λ k. Some (told nodes (set outcomes a (Some o)) k)) (sym is))

    by : (e : Edge) (n : Standing) (m : Member) → StandsIn nodes e n m → (k : Member) → m ≡ k →
        (slice_get n.states e.place ≡ Some (told nodes outcomes m)) ⊎ (⊥ × (slice_get n.states e.place ≡ Some Undecided)) →
        (slice_get n.states e.place ≡ Some (told nodes (set outcomes a (Some o)) m))
        ⊎ (IsAmong e (places_at leaves a ++ []) × (slice_get n.states e.place ≡ Some Undecided))
    by e n m at (Alg b) is h = leaf e n m at b is (cases_eq b a) (old e n m h)
    by e n m at (Seq t) is h =
        inl (old e n m h ∙ ap (λ k. Some (told nodes outcomes k)) is ∙ ap (λ k. Some (told nodes (set outcomes a (Some o)) k)) (sym is))

-- the table with other nodes of the same forest
pub table_with : (nodes after : List Standing) (leaves parents : List (List Edge)) (outcomes others : List (Option Outcome)) (top : ℕ) (marks more : Member → Bool) →
    IsTable nodes leaves parents outcomes top marks → sequences_of after ≡ sequences_of nodes → length others ≡ length outcomes → length after ≡ length nodes →
    IsUnderWay after others [] top more → more (Seq top) ≡ true → IsTable after leaves parents others top more
table_with nodes after leaves parents outcomes others top marks more table same count long way up =
    record {
      forest = subst (λ k. IsForest (sequences_of after) k parents) (sym count) (subst (λ them. IsForest them (length outcomes) parents) (sym same) table.forest);
      leaves_cover = λ e a at. table.leaves_cover e a (subst (λ them. StandsAt them e (Alg a)) same at);
      leaves_right = λ e a among. subst (λ them. StandsAt them e (Alg a)) (sym same) (table.leaves_right e a among);
      all_leaves = table.all_leaves ∙ sym count;
      top_there = let there = table.top_there in omega (arith, there, long);
      under_way = way;
      top_marked = up;
    }

pub difference : {b before after new old : Bool} → b ≡ (after && not before) → after ≡ new → before ≡ old → b ≡ (new && not old)
difference {b} {before} {after} {new} {old} is x y = is ∙ ap (λ t. t && not before) x ∙ ap (λ t. new && not t) y
