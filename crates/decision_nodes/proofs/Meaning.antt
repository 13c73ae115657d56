-- Where all members have said what they say, nodes say the decisions of the definitions, and closed marks with reasons are what
-- control flow reaches.
use Rattle.std.proofs.Common.{◌≡◌, ℕ, zero, suc, ◌+◌, ◌<◌, Bool, true, false, ◌||◌, ◌⊎◌, inl, inr, ⊎_elim, List, [], ◌∷◌, Option, Some, None, length, map, slice_get, refl, sym, ap, ◌∙◌, subst, arith}
use Rattle.std.specs.List.{AllByRecursion, flat_map, list_any}
use Rattle.std.specs.Option.{option_map_or}
use Rattle.std.proofs.lemmas.Bool.{false≢true, or_cases, eqb-true}
use Rattle.std.proofs.lemmas.List.Folds.{list_any-append}
use Rattle.std.proofs.lemmas.Option.{slice_get_within}
use Rattle.event_laws.proofs.Entering.{top-reached}
use Rattle.event_laws.proofs.Executions.{all_at}
use Rattle.event_laws.proofs.Lists.{map-agree}
use Rattle.event_laws.proofs.Nesting.{decision_within-leaf, opened}
use Rattle.event_laws.proofs.Placing.{entered-at, place-algorithm, place-sequence}
use Rattle.event_laws.specs.Places.{IsReachedPlace, is_reached_sequence}
use Rattle.hive_model.specs.ControlFlow.{IsNestedWithin}
use Rattle.hive_model.specs.Decision.{decision, decision_within, node_decision}
use Rattle.hive_model.specs.Job.{Job}
use Rattle.hive_model.specs.Reached.{entered, is_leaf_of, is_reached, reached, reached_within}
use Rattle.hive_model.specs.Sequence.{Sequence}
use Rattle.hive_model.specs.declared.decision.Decision.TheVariants.{Undecided}
use Rattle.hive_model.specs.declared.limits.TheConstants.{MOST_DEPTH}
use Rattle.hive_model.specs.declared.outcome.Outcome.{Outcome}
use Rattle.hive_model.specs.declared.sequence.Member.{Member}
use Rattle.hive_model.specs.declared.sequence.Member.TheVariants.{Alg, Seq}
use Rattle.decision_nodes.specs.Index.{StandsAt}
use Rattle.decision_nodes.specs.Marks.{EntersAt, IsEntered, IsNested, sequences_of}
use Rattle.decision_nodes.specs.Standing.{Standing, said}
use Rattle.decision_nodes.specs.Telling.{IsUnderWay, StandsIn, told}
use Rattle.decision_nodes.specs.Table.{IsTable}
use Rattle.decision_nodes.specs.Tree.{Tree, decision_in, is_reached_in, job_of}
use Rattle.decision_nodes.specs.declared.edge.Edge.{Edge}
use Rattle.decision_nodes.proofs.Hearing.{same_length, sequence_there, stands_at, there_sequence}
use Rattle.decision_nodes.proofs.Standings.{get_is, get_within}

-- decisions

mapped : {X Y : Type 0} (f : X → Y) (ys : List Y) (xs : List X) → length ys ≡ length xs →
    ((i : ℕ) (x : X) → slice_get xs i ≡ Some x → slice_get ys i ≡ Some (f x)) → ys ≡ map f xs
mapped f [] [] e h = refl
mapped f [] (x ∷ xs) e h = absurd (omega (arith, e))
mapped f (y ∷ ys) [] e h = absurd (omega (arith, e))
mapped f (y ∷ ys) (x ∷ xs) e h =
    let first : y ≡ f x = cc (h 0 x refl) in
    rw (first, mapped f ys xs (omega (arith, e)) (λ i z at. h (suc i) z at)) refl

nothing_pending : {A : Type 0} {B : Type 0} → A ⊎ (⊥ × B) → A
nothing_pending (inl a) = a
nothing_pending (inr h) = absurd h.0

pub states_are : (nodes : List Standing) (outcomes : List (Option Outcome)) (top : ℕ) (marks : Member → Bool) → IsUnderWay nodes outcomes [] top marks →
    (s : ℕ) (n : Standing) → slice_get nodes s ≡ Some n → n.states ≡ map (told nodes outcomes) n.sequence.members
states_are nodes outcomes top marks way s n there =
    mapped (told nodes outcomes) n.states n.sequence.members (way.filled s n there)
    (λ i m at. let e : Edge = record { sequence = s; place = i } in nothing_pending (way.said e n m (record { there = there; stands = at })))

pub told_within : (nodes : List Standing) (outcomes : List (Option Outcome)) (top : ℕ) (marks : Member → Bool) → IsUnderWay nodes outcomes [] top marks →
    (depth : ℕ) (m : Member) → IsNestedWithin depth (sequences_of nodes) m → told nodes outcomes m ≡ decision_within depth (sequences_of nodes) outcomes m
unfolding decision_within
told_within nodes outcomes top marks way depth (Alg a) h = sym (decision_within-leaf depth (sequences_of nodes) outcomes a)
told_within nodes outcomes top marks way zero (Seq s) h = absurd h
told_within nodes outcomes top marks way (suc depth) (Seq s) h =
    let it = opened (slice_get (sequences_of nodes) s) (λ q. AllByRecursion (IsNestedWithin depth (sequences_of nodes)) q.members) h in
    let node = sequence_there nodes s it.0 it.1 in
    let n = node.0 in
    let members =
    map-agree (told nodes outcomes) (decision_within depth (sequences_of nodes) outcomes) (IsNestedWithin depth (sequences_of nodes))
    (λ m nested. told_within nodes outcomes top marks way depth m nested) it.0.members it.2
    in
    ap (λ o. option_map_or said o Undecided) node.1
    ∙ ap (node_decision n.sequence) (states_are nodes outcomes top marks way s n node.1)
    ∙ ap (λ (q : Sequence). node_decision q (map (told nodes outcomes) q.members)) node.2
    ∙ ap (node_decision it.0) members
    ∙ sym (ap (λ o. option_map_or (λ q. node_decision q (map (decision_within depth (sequences_of nodes) outcomes) q.members)) o Undecided) it.1)

-- a table for a job: the same forest, and all that it says is said
pub record IsRight (job : Job) (nodes : List Standing) (outcomes : List (Option Outcome)) (marks : Member → Bool) : Type 0 where
  pub same : job.sequences ≡ sequences_of nodes
  pub way : IsUnderWay nodes outcomes [] job.top marks
  pub nested : (s : ℕ) → s < length (sequences_of nodes) → IsNestedWithin MOST_DEPTH (sequences_of nodes) (Seq s)
  pub in_range : (e : Edge) (s : ℕ) → StandsAt (sequences_of nodes) e (Seq s) → s < length (sequences_of nodes)
  pub top_there : job.top < length (sequences_of nodes)
  pub top_marked : marks (Seq job.top) ≡ true

pub decisions_are : (job : Job) (nodes : List Standing) (outcomes : List (Option Outcome)) (marks : Member → Bool) → IsRight job nodes outcomes marks →
    (m : Member) → IsNestedWithin MOST_DEPTH (sequences_of nodes) m → told nodes outcomes m ≡ decision job outcomes m
unfolding decision
decisions_are job nodes outcomes marks right m nested =
    told_within nodes outcomes job.top marks right.way MOST_DEPTH m nested
    ∙ ap (λ them. decision_within MOST_DEPTH them outcomes m) (sym right.same)

nested_any : (job : Job) (nodes : List Standing) (outcomes : List (Option Outcome)) (marks : Member → Bool) → IsRight job nodes outcomes marks →
    (e : Edge) (m : Member) → StandsAt (sequences_of nodes) e m → IsNestedWithin MOST_DEPTH (sequences_of nodes) m
nested_any job nodes outcomes marks right e (Alg a) at = tt
nested_any job nodes outcomes marks right e (Seq s) at = right.nested s (right.in_range e s at)

pub node_states : (job : Job) (nodes : List Standing) (outcomes : List (Option Outcome)) (marks : Member → Bool) → IsRight job nodes outcomes marks →
    (s : ℕ) (n : Standing) → slice_get nodes s ≡ Some n → n.states ≡ map (decision job outcomes) n.sequence.members
node_states job nodes outcomes marks right s n there =
    mapped (decision job outcomes) n.states n.sequence.members (right.way.filled s n there)
    (λ i m at.
    let e : Edge = record { sequence = s; place = i } in
    let stands : StandsIn nodes e n m = record { there = there; stands = at } in
    nothing_pending (right.way.said e n m stands)
    ∙ ap Some (decisions_are job nodes outcomes marks right m (nested_any job nodes outcomes marks right e m (stands_at nodes e n m stands))))

-- what is marked is reached

place_of : (job : Job) (nodes : List Standing) (outcomes : List (Option Outcome)) (marks : Member → Bool) → IsRight job nodes outcomes marks →
    (m : Member) (it : IsEntered nodes marks m) → is_reached_sequence (reached job outcomes) it.s ≡ true → IsReachedPlace job outcomes it.s it.i m
place_of job nodes outcomes marks right m it there =
    record {
      node = it.node.sequence;
      there = ap (λ them. slice_get them it.s) right.same ∙ there_sequence nodes it.s it.node it.there;
      is_reached = there;
      is_entered =
          ap (λ ds. slice_get (entered it.node.sequence ds) it.i) (sym (node_states job nodes outcomes marks right it.s it.node it.there)) ∙ it.enters;
    }

entered_stands : (nodes : List Standing) (marks : Member → Bool) (m : Member) (it : IsEntered nodes marks m) →
    slice_get it.node.sequence.members it.i ≡ Some m
entered_stands nodes marks m it =
    sym (entered-at it.node.sequence it.node.states it.i (slice_get_within (entered it.node.sequence it.node.states) it.i m it.enters)) ∙ it.enters

top_nested : (job : Job) (nodes : List Standing) (outcomes : List (Option Outcome)) (marks : Member → Bool) → IsRight job nodes outcomes marks →
    IsNestedWithin MOST_DEPTH job.sequences (Seq job.top)
top_nested job nodes outcomes marks right =
    subst (λ them. IsNestedWithin MOST_DEPTH them (Seq job.top)) (sym right.same) (right.nested job.top right.top_there)

-- up from a marked sequence: one that isn't nested within so few is reached, since it has a reason
climb : (job : Job) (nodes : List Standing) (outcomes : List (Option Outcome)) (marks : Member → Bool) → IsRight job nodes outcomes marks →
    (j k : ℕ) → j + k ≡ MOST_DEPTH → (s : ℕ) → marks (Seq s) ≡ true → (IsNestedWithin k (sequences_of nodes) (Seq s) → ⊥) →
    is_reached_sequence (reached job outcomes) s ≡ true
climb job nodes outcomes marks right zero k e s h deep = absurd (deep (subst (λ d. IsNestedWithin d (sequences_of nodes) (Seq s)) (whole e) (right.nested s (here (right.way.marks_are.reasons (Seq s) h)))))
  where
    whole : 0 + k ≡ MOST_DEPTH → MOST_DEPTH ≡ k
    whole same = omega (arith, same)

    here : (Seq s ≡ Seq job.top) ⊎ IsEntered nodes marks (Seq s) → s < length (sequences_of nodes)
    here (inl same) = let it : s ≡ job.top = cc in let there = right.top_there in omega (arith, it, there)
    here (inr it) =
        let edge : Edge = record { sequence = it.s; place = it.i } in
        right.in_range edge s (stands_at nodes edge it.node (Seq s) (record { there = it.there; stands = entered_stands nodes marks (Seq s) it }))
climb job nodes outcomes marks right (suc j) k e s h deep =
    by (λ t up not_nested. climb job nodes outcomes marks right j (suc k) (further e) t up not_nested) (right.way.marks_are.reasons (Seq s) h)
  where
    further : suc j + k ≡ MOST_DEPTH → j + suc k ≡ MOST_DEPTH
    further same = omega (arith, same)

    by : ((t : ℕ) → marks (Seq t) ≡ true → (IsNestedWithin (suc k) (sequences_of nodes) (Seq t) → ⊥) → is_reached_sequence (reached job outcomes) t ≡ true) →
        (Seq s ≡ Seq job.top) ⊎ IsEntered nodes marks (Seq s) → is_reached_sequence (reached job outcomes) s ≡ true
    by up (inl same) = let it : s ≡ job.top = cc in subst (λ x. is_reached_sequence (reached job outcomes) x ≡ true) (sym it) (top-reached job outcomes)
    by up (inr it) =
        place-sequence job outcomes it.s it.i s (top_nested job nodes outcomes marks right)
        (place_of job nodes outcomes marks right (Seq s) it
        (up it.s it.is_marked (λ nested.
        let all = opened (slice_get (sequences_of nodes) it.s) (λ q. AllByRecursion (IsNestedWithin k (sequences_of nodes)) q.members) nested in
        let same : it.node.sequence ≡ all.0 = cc (all.1, there_sequence nodes it.s it.node it.there) in
        let stands : slice_get all.0.members it.i ≡ Some (Seq s) =
        ap (λ (q : Sequence). slice_get q.members it.i) (sym same) ∙ entered_stands nodes marks (Seq s) it
        in
        deep (all_at (IsNestedWithin k (sequences_of nodes)) all.0.members it.i (Seq s) all.2 (get_within all.0.members it.i (Seq s) stands)
        (sym (get_is all.0.members it.i (Seq s) (Seq s) stands))))))

sequence_reached : (job : Job) (nodes : List Standing) (outcomes : List (Option Outcome)) (marks : Member → Bool) → IsRight job nodes outcomes marks →
    (s : ℕ) → marks (Seq s) ≡ true → is_reached_sequence (reached job outcomes) s ≡ true
sequence_reached job nodes outcomes marks right s h =
    climb job nodes outcomes marks right MOST_DEPTH 0 refl s h (λ nested. nested)

marked_reached : (job : Job) (nodes : List Standing) (outcomes : List (Option Outcome)) (marks : Member → Bool) → IsRight job nodes outcomes marks →
    (a : ℕ) → marks (Alg a) ≡ true → is_reached (reached job outcomes) a ≡ true
marked_reached job nodes outcomes marks right a h = by (right.way.marks_are.reasons (Alg a) h)
  where
    by : (Alg a ≡ Seq job.top) ⊎ IsEntered nodes marks (Alg a) → is_reached (reached job outcomes) a ≡ true
    by (inl same) = cc
    by (inr it) =
        place-algorithm job outcomes it.s it.i a (top_nested job nodes outcomes marks right)
        (place_of job nodes outcomes marks right (Alg a) it (sequence_reached job nodes outcomes marks right it.s it.is_marked))

-- what is reached is marked

any_in : {X Y : Type 0} (p : Y → Bool) (f : X → List Y) (P : X → Type 0) (Goal : Type 0) → ((x : X) → P x → list_any p (f x) ≡ true → Goal) →
    (xs : List X) → AllByRecursion P xs → list_any p (flat_map f xs) ≡ true → Goal
any_in p f P Goal h [] all e = absurd (false≢true e)
any_in p f P Goal h (x ∷ xs) all e =
    ⊎_elim (λ (own : list_any p (f x) ≡ true). h x all.0 own) (λ (rest : list_any p (flat_map f xs) ≡ true). any_in p f P Goal h xs all.1 rest)
    (or_cases (list_any p (f x)) (list_any p (flat_map f xs)) (sym (list_any-append p (f x) (flat_map f xs)) ∙ e))

all_from : {X : Type 0} (P : X → Type 0) (xs : List X) → ((i : ℕ) (x : X) → slice_get xs i ≡ Some x → P x) → AllByRecursion P xs
all_from P [] h = tt
all_from P (x ∷ xs) h = (h 0 x refl, all_from P xs (λ i y e. h (suc i) y e))

leaf_is : (a : ℕ) (m : Member) → is_leaf_of a m ≡ true → m ≡ Alg a
leaf_is a (Alg b) e = ap Alg (eqb-true b a e)
leaf_is a (Seq s) e = absurd (false≢true e)

reached_marked_within : (job : Job) (nodes : List Standing) (outcomes : List (Option Outcome)) (marks : Member → Bool) → IsRight job nodes outcomes marks →
    (a depth : ℕ) (m : Member) → marks m ≡ true →
    list_any (is_leaf_of a) (reached_within depth (sequences_of nodes) (decision job outcomes) m) ≡ true → marks (Alg a) ≡ true
unfolding reached_within
reached_marked_within job nodes outcomes marks right a depth (Alg b) h e =
    by depth e
  where
    leaf : (is_leaf_of a (Alg b) || false) ≡ true → marks (Alg a) ≡ true
    leaf some =
        ⊎_elim (λ (own : is_leaf_of a (Alg b) ≡ true). ap marks (sym (leaf_is a (Alg b) own)) ∙ h) (λ (no_more : false ≡ true). absurd (false≢true no_more))
        (or_cases (is_leaf_of a (Alg b)) false some)

    by : (d : ℕ) → list_any (is_leaf_of a) (reached_within d (sequences_of nodes) (decision job outcomes) (Alg b)) ≡ true → marks (Alg a) ≡ true
    by zero some = leaf some
    by (suc d) some = leaf some
reached_marked_within job nodes outcomes marks right a zero (Seq s) h e = absurd (false≢true e)
reached_marked_within job nodes outcomes marks right a (suc depth) (Seq s) h e =
    at (slice_get (sequences_of nodes) s) refl e
    (λ m it some. reached_marked_within job nodes outcomes marks right a depth m it some)
  where
    at : (o : Option Sequence) → slice_get (sequences_of nodes) s ≡ o →
        list_any (is_leaf_of a) (option_map_or (λ q. flat_map (reached_within depth (sequences_of nodes) (decision job outcomes)) (entered q (map (decision job outcomes) q.members))) o []) ≡ true →
        ((m : Member) → marks m ≡ true → list_any (is_leaf_of a) (reached_within depth (sequences_of nodes) (decision job outcomes) m) ≡ true → marks (Alg a) ≡ true) →
        marks (Alg a) ≡ true
    at None there some more = absurd (false≢true some)
    at (Some q) there some more =
        let node = sequence_there nodes s q there in
        let n = node.0 in
        let states : n.states ≡ map (decision job outcomes) q.members =
        node_states job nodes outcomes marks right s n node.1 ∙ ap (λ (x : Sequence). map (decision job outcomes) x.members) node.2
        in
        let all : AllByRecursion (λ m. marks m ≡ true) (entered q (map (decision job outcomes) q.members)) =
        all_from (λ m. marks m ≡ true) (entered q (map (decision job outcomes) q.members))
        (λ i m here.
        let enters : EntersAt n i m = ap (λ (x : Sequence). slice_get (entered x n.states) i) node.2 ∙ ap (λ ds. slice_get (entered q ds) i) states ∙ here in
        right.way.marks_are.closed s h i n m (omega arith) node.1 enters)
        in
        any_in (is_leaf_of a) (reached_within depth (sequences_of nodes) (decision job outcomes)) (λ m. marks m ≡ true) (marks (Alg a) ≡ true) more
        (entered q (map (decision job outcomes) q.members)) all some

reached_marked : (job : Job) (nodes : List Standing) (outcomes : List (Option Outcome)) (marks : Member → Bool) → IsRight job nodes outcomes marks →
    (a : ℕ) → is_reached (reached job outcomes) a ≡ true → marks (Alg a) ≡ true
unfolding reached
reached_marked job nodes outcomes marks right a e =
    reached_marked_within job nodes outcomes marks right a MOST_DEPTH (Seq job.top) right.top_marked
    (subst (λ them. list_any (is_leaf_of a) (reached_within MOST_DEPTH them (decision job outcomes) (Seq job.top)) ≡ true) right.same e)

same_test : (b c : Bool) → (b ≡ true → c ≡ true) → (c ≡ true → b ≡ true) → b ≡ c
same_test true c f g = sym (f refl)
same_test false true f g = g refl
same_test false false f g = refl

pub marks_are_reached : (job : Job) (nodes : List Standing) (outcomes : List (Option Outcome)) (marks : Member → Bool) → IsRight job nodes outcomes marks →
    (a : ℕ) → marks (Alg a) ≡ is_reached (reached job outcomes) a
marks_are_reached job nodes outcomes marks right a =
    same_test (marks (Alg a)) (is_reached (reached job outcomes) a) (marked_reached job nodes outcomes marks right a)
    (reached_marked job nodes outcomes marks right a)

-- a table

pub right_of : (nodes : List Standing) (leaves parents : List (List Edge)) (outcomes : List (Option Outcome)) (top : ℕ) (marks : Member → Bool) →
    IsTable nodes leaves parents outcomes top marks →
    IsRight (job_of (record { sequences = sequences_of nodes; top = top; outcomes = outcomes })) nodes outcomes marks
unfolding job_of IsNested
right_of nodes leaves parents outcomes top marks table =
    record {
      same = refl;
      way = table.under_way;
      nested = table.forest.nested;
      in_range = λ e s at. table.forest.members e (Seq s) at;
      top_there = let there = table.top_there in omega (arith, there, same_length nodes);
      top_marked = table.top_marked;
    }

pub table_decision : (nodes : List Standing) (leaves parents : List (List Edge)) (outcomes : List (Option Outcome)) (top : ℕ) (marks : Member → Bool) →
    IsTable nodes leaves parents outcomes top marks → (t : Tree) → t ≡ record { sequences = sequences_of nodes; top = top; outcomes = outcomes } →
    (s : ℕ) (n : Standing) → slice_get nodes s ≡ Some n → said n ≡ decision_in t s
unfolding IsNested
table_decision nodes leaves parents outcomes top marks table t is s n there =
    let within = get_within nodes s n there in
    ap (λ o. option_map_or said o Undecided) (sym there)
    ∙ decisions_are _ nodes outcomes marks (right_of nodes leaves parents outcomes top marks table) (Seq s)
    (table.forest.nested s (omega (arith, within, same_length nodes)))
    ∙ sym (ap (λ x. decision_in x s) is)

pub table_reached : (nodes : List Standing) (leaves parents : List (List Edge)) (outcomes : List (Option Outcome)) (top : ℕ) (marks : Member → Bool) →
    IsTable nodes leaves parents outcomes top marks → (t : Tree) → t ≡ record { sequences = sequences_of nodes; top = top; outcomes = outcomes } →
    (a : ℕ) → marks (Alg a) ≡ is_reached_in t a
table_reached nodes leaves parents outcomes top marks table t is a =
    marks_are_reached _ nodes outcomes marks (right_of nodes leaves parents outcomes top marks table) a ∙ sym (ap (λ x. is_reached_in x a) is)
