-- An algorithm is below a decided cut node exactly where looking upwards from its places finds one.
use Rattle.std.proofs.Common.{◌≡◌, ℕ, zero, suc, ◌+◌, Bool, true, false, ◌||◌, ◌&&◌, ◌⊎◌, inl, inr, ⊎_elim, not, List, [], ◌∷◌, Option, Some, None, slice_get, refl, sym, ap, ap₂, ◌∙◌, subst, arith}
use Rattle.std.specs.List.{enumerate_from, flat_map, list_any}
use Rattle.std.specs.Option.{option_map_or}
use Rattle.std.proofs.lemmas.Bool.{false≢true, or_cases, or_left, or_right, eqb-true, eq-eqb}
use Rattle.std.proofs.lemmas.List.Folds.{list_any-append}
use Rattle.std.proofs.lemmas.Option.{same_Some}
use Rattle.hive_model.specs.Below.{below, below_within, is_algorithm_below}
use Rattle.hive_model.specs.Decision.{decision, is_undecided}
use Rattle.hive_model.specs.Job.{Job}
use Rattle.hive_model.specs.Live.{cuts_algorithm, is_live}
use Rattle.hive_model.specs.Reached.{is_leaf_of}
use Rattle.hive_model.specs.Sequence.{Sequence}
use Rattle.hive_model.specs.declared.limits.TheConstants.{MOST_DEPTH}
use Rattle.hive_model.specs.declared.outcome.Outcome.{Outcome}
use Rattle.hive_model.specs.declared.sequence.Member.{Member}
use Rattle.hive_model.specs.declared.sequence.Member.TheVariants.{Alg, Seq}
use Rattle.decision_nodes.specs.Cutting.{is_cut_from, is_cutting}
use Rattle.decision_nodes.specs.Index.{IsAmong, StandsAt, places_at}
use Rattle.decision_nodes.specs.Marks.{sequences_of}
use Rattle.decision_nodes.specs.Standing.{Standing, is_open}
use Rattle.decision_nodes.specs.Table.{IsTable}
use Rattle.decision_nodes.specs.Tree.{Tree, is_withdrawn_in, job_of}
use Rattle.decision_nodes.specs.declared.edge.Edge.{Edge}
use Rattle.decision_nodes.proofs.Hearing.{sequence_there, there_sequence}
use Rattle.decision_nodes.proofs.Meaning.{table_decision}

-- some element passes

passes_later : {X : Type 0} (p : X → Bool) (x : X) (xs : List X) → (i : ℕ) × (y : X) × (slice_get xs i ≡ Some y) × (p y ≡ true) →
    (i : ℕ) × (y : X) × (slice_get (x ∷ xs) i ≡ Some y) × (p y ≡ true)
passes_later p x xs it = (suc it.0, it.1, it.2, it.3)

some_passes : {X : Type 0} (p : X → Bool) (xs : List X) → list_any p xs ≡ true → (i : ℕ) × (x : X) × (slice_get xs i ≡ Some x) × (p x ≡ true)
some_passes p [] e = absurd (false≢true e)
some_passes p (x ∷ xs) e =
    ⊎_elim (λ (own : p x ≡ true). (0, x, refl, own)) (λ (more : list_any p xs ≡ true). passes_later p x xs (some_passes p xs more)) (or_cases (p x) (list_any p xs) e)

passes_some : {X : Type 0} (p : X → Bool) (xs : List X) (i : ℕ) (x : X) → slice_get xs i ≡ Some x → p x ≡ true → list_any p xs ≡ true
passes_some p [] i x e h = cc
passes_some p (y ∷ xs) zero x e h = let same : y ≡ x = cc in or_left (p y) (list_any p xs) (ap p same ∙ h)
passes_some p (y ∷ xs) (suc i) x e h = or_right (p y) (list_any p xs) (passes_some p xs i x e h)

some_among : (p : Edge → Bool) (xs : List Edge) → list_any p xs ≡ true → (x : Edge) × IsAmong x xs × (p x ≡ true)
some_among p [] e = absurd (false≢true e)
some_among p (x ∷ xs) e = by (or_cases (p x) (list_any p xs) e) (some_among p xs)
  where
    by : (p x ≡ true) ⊎ (list_any p xs ≡ true) → (list_any p xs ≡ true → (y : Edge) × IsAmong y xs × (p y ≡ true)) →
        (y : Edge) × IsAmong y (x ∷ xs) × (p y ≡ true)
    by (inl own) rest = (x, inl refl, own)
    by (inr more) rest = let it = rest more in (it.0, inr it.1, it.2)

among_some : (p : Edge → Bool) (xs : List Edge) (x : Edge) → IsAmong x xs → p x ≡ true → list_any p xs ≡ true
among_some p [] x h e = absurd h
among_some p (y ∷ xs) x (inl same) e = or_left (p y) (list_any p xs) (ap p same ∙ e)
among_some p (y ∷ xs) x (inr h) e = or_right (p y) (list_any p xs) (among_some p xs x h e)

flat_later : {X Y : Type 0} (p : Y → Bool) (f : X → List Y) (x : X) (xs : List X) → (i : ℕ) × (y : X) × (slice_get xs i ≡ Some y) × (list_any p (f y) ≡ true) →
    (i : ℕ) × (y : X) × (slice_get (x ∷ xs) i ≡ Some y) × (list_any p (f y) ≡ true)
flat_later p f x xs it = (suc it.0, it.1, it.2, it.3)

flat_some : {X Y : Type 0} (p : Y → Bool) (f : X → List Y) (xs : List X) → list_any p (flat_map f xs) ≡ true →
    (i : ℕ) × (x : X) × (slice_get xs i ≡ Some x) × (list_any p (f x) ≡ true)
flat_some p f [] e = absurd (false≢true e)
flat_some p f (x ∷ xs) e =
    ⊎_elim (λ (own : list_any p (f x) ≡ true). (0, x, refl, own)) (λ (more : list_any p (flat_map f xs) ≡ true). flat_later p f x xs (flat_some p f xs more))
    (or_cases (list_any p (f x)) (list_any p (flat_map f xs)) (sym (list_any-append p (f x) (flat_map f xs)) ∙ e))

some_flat : {X Y : Type 0} (p : Y → Bool) (f : X → List Y) (xs : List X) (i : ℕ) (x : X) → slice_get xs i ≡ Some x → list_any p (f x) ≡ true →
    list_any p (flat_map f xs) ≡ true
some_flat p f [] i x e h = cc
some_flat p f (y ∷ xs) zero x e h =
    let same : y ≡ x = cc in
    list_any-append p (f y) (flat_map f xs) ∙ or_left (list_any p (f y)) (list_any p (flat_map f xs)) (ap (λ z. list_any p (f z)) same ∙ h)
some_flat p f (y ∷ xs) (suc i) x e h =
    list_any-append p (f y) (flat_map f xs) ∙ or_right (list_any p (f y)) (list_any p (flat_map f xs)) (some_flat p f xs i x e h)

-- one sequence up: what is below a member is below its sequence

pub below_up : (sequences : List Sequence) (depth : ℕ) (p : Member → Bool) (e : Edge) (m : Member) → StandsAt sequences e m →
    (p m || list_any p (below_within depth sequences m)) ≡ true → list_any p (below_within (suc depth) sequences (Seq e.sequence)) ≡ true
unfolding below_within
below_up sequences depth p e m at h =
    ap (λ o. list_any p (option_map_or (λ q. flat_map (λ k. k ∷ below_within depth sequences k) q.members) o [])) at.there
    ∙ some_flat p (λ k. k ∷ below_within depth sequences k) at.node.members e.place m at.stands h

-- and one down
pub below_down : (sequences : List Sequence) (depth : ℕ) (p : Member → Bool) (s : ℕ) → list_any p (below_within (suc depth) sequences (Seq s)) ≡ true →
    (e : Edge) × (m : Member) × StandsAt sequences e m × (e.sequence ≡ s) × ((p m || list_any p (below_within depth sequences m)) ≡ true)
unfolding below_within
below_down sequences depth p s h = by (slice_get sequences s) refl h
  where
    by : (o : Option Sequence) → slice_get sequences s ≡ o →
        list_any p (option_map_or (λ q. flat_map (λ k. k ∷ below_within depth sequences k) q.members) o []) ≡ true →
        (e : Edge) × (m : Member) × StandsAt sequences e m × (e.sequence ≡ s) × ((p m || list_any p (below_within depth sequences m)) ≡ true)
    by None there some = absurd (false≢true some)
    by (Some q) there some =
        let it = flat_some p (λ k. k ∷ below_within depth sequences k) q.members some in
        let e : Edge = record { sequence = s; place = it.0 } in
        (e, it.1, record { node = q; there = there; stands = it.2 }, refl, it.3)

-- a cut node found from places of members
pub record IsCutBySome (nodes : List Standing) (p : Member → Bool) (depth : ℕ) : Type 0 where
  pub s : ℕ
  pub cutting : is_cutting nodes s ≡ true
  pub below : list_any p (below_within depth (sequences_of nodes) (Seq s)) ≡ true

-- more depth finds more
below_deeper : (sequences : List Sequence) (p : Member → Bool) (depth : ℕ) (m : Member) → list_any p (below_within depth sequences m) ≡ true →
    list_any p (below_within (suc depth) sequences m) ≡ true
unfolding below_within
below_deeper sequences p zero (Alg a) h = absurd (false≢true h)
below_deeper sequences p (suc depth) (Alg a) h = absurd (false≢true h)
below_deeper sequences p zero (Seq s) h = absurd (false≢true h)
below_deeper sequences p (suc depth) (Seq s) h =
    at (below_down sequences depth p s h) (λ k some. below_deeper sequences p depth k some)
  where
    at : (e : Edge) × (m : Member) × StandsAt sequences e m × (e.sequence ≡ s) × ((p m || list_any p (below_within depth sequences m)) ≡ true) →
        ((k : Member) → list_any p (below_within depth sequences k) ≡ true → list_any p (below_within (suc depth) sequences k) ≡ true) →
        list_any p (below_within (suc (suc depth)) sequences (Seq s)) ≡ true
    at it more =
        let some : (p it.1 || list_any p (below_within (suc depth) sequences it.1)) ≡ true =
        ⊎_elim (λ (own : p it.1 ≡ true). or_left (p it.1) _ own)
        (λ (rest : list_any p (below_within depth sequences it.1) ≡ true). or_right (p it.1) _ (more it.1 rest))
        (or_cases (p it.1) (list_any p (below_within depth sequences it.1)) it.4)
        in
        ap (λ k. list_any p (below_within (suc (suc depth)) sequences (Seq k))) (sym it.3) ∙ below_up sequences (suc depth) p it.0 it.1 it.2 some

deeper_by : (sequences : List Sequence) (p : Member → Bool) (depth more : ℕ) (m : Member) → list_any p (below_within depth sequences m) ≡ true →
    list_any p (below_within (more + depth) sequences m) ≡ true
deeper_by sequences p depth zero m h = subst (λ d. list_any p (below_within d sequences m) ≡ true) (let e : depth ≡ 0 + depth = omega arith in e) h
deeper_by sequences p depth (suc more) m h =
    subst (λ d. list_any p (below_within d sequences m) ≡ true) (let e : suc (more + depth) ≡ suc more + depth = omega arith in e)
    (below_deeper sequences p (more + depth) m (deeper_by sequences p depth more m h))

found_up : (nodes : List Standing) (parents : List (List Edge)) (p : Member → Bool) →
    ((e : Edge) (s : ℕ) → IsAmong e (places_at parents s) → StandsAt (sequences_of nodes) e (Seq s)) →
    (fuel depth : ℕ) (edges : List Edge) (m : Member) → ((e : Edge) → IsAmong e edges → StandsAt (sequences_of nodes) e m) →
    (p m || list_any p (below_within depth (sequences_of nodes) m)) ≡ true → is_cut_from nodes parents fuel edges ≡ true →
    IsCutBySome nodes p (fuel + depth)
unfolding is_cut_from
found_up nodes parents p right zero depth edges m stand h e = absurd (false≢true e)
found_up nodes parents p right (suc fuel) depth edges m stand h e =
    at (some_among (λ x. is_cutting nodes x.sequence || is_cut_from nodes parents fuel (places_at parents x.sequence)) edges e)
    (λ s list some cut. found_up nodes parents p right fuel (suc depth) list (Seq s) some cut)
  where
    up : (x : Edge) → IsAmong x edges → list_any p (below_within (suc depth) (sequences_of nodes) (Seq x.sequence)) ≡ true
    up x among = below_up (sequences_of nodes) depth p x m (stand x among) h

    at : (x : Edge) × IsAmong x edges × ((is_cutting nodes x.sequence || is_cut_from nodes parents fuel (places_at parents x.sequence)) ≡ true) →
        ((s : ℕ) (list : List Edge) → ((e : Edge) → IsAmong e list → StandsAt (sequences_of nodes) e (Seq s)) →
        (p (Seq s) || list_any p (below_within (suc depth) (sequences_of nodes) (Seq s))) ≡ true → is_cut_from nodes parents fuel list ≡ true →
        IsCutBySome nodes p (fuel + suc depth)) →
        IsCutBySome nodes p (suc fuel + depth)
    at it further =
        ⊎_elim
        (λ (own : is_cutting nodes it.0.sequence ≡ true).
        let here : IsCutBySome nodes p (suc fuel + depth) =
        record {
          s = it.0.sequence;
          cutting = own;
          below =
              subst (λ d. list_any p (below_within d (sequences_of nodes) (Seq it.0.sequence)) ≡ true) (let e : fuel + suc depth ≡ suc fuel + depth = omega arith in e)
              (deeper_by (sequences_of nodes) p (suc depth) fuel (Seq it.0.sequence) (up it.0 it.1));
        }
        in here)
        (λ (more : is_cut_from nodes parents fuel (places_at parents it.0.sequence) ≡ true).
        subst (IsCutBySome nodes p) (let e : fuel + suc depth ≡ suc fuel + depth = omega arith in e)
        (further it.0.sequence (places_at parents it.0.sequence) (λ e among. right e it.0.sequence among)
        (or_right (p (Seq it.0.sequence)) _ (up it.0 it.1)) more))
        (or_cases (is_cutting nodes it.0.sequence) (is_cut_from nodes parents fuel (places_at parents it.0.sequence)) it.2)

-- more fuel finds more
fuel_more : (nodes : List Standing) (parents : List (List Edge)) (fuel : ℕ) (edges : List Edge) → is_cut_from nodes parents fuel edges ≡ true →
    is_cut_from nodes parents (suc fuel) edges ≡ true
unfolding is_cut_from
fuel_more nodes parents zero edges e = absurd (false≢true e)
fuel_more nodes parents (suc fuel) edges e =
    at (some_among (λ x. is_cutting nodes x.sequence || is_cut_from nodes parents fuel (places_at parents x.sequence)) edges e)
    (λ list some. fuel_more nodes parents fuel list some)
  where
    at : (x : Edge) × IsAmong x edges × ((is_cutting nodes x.sequence || is_cut_from nodes parents fuel (places_at parents x.sequence)) ≡ true) →
        ((list : List Edge) → is_cut_from nodes parents fuel list ≡ true → is_cut_from nodes parents (suc fuel) list ≡ true) →
        is_cut_from nodes parents (suc (suc fuel)) edges ≡ true
    at it further =
        among_some (λ x. is_cutting nodes x.sequence || is_cut_from nodes parents (suc fuel) (places_at parents x.sequence)) edges it.0 it.1
        (⊎_elim (λ (own : is_cutting nodes it.0.sequence ≡ true). or_left (is_cutting nodes it.0.sequence) _ own)
        (λ (more : is_cut_from nodes parents fuel (places_at parents it.0.sequence) ≡ true).
        or_right (is_cutting nodes it.0.sequence) _ (further (places_at parents it.0.sequence) more))
        (or_cases (is_cutting nodes it.0.sequence) (is_cut_from nodes parents fuel (places_at parents it.0.sequence)) it.2))

fuel_by : (nodes : List Standing) (parents : List (List Edge)) (fuel more : ℕ) (edges : List Edge) → is_cut_from nodes parents fuel edges ≡ true →
    is_cut_from nodes parents (more + fuel) edges ≡ true
fuel_by nodes parents fuel zero edges h = subst (λ d. is_cut_from nodes parents d edges ≡ true) (let e : fuel ≡ 0 + fuel = omega arith in e) h
fuel_by nodes parents fuel (suc more) edges h =
    subst (λ d. is_cut_from nodes parents d edges ≡ true) (let e : suc (more + fuel) ≡ suc more + fuel = omega arith in e)
    (fuel_more nodes parents (more + fuel) edges (fuel_by nodes parents fuel more edges h))

cut_step : (nodes : List Standing) (parents : List (List Edge)) (fuel : ℕ) (edges : List Edge) (x : Edge) → IsAmong x edges →
    (is_cutting nodes x.sequence || is_cut_from nodes parents fuel (places_at parents x.sequence)) ≡ true → is_cut_from nodes parents (suc fuel) edges ≡ true
unfolding is_cut_from
cut_step nodes parents fuel edges x among h =
    among_some (λ y. is_cutting nodes y.sequence || is_cut_from nodes parents fuel (places_at parents y.sequence)) edges x among h

leaf_is : (a : ℕ) (m : Member) → is_leaf_of a m ≡ true → m ≡ Alg a
leaf_is a (Alg b) e = ap Alg (eqb-true b a e)
leaf_is a (Seq s) e = absurd (false≢true e)

none_below_leaf : (sequences : List Sequence) (depth b : ℕ) (p : Member → Bool) → list_any p (below_within depth sequences (Alg b)) ≡ true → ⊥
unfolding below_within
none_below_leaf sequences zero b p e = false≢true e
none_below_leaf sequences (suc depth) b p e = false≢true e

none_within_zero : (sequences : List Sequence) (s : ℕ) (p : Member → Bool) → list_any p (below_within 0 sequences (Seq s)) ≡ true → ⊥
unfolding below_within
none_within_zero sequences s p e = false≢true e

-- down from a cut node, or from below one, to a leaf of the algorithm
found_down : (nodes : List Standing) (leaves parents : List (List Edge)) (a : ℕ) →
    ((e : Edge) (s : ℕ) → StandsAt (sequences_of nodes) e (Seq s) → IsAmong e (places_at parents s)) →
    ((e : Edge) (b : ℕ) → StandsAt (sequences_of nodes) e (Alg b) → IsAmong e (places_at leaves b)) →
    (depth fuel s : ℕ) → (is_cutting nodes s || is_cut_from nodes parents fuel (places_at parents s)) ≡ true →
    list_any (is_leaf_of a) (below_within depth (sequences_of nodes) (Seq s)) ≡ true → is_cut_from nodes parents (depth + fuel) (places_at leaves a) ≡ true
found_down nodes leaves parents a cover leaves_cover zero fuel s cut h = absurd (none_within_zero (sequences_of nodes) s (is_leaf_of a) h)
found_down nodes leaves parents a cover leaves_cover (suc depth) fuel s cut h =
    at (below_down (sequences_of nodes) depth (is_leaf_of a) s h)
    (λ t up some. found_down nodes leaves parents a cover leaves_cover depth (suc fuel) t up some)
  where
    own : (e : Edge) (m : Member) → StandsAt (sequences_of nodes) e m → e.sequence ≡ s → is_leaf_of a m ≡ true →
        is_cut_from nodes parents (suc depth + fuel) (places_at leaves a) ≡ true
    own e m stands here leaf =
        subst (λ d. is_cut_from nodes parents d (places_at leaves a) ≡ true) (let x : depth + suc fuel ≡ suc depth + fuel = omega arith in x)
        (fuel_by nodes parents (suc fuel) depth (places_at leaves a)
        (cut_step nodes parents fuel (places_at leaves a) e
        (leaves_cover e a (subst (StandsAt (sequences_of nodes) e) (leaf_is a m leaf) stands))
        (subst (λ k. (is_cutting nodes k || is_cut_from nodes parents fuel (places_at parents k)) ≡ true) (sym here) cut)))

    rest : (e : Edge) (m : Member) → StandsAt (sequences_of nodes) e m → e.sequence ≡ s → list_any (is_leaf_of a) (below_within depth (sequences_of nodes) m) ≡ true →
        ((t : ℕ) → (is_cutting nodes t || is_cut_from nodes parents (suc fuel) (places_at parents t)) ≡ true →
        list_any (is_leaf_of a) (below_within depth (sequences_of nodes) (Seq t)) ≡ true → is_cut_from nodes parents (depth + suc fuel) (places_at leaves a) ≡ true) →
        is_cut_from nodes parents (suc depth + fuel) (places_at leaves a) ≡ true
    rest e (Alg b) stands here some further = absurd (none_below_leaf (sequences_of nodes) depth b (is_leaf_of a) some)
    rest e (Seq t) stands here some further =
        subst (λ d. is_cut_from nodes parents d (places_at leaves a) ≡ true) (let x : depth + suc fuel ≡ suc depth + fuel = omega arith in x)
        (further t
        (or_right (is_cutting nodes t) _
        (cut_step nodes parents fuel (places_at parents t) e (cover e t stands)
        (subst (λ k. (is_cutting nodes k || is_cut_from nodes parents fuel (places_at parents k)) ≡ true) (sym here) cut))) some)

    at : (e : Edge) × (m : Member) × StandsAt (sequences_of nodes) e m × (e.sequence ≡ s)
        × ((is_leaf_of a m || list_any (is_leaf_of a) (below_within depth (sequences_of nodes) m)) ≡ true) →
        ((t : ℕ) → (is_cutting nodes t || is_cut_from nodes parents (suc fuel) (places_at parents t)) ≡ true →
        list_any (is_leaf_of a) (below_within depth (sequences_of nodes) (Seq t)) ≡ true → is_cut_from nodes parents (depth + suc fuel) (places_at leaves a) ≡ true) →
        is_cut_from nodes parents (suc depth + fuel) (places_at leaves a) ≡ true
    at it further =
        ⊎_elim (λ (leaf : is_leaf_of a it.1 ≡ true). own it.0 it.1 it.2 it.3 leaf)
        (λ (some : list_any (is_leaf_of a) (below_within depth (sequences_of nodes) it.1) ≡ true). rest it.0 it.1 it.2 it.3 some further)
        (or_cases (is_leaf_of a it.1) (list_any (is_leaf_of a) (below_within depth (sequences_of nodes) it.1)) it.4)

-- sequences with their numbers

numbered_at : (xs : List Sequence) (k i : ℕ) (x : Sequence) → slice_get xs i ≡ Some x → slice_get (enumerate_from k xs) i ≡ Some (k + i, x)
numbered_at [] k i x e = cc
numbered_at (y ∷ xs) k zero x e = let same : y ≡ x = cc in let here : k ≡ k + 0 = omega arith in ap₂ (λ a b. Some (a, b)) here same
numbered_at (y ∷ xs) k (suc i) x e =
    numbered_at xs (k + 1) i x e ∙ ap (λ a. Some (a, x)) (let here : k + 1 + i ≡ k + suc i = omega arith in here)

at_numbered : (xs : List Sequence) (k i : ℕ) (y : ℕ × Sequence) → slice_get (enumerate_from k xs) i ≡ Some y → (y.0 ≡ k + i) × (slice_get xs i ≡ Some y.1)
at_numbered [] k i y e = cc
at_numbered (x ∷ xs) k zero y e =
    let same = same_Some (k, x) y e in
    (sym (ap (λ (z : ℕ × Sequence). z.0) same) ∙ (let here : k ≡ k + 0 = omega arith in here), ap (λ (z : ℕ × Sequence). Some z.1) same)
at_numbered (x ∷ xs) k (suc i) y e =
    let it = at_numbered xs (k + 1) i y e in (it.0 ∙ (let here : k + 1 + i ≡ k + suc i = omega arith in here), it.1)

both : (b c : Bool) → b ≡ true → c ≡ true → (b && c) ≡ true
both b c e f = ap₂ (λ x y. x && y) e f

first_of_both : (b c : Bool) → (b && c) ≡ true → b ≡ true
first_of_both true c e = refl
first_of_both false c e = absurd (false≢true e)

second_of_both : (b c : Bool) → (b && c) ≡ true → c ≡ true
second_of_both true c e = e
second_of_both false c e = absurd (false≢true e)

not_not : (b : Bool) → not (not b) ≡ b
not_not true = refl
not_not false = refl

same_test : (b c : Bool) → (b ≡ true → c ≡ true) → (c ≡ true → b ≡ true) → b ≡ c
same_test true c f g = sym (f refl)
same_test false true f g = g refl
same_test false false f g = refl

cutting_there : (nodes : List Standing) (s : ℕ) → is_cutting nodes s ≡ true → (n : Standing) × (slice_get nodes s ≡ Some n)
cutting_there nodes s h = by (slice_get nodes s) refl h
  where
    by : (o : Option Standing) → slice_get nodes s ≡ o → option_map_or (λ (n : Standing). n.sequence.cut && not (is_open n)) o false ≡ true →
        (n : Standing) × (slice_get nodes s ≡ Some n)
    by None there some = absurd (false≢true some)
    by (Some n) there some = (n, there)

pub table_withdrawn : (nodes : List Standing) (leaves parents : List (List Edge)) (outcomes : List (Option Outcome)) (top : ℕ) (marks : Member → Bool) →
    IsTable nodes leaves parents outcomes top marks → (a : ℕ) →
    is_cut_from nodes parents MOST_DEPTH (places_at leaves a) ≡ is_withdrawn_in (record { sequences = sequences_of nodes; top = top; outcomes = outcomes }) a
unfolding is_live job_of below
table_withdrawn nodes leaves parents outcomes top marks table a =
    same_test (is_cut_from nodes parents MOST_DEPTH (places_at leaves a)) (list_any (cuts_algorithm job outcomes a) (enumerate_from 0 (sequences_of nodes))) up down
    ∙ sym (not_not (list_any (cuts_algorithm job outcomes a) (enumerate_from 0 (sequences_of nodes))))
  where
    tree : Tree
    tree = record { sequences = sequences_of nodes; top = top; outcomes = outcomes }

    job : Job
    job = job_of (record { sequences = sequences_of nodes; top = top; outcomes = outcomes })

    cutting : (s : ℕ) (n : Standing) → slice_get nodes s ≡ Some n →
        is_cutting nodes s ≡ (n.sequence.cut && not (is_undecided (decision (job_of (record { sequences = sequences_of nodes; top = top; outcomes = outcomes })) outcomes (Seq s))))
    cutting s n there =
        ap (λ o. option_map_or (λ (x : Standing). x.sequence.cut && not (is_open x)) o false) there
        ∙ ap (λ d. n.sequence.cut && not (is_undecided d))
        (table_decision nodes leaves parents outcomes top marks table (record { sequences = sequences_of nodes; top = top; outcomes = outcomes }) refl s n there)

    up : is_cut_from nodes parents MOST_DEPTH (places_at leaves a) ≡ true →
        list_any (cuts_algorithm (job_of (record { sequences = sequences_of nodes; top = top; outcomes = outcomes })) outcomes a) (enumerate_from 0 (sequences_of nodes)) ≡ true
    up h =
        let it =
        found_up nodes parents (is_leaf_of a) table.forest.parents_right MOST_DEPTH 0 (places_at leaves a) (Alg a) (λ e among. table.leaves_right e a among)
        (or_left (is_leaf_of a (Alg a)) (list_any (is_leaf_of a) (below_within 0 (sequences_of nodes) (Alg a))) (eq-eqb a a refl)) h
        in
        let node = cutting_there nodes it.s it.cutting in
        passes_some (cuts_algorithm (job_of (record { sequences = sequences_of nodes; top = top; outcomes = outcomes })) outcomes a) (enumerate_from 0 (sequences_of nodes)) it.s (0 + it.s, node.0.sequence)
        (numbered_at (sequences_of nodes) 0 it.s node.0.sequence (there_sequence nodes it.s node.0 node.1))
        (subst (λ k. cuts_algorithm (job_of (record { sequences = sequences_of nodes; top = top; outcomes = outcomes })) outcomes a (k, node.0.sequence) ≡ true)
        (let here : it.s ≡ 0 + it.s = omega arith in here)
        (both (node.0.sequence.cut && not (is_undecided (decision (job_of (record { sequences = sequences_of nodes; top = top; outcomes = outcomes })) outcomes (Seq it.s)))) (is_algorithm_below (job_of (record { sequences = sequences_of nodes; top = top; outcomes = outcomes })) it.s a) (sym (cutting it.s node.0 node.1) ∙ it.cutting) it.below))

    down : list_any (cuts_algorithm (job_of (record { sequences = sequences_of nodes; top = top; outcomes = outcomes })) outcomes a) (enumerate_from 0 (sequences_of nodes)) ≡ true →
        is_cut_from nodes parents MOST_DEPTH (places_at leaves a) ≡ true
    down h =
        let it = some_passes (cuts_algorithm (job_of (record { sequences = sequences_of nodes; top = top; outcomes = outcomes })) outcomes a) (enumerate_from 0 (sequences_of nodes)) h in
        let at = at_numbered (sequences_of nodes) 0 it.0 it.1 it.2 in
        let s : ℕ = it.1.0 in
        let number : it.0 ≡ s = (let e = at.0 in omega (arith, e)) in
        let node = sequence_there nodes s it.1.1 (ap (slice_get (sequences_of nodes)) (sym number) ∙ at.1) in
        let cut : is_cutting nodes s ≡ true =
        cutting s node.0 node.1
        ∙ ap (λ (q : Sequence). q.cut && not (is_undecided (decision (job_of (record { sequences = sequences_of nodes; top = top; outcomes = outcomes })) outcomes (Seq s)))) node.2
        ∙ first_of_both (it.1.1.cut && not (is_undecided (decision (job_of (record { sequences = sequences_of nodes; top = top; outcomes = outcomes })) outcomes (Seq it.1.0)))) (is_algorithm_below (job_of (record { sequences = sequences_of nodes; top = top; outcomes = outcomes })) it.1.0 a) it.3
        in
        found_down nodes leaves parents a table.forest.parents_cover table.leaves_cover MOST_DEPTH 0 s (or_left (is_cutting nodes s) (is_cut_from nodes parents 0 (places_at parents s)) cut) (second_of_both (it.1.1.cut && not (is_undecided (decision (job_of (record { sequences = sequences_of nodes; top = top; outcomes = outcomes })) outcomes (Seq it.1.0)))) (is_algorithm_below (job_of (record { sequences = sequences_of nodes; top = top; outcomes = outcomes })) it.1.0 a) it.3)

-- where no node is a cut node

not_cutting : (nodes : List Standing) (s : ℕ) → list_any (λ q. q.cut) (sequences_of nodes) ≡ false → is_cutting nodes s ≡ false
not_cutting nodes s none = by (slice_get nodes s) refl
  where
    plain : (n : Standing) → slice_get nodes s ≡ Some n → (b : Bool) → n.sequence.cut ≡ b → b ≡ false
    plain n there true cut =
        absurd (false≢true (sym none ∙ passes_some (λ (q : Sequence). q.cut) (sequences_of nodes) s n.sequence (there_sequence nodes s n there) cut))
    plain n there false cut = refl

    by : (o : Option Standing) → slice_get nodes s ≡ o → option_map_or (λ (n : Standing). n.sequence.cut && not (is_open n)) o false ≡ false
    by None there = refl
    by (Some n) there = ap (λ b. b && not (is_open n)) (plain n there n.sequence.cut refl)

none_passes : (p : Edge → Bool) (xs : List Edge) → ((x : Edge) → p x ≡ false) → list_any p xs ≡ false
none_passes p [] none = refl
none_passes p (x ∷ xs) none = ap₂ (λ a b. a || b) (none x) (none_passes p xs none)

pub nothing_cut : (nodes : List Standing) (parents : List (List Edge)) (depth : ℕ) (edges : List Edge) →
    list_any (λ q. q.cut) (sequences_of nodes) ≡ false → is_cut_from nodes parents depth edges ≡ false
unfolding is_cut_from
nothing_cut nodes parents zero edges none = refl
nothing_cut nodes parents (suc depth) edges none =
    none_passes (λ e. is_cutting nodes e.sequence || is_cut_from nodes parents depth (places_at parents e.sequence)) edges
    (λ e. ap₂ (λ a b. a || b) (not_cutting nodes e.sequence none) (nothing_cut nodes parents depth (places_at parents e.sequence) none))
