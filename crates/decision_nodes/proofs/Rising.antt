-- A list of places is told, one after another, and so on up.
use Rattle.std.proofs.Common.{◌≡◌, ℕ, zero, suc, ◌+◌, ◌<◌, ◌≤◌, Bool, true, ◌⊎◌, inl, inr, ⊎_elim, if◌then◌else◌, List, [], ◌∷◌, ◌++◌, Option, Some, drop, length, get_or, slice_get, refl, sym, ap, ◌∙◌, subst, arith}
use Rattle.std.specs.List.{flat_map}
use Rattle.std.specs.Option.{option_map_or}
use Rattle.std.proofs.lemmas.List.{drop_more, drop_all}
use Rattle.hive_model.specs.Sequence.{Sequence}
use Rattle.hive_model.specs.declared.decision.Decision.TheVariants.{Undecided}
use Rattle.hive_model.specs.declared.outcome.Outcome.{Outcome}
use Rattle.hive_model.specs.declared.sequence.Member.{Member}
use Rattle.hive_model.specs.declared.sequence.Member.TheVariants.{Seq}
use Rattle.decision_nodes.specs.Index.{IsAmong, IsForest, IsPlace, StandsAt, places_at}
use Rattle.decision_nodes.specs.Marks.{sequences_of}
use Rattle.decision_nodes.specs.Standing.{Standing, is_open, said}
use Rattle.decision_nodes.specs.Telling.{IsUnderWay, StandsIn, Tells, told}
use Rattle.decision_nodes.specs.declared.edge.Edge.{Edge}
use Rattle.decision_nodes.proofs.Hearing.{stands_at}
use Rattle.decision_nodes.proofs.Standings.{undecided_is}

pub among_at : (edges : List Edge) (i : ℕ) (d : Edge) → i < length edges → IsAmong (get_or edges i d) edges
among_at [] i d lt = absurd (omega arith)
among_at (e ∷ edges) zero d lt = inl refl
among_at (e ∷ edges) (suc i) d lt = inr (among_at edges i d (omega arith))

-- where the places of a number stand
pub places_stand : (sequences : List Sequence) (algorithms : ℕ) (parents : List (List Edge)) (s number : ℕ) (list : List Edge) →
    IsForest sequences algorithms parents → list ≡ places_at parents number → number ≡ s →
    (e : Edge) → IsAmong e list → IsPlace sequences e
places_stand sequences algorithms parents s number list forest are same e among =
    let at : IsAmong e (places_at parents s) = subst (λ k. IsAmong e (places_at parents k)) same (subst (IsAmong e) are among) in
    (Seq s, forest.parents_right e s at)

pub next_edge : (edges rest : List Edge) (i : ℕ) (d : Edge) → i < length edges →
    drop i edges ++ rest ≡ get_or edges i d ∷ (drop (i + 1) edges ++ rest)
next_edge edges rest i d lt = ap (λ them. them ++ rest) (drop_more edges i d lt)

pub told_more : (nodes0 nodes1 nodes2 nodes3 : List Standing) (outcomes : List (Option Outcome)) (algorithms : ℕ) (parents : List (List Edge))
    (edges : List Edge) (i : ℕ) (d : Edge) (decided : Bool) (marks1 marks2 marks3 : Member → Bool) → i < length edges →
    IsForest (sequences_of nodes0) algorithms parents → sequences_of nodes1 ≡ sequences_of nodes0 →
    Tells nodes1 outcomes (get_or edges i d) decided nodes2 marks1 marks2 →
    ((top : ℕ) (rest : List Edge) →
    IsUnderWay nodes2 outcomes (if decided then places_at parents (get_or edges i d).sequence ++ rest else rest) top marks2 →
    IsUnderWay nodes3 outcomes rest top marks3) →
    (top : ℕ) (rest : List Edge) → IsUnderWay nodes1 outcomes (drop i edges ++ rest) top marks1 →
    IsUnderWay nodes3 outcomes (drop (i + 1) edges ++ rest) top marks3
told_more nodes0 nodes1 nodes2 nodes3 outcomes algorithms parents edges i d decided marks1 marks2 marks3 lt forest same tells finish top rest way =
    let e : Edge = get_or edges i d in
    let left : List Edge = drop (i + 1) edges ++ rest in
    let before : IsUnderWay nodes1 outcomes (e ∷ left) top marks1 =
    subst (λ pending. IsUnderWay nodes1 outcomes pending top marks1) (next_edge edges rest i d lt) way
    in
    finish top left (tells top (places_at parents e.sequence) left
    (λ p n at. forest.parents_cover p e.sequence
    (subst (λ them. StandsAt them p (Seq e.sequence)) same (stands_at nodes1 p n (Seq e.sequence) at))) before)

pub told_all : (nodes : List Standing) (outcomes : List (Option Outcome)) (edges rest : List Edge) (i top : ℕ) (marks : Member → Bool) → length edges ≤ i →
    IsUnderWay nodes outcomes (drop i edges ++ rest) top marks → IsUnderWay nodes outcomes rest top marks
told_all nodes outcomes edges rest i top marks far way =
    subst (λ pending. IsUnderWay nodes outcomes pending top marks) (ap (λ them. them ++ rest) (drop_all i edges far)) way

-- the lists of all sequences, one after another

pub next_list : (lists : List (List Edge)) (i : ℕ) → i < length lists →
    flat_map (λ (them : List Edge). them) (drop i lists) ≡ get_or lists i [] ++ flat_map (λ (them : List Edge). them) (drop (i + 1) lists)
next_list lists i lt = ap (flat_map (λ (them : List Edge). them)) (drop_more lists i [] lt)

pub no_list : (lists : List (List Edge)) (i : ℕ) → length lists ≤ i → flat_map (λ (them : List Edge). them) (drop i lists) ≡ []
no_list lists i far = ap (flat_map (λ (them : List Edge). them)) (drop_all i lists far)

-- a sequence that isn't decided has nothing to tell

among_either : (p : Edge) (xs ys : List Edge) → IsAmong p (xs ++ ys) → IsAmong p xs ⊎ IsAmong p ys
among_either p [] ys h = inr h
among_either p (x ∷ xs) ys (inl e) = inl (inl e)
among_either p (x ∷ xs) ys (inr h) = ⊎_elim (λ (own : IsAmong p xs). inl (inr own)) (λ (other : IsAmong p ys). inr other) (among_either p xs ys h)

pub nothing_told : (nodes : List Standing) (outcomes : List (Option Outcome)) (parents : List (List Edge)) (s top : ℕ) (rest : List Edge) (n : Standing)
    (marks : Member → Bool) → IsForest (sequences_of nodes) (length outcomes) parents → slice_get nodes s ≡ Some n → is_open n ≡ true →
    IsUnderWay nodes outcomes (places_at parents s ++ rest) top marks → IsUnderWay nodes outcomes rest top marks
nothing_told nodes outcomes parents s top rest n marks forest there none way =
    record { filled = way.filled; said = λ e k m at. by e k m at (way.said e k m at); marks_are = way.marks_are }
  where
    -- what stands at a place of the sequence is the sequence
    silent : (e : Edge) (k : Standing) (m : Member) → StandsIn nodes e k m → IsAmong e (places_at parents s) → told nodes outcomes m ≡ Undecided
    silent e k m at own =
        let it = forest.parents_right e s own in
        let here = stands_at nodes e k m at in
        let node : here.node ≡ it.node = cc (here.there, it.there) in
        let stands : slice_get here.node.members e.place ≡ Some (Seq s) = ap (λ (q : Sequence). slice_get q.members e.place) node ∙ it.stands in
        let same : m ≡ Seq s = cc (here.stands, stands) in
        ap (told nodes outcomes) same ∙ ap (λ o. option_map_or said o Undecided) there ∙ undecided_is (said n) none

    by : (e : Edge) (k : Standing) (m : Member) → StandsIn nodes e k m →
        (slice_get k.states e.place ≡ Some (told nodes outcomes m))
        ⊎ (IsAmong e (places_at parents s ++ rest) × (slice_get k.states e.place ≡ Some Undecided)) →
        (slice_get k.states e.place ≡ Some (told nodes outcomes m)) ⊎ (IsAmong e rest × (slice_get k.states e.place ≡ Some Undecided))
    by e k m at (inl h) = inl h
    by e k m at (inr h) =
        ⊎_elim (λ (own : IsAmong e (places_at parents s)). inl (h.1 ∙ ap Some (sym (silent e k m at own)))) (λ (other : IsAmong e rest). inr (other, h.1))
        (among_either e (places_at parents s) rest h.0)

pub some_there : {X : Type 0} (xs : List X) (i : ℕ) → i < length xs → (x : X) × (slice_get xs i ≡ Some x)
some_there [] i lt = absurd (omega arith)
some_there (x ∷ xs) zero lt = (x, refl)
some_there (x ∷ xs) (suc i) lt = some_there xs i (omega arith)
