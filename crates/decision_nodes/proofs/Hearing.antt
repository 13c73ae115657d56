-- One member is heard: what members say then, which places are pending, and what is marked.
use Rattle.std.proofs.Common.{◌≡◌, ◌≢◌, ℕ, zero, suc, ◌+◌, ◌<◌, ◌≤◌, Bool, true, false, ◌&&◌, ◌⊎◌, inl, inr, ⊎_elim, if◌then◌else◌, cond, not, List, [], ◌∷◌, ◌++◌, Option, Some, length, get_or, set, slice_get, refl, sym, ap, ap₂, ◌∙◌, subst, arith}
use Rattle.std.specs.List.{count_by}
use Rattle.std.specs.Option.{option_map_or}
use Rattle.std.proofs.lemmas.Bool.{cases_Bool, cases_eq, cases_lt, false≢true}
use Rattle.std.proofs.lemmas.Option.{slice_get_within}
use Rattle.event_laws.proofs.Placing.{entered-at}
use Rattle.event_laws.proofs.Settling.{Settles, settles-value}
use Rattle.hive_model.specs.Decision.{is_undecided}
use Rattle.hive_model.specs.Reached.{entered}
use Rattle.hive_model.specs.Sequence.{Sequence}
use Rattle.hive_model.specs.declared.decision.Decision.{Decision}
use Rattle.hive_model.specs.declared.decision.Decision.TheVariants.{True, False, Undecided}
use Rattle.hive_model.specs.declared.outcome.Outcome.{Outcome}
use Rattle.hive_model.specs.declared.sequence.Member.{Member}
use Rattle.hive_model.specs.declared.sequence.Member.TheVariants.{Alg, Seq}
use Rattle.decision_nodes.specs.Index.{IsAmong, IsForest, IsIn, StandsAt}
use Rattle.decision_nodes.specs.Marks.{AreMarkedFrom, AreMarks, AreSmall, EntersAt, IsEntered, IsSmall, Reaches, sequences_of}
use Rattle.decision_nodes.specs.Standing.{Standing, heard, heard_states, is_open, said}
use Rattle.decision_nodes.specs.Telling.{AreSaid, StandsIn, Tells, told}
use Rattle.decision_nodes.specs.declared.edge.Edge.{Edge}
use Rattle.decision_nodes.proofs.Counting.{count_one}
use Rattle.decision_nodes.proofs.Standings.{get_is, get_other, get_same, get_within, heard_here, heard_length, heard_other, node_grows, node_settles, undecided_is}

-- places in nodes and in their sequences

pub sequence_there : (nodes : List Standing) (s : ℕ) (q : Sequence) → slice_get (sequences_of nodes) s ≡ Some q →
    (n : Standing) × (slice_get nodes s ≡ Some n) × (n.sequence ≡ q)
sequence_there [] s q e = cc
sequence_there (x ∷ nodes) zero q e = (x, refl, cc)
sequence_there (x ∷ nodes) (suc s) q e = sequence_there nodes s q e

pub there_sequence : (nodes : List Standing) (s : ℕ) (n : Standing) → slice_get nodes s ≡ Some n → slice_get (sequences_of nodes) s ≡ Some n.sequence
there_sequence [] s n e = cc
there_sequence (x ∷ nodes) zero n e = let same : x ≡ n = cc in ap (λ (k : Standing). Some k.sequence) same
there_sequence (x ∷ nodes) (suc s) n e = there_sequence nodes s n e

pub stands_at : (nodes : List Standing) (e : Edge) (n : Standing) (m : Member) → StandsIn nodes e n m → StandsAt (sequences_of nodes) e m
stands_at nodes e n m it = record { node = n.sequence; there = there_sequence nodes e.sequence n it.there; stands = it.stands }

pub stands_in : (nodes : List Standing) (e : Edge) (m : Member) → StandsAt (sequences_of nodes) e m → (n : Standing) × StandsIn nodes e n m
stands_in nodes e m it =
    let node = sequence_there nodes e.sequence it.node it.there in
    (node.0, record { there = node.1; stands = ap (λ (q : Sequence). slice_get q.members e.place) node.2 ∙ it.stands })

pub same_length : (nodes : List Standing) → length (sequences_of nodes) ≡ length nodes
same_length [] = refl
same_length (x ∷ nodes) = ap suc (same_length nodes)

pub small_members : (nodes : List Standing) (algorithms : ℕ) (parents : List (List Edge)) → IsForest (sequences_of nodes) algorithms parents → AreSmall nodes
small_members nodes algorithms parents forest s i n m there stands =
    let e : Edge = record { sequence = s; place = i } in
    by m (forest.members e m (stands_at nodes e n m (record { there = there; stands = stands })))
  where
    by : (m : Member) → IsIn algorithms (length (sequences_of nodes)) m → IsSmall m
    by (Alg a) h = let few = forest.few_algorithms in omega (arith, few)
    by (Seq t) h = let few = forest.few_sequences in omega (arith, few)

pub sequences_stay : (nodes : List Standing) (s : ℕ) (n k : Standing) → slice_get nodes s ≡ Some n → k.sequence ≡ n.sequence →
    sequences_of (set nodes s k) ≡ sequences_of nodes
sequences_stay [] s n k e same = refl
sequences_stay (x ∷ nodes) zero n k e same =
    let it : x ≡ n = cc in ap (λ q. q ∷ sequences_of nodes) (same ∙ ap (λ (y : Standing). y.sequence) (sym it))
sequences_stay (x ∷ nodes) (suc s) n k e same = ap (λ them. x.sequence ∷ them) (sequences_stay nodes s n k e same)

-- how many nodes aren't decided

open_counts : (was now : Bool) (before after : ℕ) → (was ≡ false → now ≡ false) → after + cond was 1 0 ≡ before + cond now 1 0 →
    after + (if was && not now then 1 else 0) ≤ before
open_counts true true before after stays e = omega arith
open_counts true false before after stays e = omega arith
open_counts false true before after stays e = absurd (false≢true (sym (stays refl)))
open_counts false false before after stays e = omega arith

stays_decided : (d later : Decision) → Settles d later → is_undecided d ≡ false → is_undecided later ≡ false
stays_decided True later h e = ap is_undecided h
stays_decided False later h e = ap is_undecided h
stays_decided Undecided later h e = absurd (false≢true (sym e))

pub open_falls : (nodes : List Standing) (s place : ℕ) (n : Standing) (d : Decision) → slice_get nodes s ≡ Some n →
    count_by is_open (set nodes s (heard n place d)) + (if is_open n && not (is_open (heard n place d)) then 1 else 0) ≤ count_by is_open nodes
open_falls nodes s place n d there =
    let one : count_by is_open (set nodes s (heard n place d)) + cond (is_open (get_or nodes s n)) 1 0 ≡ count_by is_open nodes + cond (is_open (heard n place d)) 1 0 =
    count_one is_open nodes s (heard n place d) n (get_within nodes s n there)
    in
    let known : get_or nodes s n ≡ n = get_is nodes s n n there in
    open_counts (is_open n) (is_open (heard n place d)) (count_by is_open nodes) (count_by is_open (set nodes s (heard n place d)))
    (stays_decided (said n) (said (heard n place d)) (node_settles n place d))
    (subst (λ k. count_by is_open (set nodes s (heard n place d)) + cond (is_open k) 1 0 ≡ count_by is_open nodes + cond (is_open (heard n place d)) 1 0) known one)

-- what members say after one node has heard more

pub record IsDecidedBy (s : ℕ) (n k : Standing) (j : Member) : Type 0 where
  pub is_it : j ≡ Seq s
  pub was_open : is_open n ≡ true
  pub is_decided : is_open k ≡ false

pub told_after : (nodes : List Standing) (outcomes : List (Option Outcome)) (s : ℕ) (n k : Standing) (j : Member) → slice_get nodes s ≡ Some n →
    Settles (said n) (said k) → (told (set nodes s k) outcomes j ≡ told nodes outcomes j) ⊎ IsDecidedBy s n k j
told_after nodes outcomes s n k (Alg a) there settles = inl refl
told_after nodes outcomes s n k (Seq t) there settles = by (cases_eq t s)
  where
    old : t ≡ s → told nodes outcomes (Seq t) ≡ said n
    old e = ap (λ x. told nodes outcomes (Seq x)) e ∙ ap (λ o. option_map_or said o Undecided) there

    new : t ≡ s → told (set nodes s k) outcomes (Seq t) ≡ said k
    new e = ap (λ x. told (set nodes s k) outcomes (Seq x)) e ∙ ap (λ o. option_map_or said o Undecided) (get_same nodes s k (get_within nodes s n there))

    undecided : (is_open n ≡ true) → t ≡ s → (is_open k ≡ true) ⊎ (is_open k ≡ false) →
        (told (set nodes s k) outcomes (Seq t) ≡ told nodes outcomes (Seq t)) ⊎ IsDecidedBy s n k (Seq t)
    undecided was e (inl still) = inl (new e ∙ undecided_is (said k) still ∙ sym (undecided_is (said n) was) ∙ sym (old e))
    undecided was e (inr made) = inr (record { is_it = ap Seq e; was_open = was; is_decided = made })

    decided : (is_open n ≡ false) → said n ≢ Undecided
    decided was same = false≢true (sym was ∙ ap is_undecided same)

    here : t ≡ s → (is_open n ≡ true) ⊎ (is_open n ≡ false) →
        (told (set nodes s k) outcomes (Seq t) ≡ told nodes outcomes (Seq t)) ⊎ IsDecidedBy s n k (Seq t)
    here e (inl was) = undecided was e (cases_Bool (is_open k))
    here e (inr was) = inl (new e ∙ settles-value (said n) (said k) settles (decided was) ∙ sym (old e))

    by : (t ≡ s) ⊎ (t ≡ s → ⊥) → (told (set nodes s k) outcomes (Seq t) ≡ told nodes outcomes (Seq t)) ⊎ IsDecidedBy s n k (Seq t)
    by (inl e) = here e (cases_Bool (is_open n))
    by (inr ne) = inl (ap (λ o. option_map_or said o Undecided) (get_other nodes s t k ne))

-- the states then

-- the place was heard, or it is as before
abbrev WasSaid : List Standing → List (Option Outcome) → List Edge → Edge → Member → Option Decision → Type 0
WasSaid nodes outcomes rest p j state =
    (state ≡ Some (told nodes outcomes j)) ⊎ (IsAmong p rest × (state ≡ Some Undecided))

-- the node at a place before
pub record WasAt (nodes : List Standing) (p : Edge) (k : Standing) (j : Member) (s place : ℕ) (n : Standing) (d : Decision) : Type 0 where
  pub old : Standing
  pub stood : StandsIn nodes p old j
  pub is_new : ((p.sequence ≡ s) × (old ≡ n) × (k ≡ heard n place d)) ⊎ ((p.sequence ≢ s) × (k ≡ old))

was_at : (nodes : List Standing) (p : Edge) (k : Standing) (j : Member) (s place : ℕ) (n : Standing) (d : Decision) → slice_get nodes s ≡ Some n →
    StandsIn (set nodes s (heard n place d)) p k j → WasAt nodes p k j s place n d
was_at nodes p k j s place n d there it = by (cases_eq p.sequence s)
  where
    by : (p.sequence ≡ s) ⊎ (p.sequence ≡ s → ⊥) → WasAt nodes p k j s place n d
    by (inl e) =
        let at : slice_get (set nodes s (heard n place d)) p.sequence ≡ Some (heard n place d) =
        ap (slice_get (set nodes s (heard n place d))) e ∙ get_same nodes s (heard n place d) (get_within nodes s n there)
        in
        let same : k ≡ heard n place d = cc (it.there, at) in
        record {
          old = n;
          stood = record { there = ap (slice_get nodes) e ∙ there; stands = ap (λ (x : Standing). slice_get x.sequence.members p.place) (sym same) ∙ it.stands };
          is_new = inl (e, refl, same);
        }
    by (inr ne) =
        record {
          old = k;
          stood = record { there = sym (get_other nodes s p.sequence (heard n place d) ne) ∙ it.there; stands = it.stands };
          is_new = inr (ne, refl);
        }

among_rest : (p e : Edge) (rest : List Edge) → IsAmong p (e ∷ rest) → (e ≡ p → ⊥) → IsAmong p rest
among_rest p e rest (inl same) ne = absurd (ne same)
among_rest p e rest (inr more) ne = more

same_edge : (p e : Edge) → p.sequence ≡ e.sequence → p.place ≡ e.place → e ≡ p
same_edge p e a b = ap₂ (λ s i. let it : Edge = record { sequence = s; place = i } in it) (sym a) (sym b)

-- what the member of the place said, told or pending
old_said : (nodes : List Standing) (outcomes : List (Option Outcome)) (e p : Edge) (rest : List Edge) (k : Standing) (j : Member) → (e ≡ p → ⊥) →
    (slice_get k.states p.place ≡ Some (told nodes outcomes j)) ⊎ (IsAmong p (e ∷ rest) × (slice_get k.states p.place ≡ Some Undecided)) →
    WasSaid nodes outcomes rest p j (slice_get k.states p.place)
old_said nodes outcomes e p rest k j ne (inl h) = inl h
old_said nodes outcomes e p rest k j ne (inr h) = inr (among_rest p e rest h.0 ne, h.1)

said_or_not : (nodes : List Standing) (outcomes : List (Option Outcome)) (e : Edge) (rest : List Edge) (n : Standing) (m : Member) →
    (slice_get n.states e.place ≡ Some (told nodes outcomes m)) ⊎ (IsAmong e (e ∷ rest) × (slice_get n.states e.place ≡ Some Undecided)) →
    (slice_get n.states e.place ≡ Some Undecided) ⊎ (slice_get n.states e.place ≡ Some (told nodes outcomes m))
said_or_not nodes outcomes e rest n m (inl h) = inr h
said_or_not nodes outcomes e rest n m (inr h) = inl h.1

was_said : (nodes : List Standing) (outcomes : List (Option Outcome)) (e : Edge) (rest : List Edge) (n : Standing) (m : Member) →
    StandsIn nodes e n m → AreSaid nodes outcomes (e ∷ rest) →
    (p : Edge) (k : Standing) (j : Member) → StandsIn (set nodes e.sequence (heard n e.place (told nodes outcomes m))) p k j →
    WasSaid nodes outcomes rest p j (slice_get k.states p.place)
was_said nodes outcomes e rest n m at so_far p k j it =
    by (was_at nodes p k j e.sequence e.place n (told nodes outcomes m) at.there it)
  where
    d : Decision
    d = told nodes outcomes m

    here : (old : Standing) → StandsIn nodes p old j → p.sequence ≡ e.sequence → old ≡ n → k ≡ heard n e.place (told nodes outcomes m) →
        (p.place ≡ e.place) ⊎ (p.place ≡ e.place → ⊥) → WasSaid nodes outcomes rest p j (slice_get k.states p.place)
    here old stood s was is (inl same) =
        let edge : e ≡ p = same_edge p e s same in
        let member : j ≡ m = cc (stood.stands, at.stands, same, was, ap (λ (x : Standing). slice_get x.sequence.members p.place) was, ap (slice_get n.sequence.members) same) in
        let state : slice_get (heard_states n.states e.place (told nodes outcomes m)) e.place ≡ Some (told nodes outcomes m) =
        heard_here n.states e.place (told nodes outcomes m) (said_or_not nodes outcomes e rest n m (so_far e n m at))
        in
        inl (ap (λ (x : Standing). slice_get x.states p.place) is ∙ ap (slice_get (heard_states n.states e.place (told nodes outcomes m))) same ∙ state
        ∙ ap (λ x. Some (told nodes outcomes x)) (sym member))
    here old stood s was is (inr ne) =
        let state : slice_get k.states p.place ≡ slice_get old.states p.place =
        ap (λ (x : Standing). slice_get x.states p.place) is ∙ heard_other n.states e.place p.place (told nodes outcomes m) ne
        ∙ ap (λ (x : Standing). slice_get x.states p.place) (sym was)
        in
        subst (WasSaid nodes outcomes rest p j) (sym state)
        (old_said nodes outcomes e p rest old j (λ same. ne (ap (λ (x : Edge). x.place) (sym same))) (so_far p old j stood))

    by : WasAt nodes p k j e.sequence e.place n (told nodes outcomes m) → WasSaid nodes outcomes rest p j (slice_get k.states p.place)
    by w =
        ⊎_elim
        (λ (h : (p.sequence ≡ e.sequence) × (w.old ≡ n) × (k ≡ heard n e.place (told nodes outcomes m))).
        here w.old w.stood h.0 h.1 h.2 (cases_eq p.place e.place))
        (λ (h : (p.sequence ≢ e.sequence) × (k ≡ w.old)).
        subst (λ (x : Standing). WasSaid nodes outcomes rest p j (slice_get x.states p.place)) (sym h.1)
        (old_said nodes outcomes e p rest w.old j (λ same. h.0 (ap (λ (x : Edge). x.sequence) (sym same))) (so_far p w.old j w.stood)))
        w.is_new

among_front : (p : Edge) (above rest : List Edge) → IsAmong p above → IsAmong p (above ++ rest)
among_front p [] rest h = absurd h
among_front p (x ∷ above) rest (inl e) = inl e
among_front p (x ∷ above) rest (inr h) = inr (among_front p above rest h)

among_back : (p : Edge) (above rest : List Edge) → IsAmong p rest → IsAmong p (above ++ rest)
among_back p [] rest h = h
among_back p (x ∷ above) rest h = inr (among_back p above rest h)

pub said_after : (nodes : List Standing) (outcomes : List (Option Outcome)) (e : Edge) (above rest : List Edge) (n : Standing) (m : Member) →
    StandsIn nodes e n m → AreSaid nodes outcomes (e ∷ rest) →
    ((p : Edge) (k : Standing) → StandsIn nodes p k (Seq e.sequence) → IsAmong p above) →
    AreSaid (set nodes e.sequence (heard n e.place (told nodes outcomes m))) outcomes
    (if is_open n && not (is_open (heard n e.place (told nodes outcomes m))) then above ++ rest else rest)
said_after nodes outcomes e above rest n m at so_far covers p k j it =
    by (was_said nodes outcomes e rest n m at so_far p k j it)
    (told_after nodes outcomes e.sequence n (heard n e.place (told nodes outcomes m)) j at.there (node_settles n e.place (told nodes outcomes m)))
  where
    after : List Standing
    after = set nodes e.sequence (heard n e.place (told nodes outcomes m))

    pending : List Edge
    pending = if is_open n && not (is_open (heard n e.place (told nodes outcomes m))) then above ++ rest else rest

    kept : IsAmong p rest → IsAmong p (if is_open n && not (is_open (heard n e.place (told nodes outcomes m))) then above ++ rest else rest)
    kept h =
        elim (is_open n && not (is_open (heard n e.place (told nodes outcomes m)))) as (λ b. IsAmong p (if b then above ++ rest else rest)) [
          | true ↦ among_back p above rest h
          | false ↦ h
        ]

    stood : (n' : Standing) × StandsIn nodes p n' j
    stood = let w = was_at nodes p k j e.sequence e.place n (told nodes outcomes m) at.there it in (w.old, w.stood)

    new : IsDecidedBy e.sequence n (heard n e.place (told nodes outcomes m)) j →
        IsAmong p (if is_open n && not (is_open (heard n e.place (told nodes outcomes m))) then above ++ rest else rest)
    new made =
        let among : IsAmong p above = covers p stood.0 (subst (StandsIn nodes p stood.0) made.is_it stood.1) in
        rw (made.was_open, made.is_decided) (among_front p above rest among)

    unsaid : IsDecidedBy e.sequence n (heard n e.place (told nodes outcomes m)) j → told nodes outcomes j ≡ Undecided
    unsaid made =
        ap (told nodes outcomes) made.is_it ∙ ap (λ o. option_map_or said o Undecided) at.there ∙ undecided_is (said n) made.was_open

    by : WasSaid nodes outcomes rest p j (slice_get k.states p.place) →
        (told (set nodes e.sequence (heard n e.place (told nodes outcomes m))) outcomes j ≡ told nodes outcomes j)
        ⊎ IsDecidedBy e.sequence n (heard n e.place (told nodes outcomes m)) j →
        (slice_get k.states p.place ≡ Some (told (set nodes e.sequence (heard n e.place (told nodes outcomes m))) outcomes j))
        ⊎ (IsAmong p (if is_open n && not (is_open (heard n e.place (told nodes outcomes m))) then above ++ rest else rest)
        × (slice_get k.states p.place ≡ Some Undecided))
    by (inl state) (inl same) = inl (state ∙ ap Some (sym same))
    by (inr h) (inl same) = inr (kept h.0, h.1)
    by (inl state) (inr made) = inr (new made, state ∙ ap Some (unsaid made))
    by (inr h) (inr made) = inr (new made, h.1)

-- the marks then

enters_more : (n : Standing) (place i : ℕ) (d : Decision) (m : Member) → i < length (entered n.sequence (heard_states n.states place d)) →
    EntersAt n i m → EntersAt (heard n place d) i m
enters_more n place i d m lt e =
    entered-at n.sequence (heard_states n.states place d) i lt
    ∙ sym (entered-at n.sequence n.states i (slice_get_within (entered n.sequence n.states) i m e)) ∙ e

enters_less : (n : Standing) (place i : ℕ) (d : Decision) (m : Member) → i < length (entered n.sequence n.states) →
    EntersAt (heard n place d) i m → EntersAt n i m
enters_less n place i d m lt e =
    entered-at n.sequence n.states i lt
    ∙ sym (entered-at n.sequence (heard_states n.states place d) i (slice_get_within (entered n.sequence (heard_states n.states place d)) i m e)) ∙ e

pub marks_after : (nodes : List Standing) (s place : ℕ) (n : Standing) (d : Decision) (top : ℕ) (before after : Member → Bool) →
    slice_get nodes s ≡ Some n → AreMarks nodes top before →
    Reaches (set nodes s (heard n place d)) before after →
    (before (Seq s) ≡ true → AreMarkedFrom (set nodes s (heard n place d)) after s (length (entered n.sequence n.states))) →
    AreMarks (set nodes s (heard n place d)) top after
marks_after nodes s place n d top before after there marks reaches further = record { closed = closed; reasons = reasons }
  where
    new_at : slice_get (set nodes s (heard n place d)) s ≡ Some (heard n place d)
    new_at = get_same nodes s (heard n place d) (get_within nodes s n there)

    low : (i : ℕ) (m : Member) → before (Seq s) ≡ true → EntersAt (heard n place d) i m → i < length (entered n.sequence n.states) → after m ≡ true
    low i m h e less = reaches.more m (marks.closed s h i n m (omega arith) there (enters_less n place i d m less e))

    own : (i : ℕ) (k : Standing) (m : Member) → before (Seq s) ≡ true → slice_get (set nodes s (heard n place d)) s ≡ Some k → EntersAt k i m →
        (i < length (entered n.sequence n.states)) ⊎ (length (entered n.sequence n.states) ≤ i) → after m ≡ true
    own i k m h at e (inr far) = further h i k m far at e
    own i k m h at e (inl less) =
        let same : k ≡ heard n place d = cc (at, new_at) in
        low i m h (ap (λ (x : Standing). slice_get (entered x.sequence x.states) i) (sym same) ∙ e) less

    old_closed : (t i : ℕ) (k : Standing) (m : Member) → before (Seq t) ≡ true → slice_get (set nodes s (heard n place d)) t ≡ Some k → EntersAt k i m →
        (t ≡ s) ⊎ (t ≡ s → ⊥) → after m ≡ true
    old_closed t i k m h at e (inl same) =
        own i k m (ap (λ x. before (Seq x)) (sym same) ∙ h) (ap (slice_get (set nodes s (heard n place d))) (sym same) ∙ at) e
        (cases_lt i (length (entered n.sequence n.states)))
    old_closed t i k m h at e (inr ne) =
        reaches.more m (marks.closed t h i k m (omega arith) (sym (get_other nodes s t (heard n place d) ne) ∙ at) e)

    new_closed : (t : ℕ) → (before (Seq t) ≡ true) ⊎ AreMarkedFrom (set nodes s (heard n place d)) after t 0 →
        AreMarkedFrom (set nodes s (heard n place d)) after t 0
    new_closed t (inl h) = λ i k m zero_le at e. old_closed t i k m h at e (cases_eq t s)
    new_closed t (inr all) = all

    closed : (t : ℕ) → after (Seq t) ≡ true → AreMarkedFrom (set nodes s (heard n place d)) after t 0
    closed t h = new_closed t (reaches.new_closed t h)

    moved : (m : Member) (it : IsEntered nodes before m) → (it.s ≡ s) ⊎ (it.s ≡ s → ⊥) → IsEntered (set nodes s (heard n place d)) after m
    moved m it (inl same) =
        let node : it.node ≡ n = cc (it.there, there, same, ap (slice_get nodes) same) in
        let enters : EntersAt n it.i m = ap (λ (x : Standing). slice_get (entered x.sequence x.states) it.i) (sym node) ∙ it.enters in
        let within = slice_get_within (entered n.sequence n.states) it.i m enters in
        let grows = node_grows n place d in
        record {
          s = it.s;
          i = it.i;
          node = heard n place d;
          is_marked = reaches.more (Seq it.s) it.is_marked;
          there = ap (slice_get (set nodes s (heard n place d))) same ∙ new_at;
          enters = enters_more n place it.i d m (omega arith) enters;
        }
    moved m it (inr ne) =
        record {
          s = it.s;
          i = it.i;
          node = it.node;
          is_marked = reaches.more (Seq it.s) it.is_marked;
          there = get_other nodes s it.s (heard n place d) ne ∙ it.there;
          enters = it.enters;
        }

    oldest : (m : Member) → (m ≡ Seq top) ⊎ IsEntered nodes before m → (m ≡ Seq top) ⊎ IsEntered (set nodes s (heard n place d)) after m
    oldest m (inl e) = inl e
    oldest m (inr it) = inr (moved m it (cases_eq it.s s))

    old_reason : (m : Member) → (before m ≡ true) ⊎ IsEntered (set nodes s (heard n place d)) after m →
        (m ≡ Seq top) ⊎ IsEntered (set nodes s (heard n place d)) after m
    old_reason m (inl h) = oldest m (marks.reasons m h)
    old_reason m (inr it) = inr it

    reasons : (m : Member) → after m ≡ true → (m ≡ Seq top) ⊎ IsEntered (set nodes s (heard n place d)) after m
    reasons m h = old_reason m (reaches.new_reasons m h)

filled_after : (nodes : List Standing) (s t place : ℕ) (n x : Standing) (d : Decision) → slice_get nodes s ≡ Some n →
    ((u : ℕ) (k : Standing) → slice_get nodes u ≡ Some k → length k.states ≡ length k.sequence.members) →
    slice_get (set nodes s (heard n place d)) t ≡ Some x → length x.states ≡ length x.sequence.members
filled_after nodes s t place n x d there filled at = by (cases_eq t s)
  where
    by : (t ≡ s) ⊎ (t ≡ s → ⊥) → length x.states ≡ length x.sequence.members
    by (inl e) =
        let new : slice_get (set nodes s (heard n place d)) t ≡ Some (heard n place d) =
        ap (slice_get (set nodes s (heard n place d))) e ∙ get_same nodes s (heard n place d) (get_within nodes s n there)
        in
        let same : x ≡ heard n place d = cc (at, new) in
        ap (λ (y : Standing). length y.states) same ∙ heard_length n.states place d ∙ filled s n there
        ∙ sym (ap (λ (y : Standing). length y.sequence.members) same)
    by (inr ne) = filled t x (sym (get_other nodes s t (heard n place d) ne) ∙ at)

-- one place is told

pub record HasTold (nodes : List Standing) (outcomes : List (Option Outcome)) (e : Edge) (decided : Bool) (after : List Standing) (marks more : Member → Bool) : Type 0 where
  pub same : sequences_of after ≡ sequences_of nodes
  pub tells : Tells nodes outcomes e decided after marks more
  pub falls : count_by is_open after + (if decided then 1 else 0) ≤ count_by is_open nodes

pub has_told : (nodes after : List Standing) (outcomes : List (Option Outcome)) (e : Edge) (n : Standing) (m : Member) (decided was now : Bool) (count : ℕ)
    (marks more : Member → Bool) → StandsIn nodes e n m → after ≡ set nodes e.sequence (heard n e.place (told nodes outcomes m)) →
    decided ≡ (was && not now) → was ≡ is_open n → ((k : Standing) → slice_get after e.sequence ≡ Some k → now ≡ is_open k) →
    count ≡ length (entered n.sequence n.states) → Reaches after marks more → (marks (Seq e.sequence) ≡ true → AreMarkedFrom after more e.sequence count) →
    HasTold nodes outcomes e decided after marks more
has_told nodes after outcomes e n m decided was now count marks more at is decided_is was_is now_is count_is reaches further =
    record {
      same = ap sequences_of is ∙ sequences_stay nodes e.sequence n k at.there refl;
      tells = λ top above rest covers way.
          record {
            filled = λ t x there. filled_after nodes e.sequence t e.place n x (told nodes outcomes m) at.there way.filled (ap (λ them. slice_get them t) (sym is) ∙ there);
            said =
                subst (λ b. AreSaid after outcomes (if b then above ++ rest else rest)) (sym decision)
                (subst (λ them. AreSaid them outcomes (if is_open n && not (is_open k) then above ++ rest else rest)) (sym is)
                (said_after nodes outcomes e above rest n m at way.said covers));
            marks_are =
                subst (λ them. AreMarks them top more) (sym is)
                (marks_after nodes e.sequence e.place n (told nodes outcomes m) top marks more at.there way.marks_are
                (subst (λ them. Reaches them marks more) is reaches)
                (λ h. subst (AreMarkedFrom (set nodes e.sequence k) more e.sequence) count_is
                (subst (λ them. AreMarkedFrom them more e.sequence count) is (further h))));
          };
      falls =
          subst (λ b. count_by is_open after + (if b then 1 else 0) ≤ count_by is_open nodes) (sym decision)
          (subst (λ them. count_by is_open them + (if is_open n && not (is_open k) then 1 else 0) ≤ count_by is_open nodes) (sym is)
          (open_falls nodes e.sequence e.place n (told nodes outcomes m) at.there));
    }
  where
    k : Standing
    k = heard n e.place (told nodes outcomes m)

    decision : decided ≡ (is_open n && not (is_open (heard n e.place (told nodes outcomes m))))
    decision =
        decided_is ∙ ap (λ b. b && not now) was_is
        ∙ ap (λ b. is_open n && not b)
        (now_is (heard n e.place (told nodes outcomes m))
        (ap (λ them. slice_get them e.sequence) is ∙ get_same nodes e.sequence (heard n e.place (told nodes outcomes m)) (get_within nodes e.sequence n at.there)))
