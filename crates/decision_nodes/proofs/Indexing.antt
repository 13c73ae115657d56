-- Lists of places: one more in one of them.
use Rattle.std.proofs.Common.{◌≡◌, ℕ, zero, suc, ◌+◌, ◌<◌, ◌⊎◌, inl, inr, ⊎_elim, List, [], ◌∷◌, ◌++◌, Some, length, get_or, set, replicate, take, slice_get, refl, sym, ap, ap₂, ◌∙◌, subst, length-set, get_or-set_same, get_or-set_other, arith}
use Rattle.std.proofs.lemmas.Bool.{cases_eq}
use Rattle.hive_model.specs.Many.{Many}
use Rattle.hive_model.specs.Sequence.{Sequence}
use Rattle.hive_model.specs.declared.sequence.Member.{Member}
use Rattle.hive_model.specs.declared.sequence.Member.TheVariants.{Alg, Seq}
use Rattle.decision_nodes.specs.Founding.{AddsMember, AddsMembers, IsPlaceIn}
use Rattle.decision_nodes.specs.Index.{IsAmong, IsIndex, StandsAt, items_of, places_at, places_of}
use Rattle.decision_nodes.specs.declared.edge.Edge.{Edge}

pub added_list : (lists : List (Many Edge)) (number : ℕ) (list pushed : Many Edge) (e : Edge) → list ≡ get_or lists number list →
    number < length (items_of lists) → pushed.items ≡ list.items ++ e ∷ [] →
    items_of (set lists number pushed) ≡ set (items_of lists) number (get_or (items_of lists) number [] ++ e ∷ [])
added_list [] number list pushed e read lt more = absurd (omega arith)
added_list (x ∷ lists) zero list pushed e read lt more =
    ap (λ them. them ∷ items_of lists) (more ∙ ap (λ (it : Many Edge). it.items ++ e ∷ []) read)
added_list (x ∷ lists) (suc number) list pushed e read lt more =
    ap (λ them. x.items ∷ them) (added_list lists number list pushed e read (omega arith) more)

-- one place more, in lists

among_left : (p : Edge) (xs ys : List Edge) → IsAmong p xs → IsAmong p (xs ++ ys)
among_left p [] ys h = absurd h
among_left p (x ∷ xs) ys (inl e) = inl e
among_left p (x ∷ xs) ys (inr h) = inr (among_left p xs ys h)

among_last : (e : Edge) (xs : List Edge) → IsAmong e (xs ++ e ∷ [])
among_last e [] = inl refl
among_last e (x ∷ xs) = inr (among_last e xs)

among_push : (p e : Edge) (xs : List Edge) → IsAmong p (xs ++ e ∷ []) → IsAmong p xs ⊎ (p ≡ e)
among_push p e [] (inl same) = inr (sym same)
among_push p e [] (inr no_more) = absurd no_more
among_push p e (x ∷ xs) (inl same) = inl (inl same)
among_push p e (x ∷ xs) (inr h) = ⊎_elim (λ (old : IsAmong p xs). inl (inr old)) (λ (new : p ≡ e). inr new) (among_push p e xs h)

list_more : (lists : List (List Edge)) (n : ℕ) (e : Edge) (b : ℕ) (p : Edge) → n < length lists → IsAmong p (places_at lists b) →
    IsAmong p (places_at (set lists n (places_at lists n ++ e ∷ [])) b)
list_more lists n e b p lt h = by (cases_eq b n)
  where
    by : (b ≡ n) ⊎ (b ≡ n → ⊥) → IsAmong p (places_at (set lists n (places_at lists n ++ e ∷ [])) b)
    by (inl same) =
        subst (λ k. IsAmong p (places_at (set lists n (places_at lists n ++ e ∷ [])) k)) (sym same)
        (subst (IsAmong p) (sym (get_or-set_same lists n (places_at lists n ++ e ∷ []) [] lt))
        (among_left p (places_at lists n) (e ∷ []) (subst (λ k. IsAmong p (places_at lists k)) same h)))
    by (inr ne) = subst (IsAmong p) (sym (get_or-set_other lists n b (places_at lists n ++ e ∷ []) [] ne)) h

list_added : (lists : List (List Edge)) (n : ℕ) (e : Edge) → n < length lists → IsAmong e (places_at (set lists n (places_at lists n ++ e ∷ [])) n)
list_added lists n e lt = subst (IsAmong e) (sym (get_or-set_same lists n (places_at lists n ++ e ∷ []) [] lt)) (among_last e (places_at lists n))

list_only : (lists : List (List Edge)) (n : ℕ) (e : Edge) (b : ℕ) (p : Edge) → n < length lists →
    IsAmong p (places_at (set lists n (places_at lists n ++ e ∷ [])) b) → IsAmong p (places_at lists b) ⊎ ((p ≡ e) × (b ≡ n))
list_only lists n e b p lt h = by (cases_eq b n)
  where
    here : b ≡ n → IsAmong p (places_at lists n) ⊎ (p ≡ e) → IsAmong p (places_at lists b) ⊎ ((p ≡ e) × (b ≡ n))
    here same (inl old) = inl (subst (λ k. IsAmong p (places_at lists k)) (sym same) old)
    here same (inr new) = inr (new, same)

    by : (b ≡ n) ⊎ (b ≡ n → ⊥) → IsAmong p (places_at lists b) ⊎ ((p ≡ e) × (b ≡ n))
    by (inl same) =
        here same (among_push p e (places_at lists n)
        (subst (IsAmong p) (get_or-set_same lists n (places_at lists n ++ e ∷ []) [] lt)
        (subst (λ k. IsAmong p (places_at (set lists n (places_at lists n ++ e ∷ [])) k)) same h)))
    by (inr ne) = inl (subst (IsAmong p) (get_or-set_other lists n b (places_at lists n ++ e ∷ []) [] ne) h)

pub adds_leaf : (leaves parents more : List (List Edge)) (n : ℕ) (e : Edge) (m : Member) → m ≡ Alg n → n < length leaves →
    more ≡ set leaves n (places_at leaves n ++ e ∷ []) → AddsMember leaves parents m e more parents
adds_leaf leaves parents more n e m is lt new =
    subst (λ them. AddsMember leaves parents m e them parents) (sym new)
    (subst (λ k. AddsMember leaves parents k e (set leaves n (places_at leaves n ++ e ∷ [])) parents) (sym is)
    (record { leaves_stay = length-set leaves n (places_at leaves n ++ e ∷ []); parents_stay = refl; more = keeps; added = list_added leaves n e lt; only = only }))
  where
    keeps : (p : Edge) (k : Member) → IsAmong p (places_of leaves parents k) → IsAmong p (places_of (set leaves n (places_at leaves n ++ e ∷ [])) parents k)
    keeps p (Alg b) h = list_more leaves n e b p lt h
    keeps p (Seq b) h = h

    only : (p : Edge) (k : Member) → IsAmong p (places_of (set leaves n (places_at leaves n ++ e ∷ [])) parents k) →
        IsAmong p (places_of leaves parents k) ⊎ ((p ≡ e) × (k ≡ Alg n))
    only p (Alg b) h =
        ⊎_elim (λ (old : IsAmong p (places_at leaves b)). inl old) (λ (it : (p ≡ e) × (b ≡ n)). inr (it.0, ap Alg it.1)) (list_only leaves n e b p lt h)
    only p (Seq b) h = inl h

pub adds_parent : (leaves parents more : List (List Edge)) (n : ℕ) (e : Edge) (m : Member) → m ≡ Seq n → n < length parents →
    more ≡ set parents n (places_at parents n ++ e ∷ []) → AddsMember leaves parents m e leaves more
adds_parent leaves parents more n e m is lt new =
    subst (λ them. AddsMember leaves parents m e leaves them) (sym new)
    (subst (λ k. AddsMember leaves parents k e leaves (set parents n (places_at parents n ++ e ∷ []))) (sym is)
    (record { leaves_stay = refl; parents_stay = length-set parents n (places_at parents n ++ e ∷ []); more = keeps; added = list_added parents n e lt; only = only }))
  where
    keeps : (p : Edge) (k : Member) → IsAmong p (places_of leaves parents k) → IsAmong p (places_of leaves (set parents n (places_at parents n ++ e ∷ [])) k)
    keeps p (Seq b) h = list_more parents n e b p lt h
    keeps p (Alg b) h = h

    only : (p : Edge) (k : Member) → IsAmong p (places_of leaves (set parents n (places_at parents n ++ e ∷ [])) k) →
        IsAmong p (places_of leaves parents k) ⊎ ((p ≡ e) × (k ≡ Seq n))
    only p (Seq b) h =
        ⊎_elim (λ (old : IsAmong p (places_at parents b)). inl old) (λ (it : (p ≡ e) × (b ≡ n)). inr (it.0, ap Seq it.1)) (list_only parents n e b p lt h)
    only p (Alg b) h = inl h

-- the members of one sequence

front_at : {X : Type 0} (xs : List X) (i k : ℕ) (x : X) → slice_get (take i xs) k ≡ Some x → slice_get xs k ≡ Some x
front_at xs zero k x e = cc
front_at [] (suc i) k x e = cc
front_at (y ∷ xs) (suc i) zero x e = e
front_at (y ∷ xs) (suc i) (suc k) x e = front_at xs i k x e

front_more : {X : Type 0} (xs : List X) (i k : ℕ) (x : X) → slice_get (take i xs) k ≡ Some x → slice_get (take (suc i) xs) k ≡ Some x
front_more xs zero k x e = cc
front_more [] (suc i) k x e = cc
front_more (y ∷ xs) (suc i) zero x e = e
front_more (y ∷ xs) (suc i) (suc k) x e = front_more xs i k x e

front_last : {X : Type 0} (xs : List X) (i : ℕ) (x : X) → slice_get xs i ≡ Some x → slice_get (take (suc i) xs) i ≡ Some x
front_last [] i x e = cc
front_last (y ∷ xs) zero x e = e
front_last (y ∷ xs) (suc i) x e = front_last xs i x e

front_split : {X : Type 0} (xs : List X) (i k : ℕ) (x : X) → slice_get (take (suc i) xs) k ≡ Some x →
    (slice_get (take i xs) k ≡ Some x) ⊎ ((k ≡ i) × (slice_get xs i ≡ Some x))
front_split [] i k x e = cc
front_split (y ∷ xs) zero zero x e = inr (refl, e)
front_split (y ∷ xs) zero (suc k) x e = cc
front_split (y ∷ xs) (suc i) zero x e = inl e
front_split (y ∷ xs) (suc i) (suc k) x e =
    ⊎_elim (λ (old : slice_get (take i xs) k ≡ Some x). inl old) (λ (it : (k ≡ i) × (slice_get xs i ≡ Some x)). inr (ap suc it.0, it.1)) (front_split xs i k x e)

pub adds_none : (leaves parents : List (List Edge)) (sequence : ℕ) → AddsMembers leaves parents sequence [] leaves parents
adds_none leaves parents sequence =
    record { leaves_stay = refl; parents_stay = refl; more = λ p k h. h; added = λ p k h. cc (h.1); only = λ p k h. inl h }

pub adds_more : (leaves parents mid_leaves mid_parents more_leaves more_parents : List (List Edge)) (sequence i : ℕ) (members : List Member) (m : Member) (e : Edge) →
    AddsMembers leaves parents sequence (take i members) mid_leaves mid_parents → slice_get members i ≡ Some m → e ≡ record { sequence = sequence; place = i } →
    AddsMember mid_leaves mid_parents m e more_leaves more_parents → AddsMembers leaves parents sequence (take (i + 1) members) more_leaves more_parents
adds_more leaves parents mid_leaves mid_parents more_leaves more_parents sequence i members m e first at is last =
    subst (λ j. AddsMembers leaves parents sequence (take j members) more_leaves more_parents) (next i)
    (record {
      leaves_stay = last.leaves_stay ∙ first.leaves_stay;
      parents_stay = last.parents_stay ∙ first.parents_stay;
      more = λ p k h. last.more p k (first.more p k h);
      added = added;
      only = only;
    })
  where
    next : (n : ℕ) → suc n ≡ n + 1
    next n = omega arith

    place : (p : Edge) (k : Member) → p.sequence ≡ sequence → (slice_get (take i members) p.place ≡ Some k) ⊎ ((p.place ≡ i) × (slice_get members i ≡ Some k)) →
        IsAmong p (places_of more_leaves more_parents k)
    place p k s (inl old) = last.more p k (first.added p k (s, old))
    place p k s (inr new) =
        let member : k ≡ m = cc (new.1, at) in
        let edge : p ≡ e = ap₂ (λ a b. let it : Edge = record { sequence = a; place = b } in it) s new.0 ∙ sym is in
        subst (λ x. IsAmong p (places_of more_leaves more_parents x)) (sym member) (subst (λ x. IsAmong x (places_of more_leaves more_parents m)) (sym edge) last.added)

    added : (p : Edge) (k : Member) → IsPlaceIn sequence (take (suc i) members) p k → IsAmong p (places_of more_leaves more_parents k)
    added p k h = place p k h.0 (front_split members i p.place k h.1)

    own : (p : Edge) (k : Member) → (p ≡ e) × (k ≡ m) → IsPlaceIn sequence (take (suc i) members) p k
    own p k it = (
      ap (λ (x : Edge). x.sequence) (it.0 ∙ is),
      ap (λ (x : Edge). slice_get (take (suc i) members) x.place) (it.0 ∙ is) ∙ front_last members i m at ∙ ap Some (sym it.1),
    )

    old : (p : Edge) (k : Member) → IsAmong p (places_of leaves parents k) ⊎ IsPlaceIn sequence (take i members) p k →
        IsAmong p (places_of leaves parents k) ⊎ IsPlaceIn sequence (take (suc i) members) p k
    old p k (inl h) = inl h
    old p k (inr h) = inr (h.0, front_more members i p.place k h.1)

    new : (p : Edge) (k : Member) → IsAmong p (places_of mid_leaves mid_parents k) ⊎ ((p ≡ e) × (k ≡ m)) →
        IsAmong p (places_of leaves parents k) ⊎ IsPlaceIn sequence (take (suc i) members) p k
    new p k (inl h) = old p k (first.only p k h)
    new p k (inr it) = inr (own p k it)

    only : (p : Edge) (k : Member) → IsAmong p (places_of more_leaves more_parents k) →
        IsAmong p (places_of leaves parents k) ⊎ IsPlaceIn sequence (take (suc i) members) p k
    only p k h = new p k (last.only p k h)

-- the sequences one after another

pub index_none : (algorithms sequences : ℕ) → IsIndex [] (replicate algorithms []) (replicate sequences [])
index_none algorithms sequences = record { covers = λ e m at. cc (at.there); right = λ e m h. absurd (by e m h) }
  where
    nothing : (count i : ℕ) (e : Edge) → IsAmong e (places_at (replicate count []) i) → ⊥
    nothing zero i e h = h
    nothing (suc count) zero e h = h
    nothing (suc count) (suc i) e h = nothing count i e h

    by : (e : Edge) (m : Member) → IsAmong e (places_of (replicate algorithms []) (replicate sequences []) m) → ⊥
    by e (Alg a) h = nothing algorithms a e h
    by e (Seq s) h = nothing sequences s e h

pub index_more : (sequences : List Sequence) (s : ℕ) (q : Sequence) (members : List Member) (leaves parents more_leaves more_parents : List (List Edge)) →
    slice_get sequences s ≡ Some q → members ≡ q.members → IsIndex (take s sequences) leaves parents →
    AddsMembers leaves parents s members more_leaves more_parents → IsIndex (take (s + 1) sequences) more_leaves more_parents
index_more sequences s q members leaves parents more_leaves more_parents at are first last =
    subst (λ j. IsIndex (take j sequences) more_leaves more_parents) (next s) (record { covers = covers; right = right })
  where
    next : (n : ℕ) → suc n ≡ n + 1
    next n = omega arith

    by : (e : Edge) (m : Member) (it : StandsAt (take (suc s) sequences) e m) →
        (slice_get (take s sequences) e.sequence ≡ Some it.node) ⊎ ((e.sequence ≡ s) × (slice_get sequences s ≡ Some it.node)) →
        IsAmong e (places_of more_leaves more_parents m)
    by e m it (inl old) = last.more e m (first.covers e m (record { node = it.node; there = old; stands = it.stands }))
    by e m it (inr new) =
        let node : it.node ≡ q = cc (new.1, at) in
        last.added e m (new.0, ap (λ them. slice_get them e.place) (are ∙ ap (λ (x : Sequence). x.members) (sym node)) ∙ it.stands)

    covers : (e : Edge) (m : Member) → StandsAt (take (suc s) sequences) e m → IsAmong e (places_of more_leaves more_parents m)
    covers e m it = by e m it (front_split sequences s e.sequence it.node it.there)

    back : (e : Edge) (m : Member) → IsAmong e (places_of leaves parents m) ⊎ IsPlaceIn s members e m → StandsAt (take (suc s) sequences) e m
    back e m (inl h) =
        let it = first.right e m h in record { node = it.node; there = front_more sequences s e.sequence it.node it.there; stands = it.stands }
    back e m (inr h) =
        record {
          node = q;
          there = ap (slice_get (take (suc s) sequences)) h.0 ∙ front_last sequences s q at;
          stands = ap (λ them. slice_get them e.place) (sym are) ∙ h.1;
        }

    right : (e : Edge) (m : Member) → IsAmong e (places_of more_leaves more_parents m) → StandsAt (take (suc s) sequences) e m
    right e m h = back e m (last.only e m h)
