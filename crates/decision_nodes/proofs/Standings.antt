-- Nodes with what their members say: fresh ones, and one member more.
use Rattle.std.proofs.Common.{◌≡◌, ◌≢◌, ℕ, zero, suc, ◌<◌, ◌≤◌, true, false, ◌⊎◌, inl, inr, if◌then◌else◌, List, [], ◌∷◌, Some, length, get_or, set, replicate, slice_get, refl, sym, ap, ◌∙◌, subst, arith}
use Rattle.std.proofs.lemmas.Bool.{cases_Bool, cases_lt, false≢true}
use Rattle.std.proofs.lemmas.Option.{slice_get-get_or}
use Rattle.event_laws.proofs.Reaching.{entered-stays}
use Rattle.event_laws.proofs.Settling.{AllSettle, Settles, node-settles, settles-same}
use Rattle.hive_model.specs.Reached.{entered}
use Rattle.std.proofs.lemmas.List.{get_or_default, get_or_past, length-replicate, length-set}
use Rattle.hive_model.specs.Decision.{is_undecided}
use Rattle.hive_model.specs.Sequence.{Sequence}
use Rattle.hive_model.specs.declared.decision.Decision.{Decision}
use Rattle.hive_model.specs.declared.decision.Decision.TheVariants.{True, False, Undecided}
use Rattle.decision_nodes.specs.Counting.{IsCounted}
use Rattle.decision_nodes.specs.Standing.{Standing, heard, heard_states, said}
use Rattle.decision_nodes.specs.declared.deciding.Counts.{Counts}

pub fresh_counted : (q : Sequence) (states : List Decision) (n members : ℕ) (counts : Counts) → n ≡ length q.members →
    states ≡ replicate n Undecided → members ≡ n →
    ((it : Sequence) → IsCounted it (replicate members Undecided) counts) → (length states ≡ length q.members) × IsCounted q states counts
fresh_counted q states n members counts long are same counted = (
  ap length are ∙ length-replicate n Undecided ∙ long,
  subst (λ them. IsCounted q them counts) (ap (λ k. replicate k Undecided) same ∙ sym are) (counted q),
)

set_same : {X : Type 0} (xs : List X) (i : ℕ) (x : X) → slice_get xs i ≡ Some x → set xs i x ≡ xs
set_same [] i x e = refl
set_same (y ∷ xs) zero x e = ap (λ z. z ∷ xs) cc
set_same (y ∷ xs) (suc i) x e = ap (λ zs. y ∷ zs) (set_same xs i x e)

pub get_within : {X : Type 0} (xs : List X) (i : ℕ) (x : X) → slice_get xs i ≡ Some x → i < length xs
get_within [] i x e = cc
get_within (y ∷ xs) zero x e = omega arith
get_within (y ∷ xs) (suc i) x e = let later = get_within xs i x e in omega (arith, later)

pub get_is : {X : Type 0} (xs : List X) (i : ℕ) (x d : X) → slice_get xs i ≡ Some x → get_or xs i d ≡ x
get_is [] i x d e = cc
get_is (y ∷ xs) zero x d e = cc
get_is (y ∷ xs) (suc i) x d e = get_is xs i x d e

pub undecided_is : (x : Decision) → is_undecided x ≡ true → x ≡ Undecided
undecided_is True e = absurd (false≢true e)
undecided_is False e = absurd (false≢true e)
undecided_is Undecided e = refl

-- a member is heard

-- what changes nothing: nothing is said, or something was said before
pub heard_already : (states : List Decision) (place : ℕ) (decision was : Decision) → place < length states → was ≡ get_or states place was →
    (is_undecided decision ≡ true) ⊎ (is_undecided was ≡ false) → heard_states states place decision ≡ states
heard_already states place decision was lt read h = by (cases_Bool (is_undecided (get_or states place True))) h
  where
    known : get_or states place True ≡ was
    known = get_or_default states place True was lt ∙ sym read

    by : (is_undecided (get_or states place True) ≡ true) ⊎ (is_undecided (get_or states place True) ≡ false) →
        (is_undecided decision ≡ true) ⊎ (is_undecided was ≡ false) → heard_states states place decision ≡ states
    by (inr some) k = rw some refl
    by (inl none) (inl e) =
        rw none (set_same states place decision
        (slice_get-get_or states place True lt ∙ ap Some (undecided_is (get_or states place True) none ∙ sym (undecided_is decision e))))
    by (inl none) (inr e) = absurd (false≢true (sym e ∙ ap is_undecided (sym known) ∙ none))

pub heard_new : (states : List Decision) (place : ℕ) (decision was : Decision) → place < length states → was ≡ get_or states place was →
    is_undecided was ≡ true → heard_states states place decision ≡ set states place decision
heard_new states place decision was lt read e =
    let none : is_undecided (get_or states place True) ≡ true = ap is_undecided (get_or_default states place True was lt ∙ sym read) ∙ e in
    rw none refl

pub heard_length : (states : List Decision) (place : ℕ) (decision : Decision) → length (heard_states states place decision) ≡ length states
heard_length states place decision =
    elim (is_undecided (get_or states place True)) as (λ b. length (if b then set states place decision else states) ≡ length states) [
      | true ↦ length-set states place decision
      | false ↦ refl
    ]

pub get_other : {X : Type 0} (xs : List X) (i j : ℕ) (x : X) → j ≢ i → slice_get (set xs i x) j ≡ slice_get xs j
get_other [] i j x ne = refl
get_other (y ∷ xs) zero zero x ne = absurd (ne refl)
get_other (y ∷ xs) zero (suc j) x ne = refl
get_other (y ∷ xs) (suc i) zero x ne = refl
get_other (y ∷ xs) (suc i) (suc j) x ne = get_other xs i j x (λ e. ne (ap suc e))

pub get_same : {X : Type 0} (xs : List X) (i : ℕ) (x : X) → i < length xs → slice_get (set xs i x) i ≡ Some x
get_same [] i x lt = absurd (omega arith)
get_same (y ∷ xs) zero x lt = refl
get_same (y ∷ xs) (suc i) x lt = get_same xs i x (omega arith)

-- what it was told elsewhere stays
pub heard_other : (states : List Decision) (place other : ℕ) (decision : Decision) → other ≢ place →
    slice_get (heard_states states place decision) other ≡ slice_get states other
heard_other states place other decision ne =
    elim (is_undecided (get_or states place True))
    as (λ b. slice_get (if b then set states place decision else states) other ≡ slice_get states other) [
      | true ↦ get_other states place other decision ne
      | false ↦ refl
    ]

-- where it said nothing yet, or the same, it has said so
pub heard_here : (states : List Decision) (place : ℕ) (decision : Decision) →
    (slice_get states place ≡ Some Undecided) ⊎ (slice_get states place ≡ Some decision) →
    slice_get (heard_states states place decision) place ≡ Some decision
heard_here states place decision (inl e) =
    let none : is_undecided (get_or states place True) ≡ true = ap is_undecided (get_is states place Undecided True e) in
    rw none (get_same states place decision (get_within states place Undecided e))
heard_here states place decision (inr e) = by (cases_Bool (is_undecided (get_or states place True)))
  where
    by : (is_undecided (get_or states place True) ≡ true) ⊎ (is_undecided (get_or states place True) ≡ false) →
        slice_get (heard_states states place decision) place ≡ Some decision
    by (inl none) = rw none (get_same states place decision (get_within states place decision e))
    by (inr some) = rw some e

-- what is decided stays

all_settle_same : (states : List Decision) → AllSettle states states
all_settle_same [] = tt
all_settle_same (d ∷ states) = (settles-same d d refl, all_settle_same states)

settled_set : (states : List Decision) (place : ℕ) (decision : Decision) → slice_get states place ≡ Some Undecided →
    AllSettle states (set states place decision)
settled_set [] place decision e = tt
settled_set (d ∷ states) zero decision e = let none : d ≡ Undecided = cc in (subst (λ x. Settles x decision) (sym none) tt, all_settle_same states)
settled_set (d ∷ states) (suc place) decision e = (settles-same d d refl, settled_set states place decision e)

pub heard_settles : (states : List Decision) (place : ℕ) (decision : Decision) → AllSettle states (heard_states states place decision)
heard_settles states place decision = by (cases_Bool (is_undecided (get_or states place True)))
  where
    within : (is_undecided (get_or states place True) ≡ true) → (place < length states) ⊎ (length states ≤ place) → place < length states
    within none (inl lt) = lt
    within none (inr far) = absurd (false≢true (sym (ap is_undecided (get_or_past states place True far)) ∙ none))

    by : (is_undecided (get_or states place True) ≡ true) ⊎ (is_undecided (get_or states place True) ≡ false) →
        AllSettle states (heard_states states place decision)
    by (inl none) =
        rw none (settled_set states place decision
        (slice_get-get_or states place True (within none (cases_lt place (length states)))
        ∙ ap Some (undecided_is (get_or states place True) none)))
    by (inr some) = rw some (all_settle_same states)

pub node_settles : (n : Standing) (place : ℕ) (decision : Decision) → Settles (said n) (said (heard n place decision))
node_settles n place decision = node-settles n.sequence n.states (heard_states n.states place decision) (heard_settles n.states place decision)

pub node_grows : (n : Standing) (place : ℕ) (decision : Decision) →
    length (entered n.sequence n.states) ≤ length (entered n.sequence (heard_states n.states place decision))
node_grows n place decision = entered-stays n.sequence n.states (heard_states n.states place decision) (heard_settles n.states place decision)
