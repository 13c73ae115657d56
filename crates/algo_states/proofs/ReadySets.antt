-- The set of those that can run, where what is known of one algorithm changes.
use Rattle.std.proofs.Common.{◌≡◌, ◌≢◌, ⊎_elim, ℕ, zero, suc, ◌+◌, ◌-◌, ◌<◌, ◌≤◌, nat_eq, Bool, true, false, is_some, ◌&&◌, List, [], ◌∷◌, length, get_or, set, take, refl, ap, sym, ◌∙◌, cond, arith, Option, None, get_or-set_other}
use Rattle.std.proofs.lemmas.Bool.{eq-eqb}
use Rattle.std.proofs.lemmas.Bool.Decides.{eqb_tells}
use Rattle.std.proofs.lemmas.Grind.{get_or_default_zero, get_or-set_at}
use Rattle.hive_model.specs.Results.{outcome_at}
use Rattle.hive_model.specs.declared.outcome.Outcome.{Outcome}
use Rattle.number_set.specs.Numbers.{has}
use Rattle.number_set.specs.declared.NumberSet.{NumberSet}
use Rattle.algo_states.specs.Table.{IsReadySet, is_waiting, mentions, waits}
use Rattle.algo_states.proofs.Mentions.{bit, count-more, count-take}

pub outcome-read : (outcomes : List (Option Outcome)) (n : ℕ) → outcome_at outcomes n ≡ get_or outcomes n None
outcome-read [] n = refl
outcome-read (o ∷ outcomes) zero = refl
outcome-read (o ∷ outcomes) (suc n) = outcome-read outcomes n

-- what is known of an algorithm, in these parts
abbrev can : Bool → Bool → Option Outcome → ℕ → Bool
can reached scheduled outcome missing = reached && waits scheduled (is_some outcome) missing

pub waiting : (reached scheduled : List Bool) (outcomes : List (Option Outcome)) (missing : List ℕ) (n : ℕ) →
    is_waiting reached scheduled outcomes missing n ≡ can (get_or reached n false) (get_or scheduled n false) (get_or outcomes n None) (get_or missing n 0)
unfolding is_waiting
waiting reached scheduled outcomes missing n =
    ap (λ (o : Option Outcome). can (get_or reached n false) (get_or scheduled n false) o (get_or missing n 0)) (outcome-read outcomes n)

-- the lists are written at one number, or not at all
pub ready-changed : (reached after-reached scheduled after-scheduled : List Bool) (outcomes after-outcomes : List (Option Outcome)) (missing after-missing : List ℕ)
    (ready after : NumberSet) (a : ℕ) (is_in : Bool) → IsReadySet reached scheduled outcomes missing ready →
    ((n : ℕ) → has after n ≡ cond (nat_eq n a) is_in (has ready n)) →
    is_in ≡ can (get_or after-reached a false) (get_or after-scheduled a false) (get_or after-outcomes a None) (get_or after-missing a 0) →
    ((n : ℕ) → n ≢ a → get_or after-reached n false ≡ get_or reached n false) → ((n : ℕ) → n ≢ a → get_or after-scheduled n false ≡ get_or scheduled n false) →
    ((n : ℕ) → n ≢ a → get_or after-outcomes n None ≡ get_or outcomes n None) → ((n : ℕ) → n ≢ a → get_or after-missing n 0 ≡ get_or missing n 0) →
    IsReadySet after-reached after-scheduled after-outcomes after-missing after
ready-changed reached after-reached scheduled after-scheduled outcomes after-outcomes missing after-missing ready after a is_in h put here r s o m n =
    ⊎_elim
    (λ (e : (nat_eq n a ≡ true) × (n ≡ a)).
    put n ∙ ap (λ (b : Bool). cond b is_in (has ready n)) e.0 ∙ here
    ∙ ap (λ (k : ℕ). can (get_or after-reached k false) (get_or after-scheduled k false) (get_or after-outcomes k None) (get_or after-missing k 0)) (sym e.1)
    ∙ sym (waiting after-reached after-scheduled after-outcomes after-missing n))
    (λ (e : (nat_eq n a ≡ false) × (n ≢ a)).
    put n ∙ ap (λ (b : Bool). cond b is_in (has ready n)) e.0 ∙ h n ∙ waiting reached scheduled outcomes missing n
    ∙ ap (λ (b : Bool). can b (get_or scheduled n false) (get_or outcomes n None) (get_or missing n 0)) (sym (r n e.1))
    ∙ ap (λ (b : Bool). can (get_or after-reached n false) b (get_or outcomes n None) (get_or missing n 0)) (sym (s n e.1))
    ∙ ap (λ (x : Option Outcome). can (get_or after-reached n false) (get_or after-scheduled n false) x (get_or missing n 0)) (sym (o n e.1))
    ∙ ap (can (get_or after-reached n false) (get_or after-scheduled n false) (get_or after-outcomes n None)) (sym (m n e.1))
    ∙ sym (waiting after-reached after-scheduled after-outcomes after-missing n))
    (eqb_tells n a)

-- one input less is missing of the algorithm at a place of the list

pub missing-there : (consumers missing first : List ℕ) (i c : ℕ) → i < length consumers → c ≡ get_or consumers i 0 →
    ((a : ℕ) → get_or missing a 0 + mentions a (take i consumers) ≡ get_or first a 0) → ((a : ℕ) → mentions a consumers ≤ get_or first a 0) → 0 < get_or missing c 0
missing-there consumers missing first i c lt is counts there =
    let more = count-more (nat_eq c) consumers i 0 lt in
    let one : bit (nat_eq c (get_or consumers i 0)) ≡ 1 = ap bit (eq-eqb c (get_or consumers i 0) is) in
    let part = count-take (nat_eq c) (i + 1) consumers in
    let now = counts c in
    let all = there c in
    omega arith

pub within-missing : (missing : List ℕ) (c : ℕ) → 0 < get_or missing c 0 → c < length missing
within-missing [] c some = absurd (omega arith)
within-missing (m ∷ missing) zero some = omega arith
within-missing (m ∷ missing) (suc c) some = let rest = within-missing missing c some in omega arith

pub counted-down : (consumers missing first : List ℕ) (i c v : ℕ) → i < length consumers → c ≡ get_or consumers i 0 → c < length missing → v ≡ get_or missing c v →
    0 < get_or missing c 0 → ((a : ℕ) → get_or missing a 0 + mentions a (take i consumers) ≡ get_or first a 0) → (a : ℕ) →
    get_or (set missing c (v - 1)) a 0 + mentions a (take (i + 1) consumers) ≡ get_or first a 0
counted-down consumers missing first i c v lt is within at some counts a =
    let more = count-more (nat_eq a) consumers i 0 lt in
    let now = counts a in
    let value : v ≡ get_or missing c 0 = at ∙ get_or_default_zero missing c v within in
    ⊎_elim
    (λ (e : (nat_eq a c ≡ true) × (a ≡ c)).
    let w : get_or (set missing c (v - 1)) a 0 ≡ v - 1 = get_or-set_at missing c a (v - 1) 0 e.1 within in
    let n : bit (nat_eq a (get_or consumers i 0)) ≡ 1 = ap bit (ap (nat_eq a) (sym is) ∙ e.0) in
    let l : get_or missing a 0 ≡ get_or missing c 0 = ap (λ (k : ℕ). get_or missing k 0) e.1 in
    omega arith)
    (λ (e : (nat_eq a c ≡ false) × (a ≢ c)).
    let w : get_or (set missing c (v - 1)) a 0 ≡ get_or missing a 0 = get_or-set_other missing c a (v - 1) 0 e.1 in
    let n : bit (nat_eq a (get_or consumers i 0)) ≡ 0 = ap bit (ap (nat_eq a) (sym is) ∙ e.0) in
    omega arith)
    (eqb_tells a c)

pub within-list : {X : Type 0} (xs : List X) (missing first : List ℕ) (c : ℕ) → length xs ≡ length first → length missing ≡ length first → c < length missing →
    c < length xs
within-list xs missing first c same now lt = omega arith

pub taken-value : (missing : List ℕ) (c v : ℕ) → c < length missing → v ≡ get_or missing c v → 0 < get_or missing c 0 → 1 ≤ v
taken-value missing c v within at some = let value : v ≡ get_or missing c 0 = at ∙ get_or_default_zero missing c v within in omega arith

pub value-read : (missing : List ℕ) (c v : ℕ) → c < length missing → v ≡ get_or missing c v → v ≡ get_or missing c 0
value-read missing c v within at = at ∙ get_or_default_zero missing c v within
