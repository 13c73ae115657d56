-- The table after it was told something of one algorithm.
use Rattle.std.proofs.Common.{◌≡◌, ℕ, ◌+◌, ◌<◌, ◌≤◌, nat_eq, Bool, true, false, not, ◌&&◌, is_some, List, [], ◌∷◌, length, get_or, set, refl, ap, sym, ◌∙◌, cond, arith, true≢false, zero, suc, Option, Some, None, length-set, get_or-set_other}
use Rattle.std.specs.Prelude.{MatchOption}
use Rattle.std.specs.List.{count_by, list_all}
use Rattle.std.proofs.lemmas.List.{get_or-set_same}
use Rattle.std.proofs.lemmas.Option.{get_or_from_slice_get, slice_get-get_or}
use Rattle.hive_model.specs.Results.{outcome_at}
use Rattle.hive_model.specs.declared.limits.TheConstants.{MOST_ALGORITHMS}
use Rattle.hive_model.specs.declared.outcome.Outcome.{Outcome}
use Rattle.number_set.specs.Numbers.{has}
use Rattle.number_set.specs.declared.NumberSet.{NumberSet}
use Rattle.algo_states.specs.States.{IsNextReady, holds, is_data_ready, state_by, state_of}
use Rattle.algo_states.specs.Table.{AreMissing, IsReadySet, IsTable, is_missing, is_waiting, waits}
use Rattle.algo_states.proofs.Mentions.{bit, count-cons, count-none}
use Rattle.algo_states.proofs.ReadySets.{outcome-read, ready-changed, waiting}

pub table-told : (needs consumers : List (List ℕ)) (missing : List ℕ) (reached after-reached scheduled after-scheduled : List Bool)
    (outcomes after-outcomes : List (Option Outcome)) (arrived : List Bool) (ready after : NumberSet) →
    IsTable needs consumers missing reached scheduled outcomes arrived ready → length after-reached ≡ length reached → length after-scheduled ≡ length scheduled →
    length after-outcomes ≡ length outcomes → IsReadySet after-reached after-scheduled after-outcomes missing after →
    IsTable needs consumers missing after-reached after-scheduled after-outcomes arrived after
table-told needs consumers missing reached after-reached scheduled after-scheduled outcomes after-outcomes arrived ready after h r s o is = record {
  sizes = record {
    few = h.sizes.few;
    indexed = h.sizes.indexed;
    counted = h.sizes.counted;
    reach = r ∙ h.sizes.reach;
    schedule = s ∙ h.sizes.schedule;
    outcome = o ∙ h.sizes.outcome;
  };
  index = h.index;
  counts = h.counts;
  set = is;
}

-- none is missing where all have arrived
none-missing : (arrived : List Bool) (needs : List ℕ) → nat_eq (count_by (is_missing arrived) needs) 0 ≡ list_all (holds arrived) needs
none-missing arrived [] = ap (λ (n : ℕ). nat_eq n 0) (count-none (is_missing arrived))
none-missing arrived (h ∷ needs) =
    ap (λ (n : ℕ). nat_eq n 0) (count-cons (is_missing arrived) h needs)
    ∙ first (holds arrived h) (count_by (is_missing arrived) needs) ∙ ap (λ (b : Bool). holds arrived h && b) (none-missing arrived needs)
  where
    first : (b : Bool) (n : ℕ) → nat_eq (bit (not b) + n) 0 ≡ (b && nat_eq n 0)
    first true n = ap (λ (m : ℕ). nat_eq m 0) (zero-plus n)
      where
        zero-plus : (n : ℕ) → 0 + n ≡ n
        zero-plus n = omega arith
    first false n = grind arith

pub complete : (needs : List (List ℕ)) (arrived : List Bool) (missing : List ℕ) (n : ℕ) → AreMissing needs arrived missing →
    nat_eq (get_or missing n 0) 0 ≡ list_all (holds arrived) (get_or needs n [])
complete needs arrived missing n counts = ap (λ (m : ℕ). nat_eq m 0) (counts n) ∙ none-missing arrived (get_or needs n [])

-- the set has exactly the algorithms that can run
pub set-is : (needs consumers : List (List ℕ)) (missing : List ℕ) (reached scheduled : List Bool) (outcomes : List (Option Outcome)) (arrived : List Bool)
    (ready : NumberSet) (n : ℕ) → IsTable needs consumers missing reached scheduled outcomes arrived ready →
    has ready n ≡ is_data_ready (record { needs = needs; reached = reached; scheduled = scheduled; outcomes = outcomes; arrived = arrived }) n
unfolding is_data_ready
set-is needs consumers missing reached scheduled outcomes arrived ready n h =
    h.set n ∙ waiting reached scheduled outcomes missing n
    ∙ ap (λ (o : Option Outcome). holds reached n && (not (holds scheduled n) && (not (is_some o) && nat_eq (get_or missing n 0) 0))) (sym (outcome-read outcomes n))
    ∙ ap (λ (b : Bool). holds reached n && (not (holds scheduled n) && (not (is_some (outcome_at outcomes n)) && b))) (complete needs arrived missing n h.counts)

-- a value that was read is the value with any other default
pub read-as : {X : Type 0} (xs : List X) (n : ℕ) (v d : X) → n < length xs → v ≡ get_or xs n v → v ≡ get_or xs n d
read-as xs n v d lt at = at ∙ sym (get_or_from_slice_get xs n (get_or xs n v) d (slice_get-get_or xs n v lt))

abbrev can : Bool → Bool → Option Outcome → ℕ → Bool
can reached scheduled outcome missing = reached && waits scheduled (is_some outcome) missing

read-can : (reached scheduled : List Bool) (outcomes : List (Option Outcome)) (missing : List ℕ) (n count : ℕ) (r s : Bool) (o : Option Outcome) (k : ℕ) → n < count →
    length outcomes ≡ count → length missing ≡ count → r ≡ get_or reached n false → s ≡ get_or scheduled n false → o ≡ get_or outcomes n o → k ≡ get_or missing n k →
    can r s o k ≡ can (get_or reached n false) (get_or scheduled n false) (get_or outcomes n None) (get_or missing n 0)
read-can reached scheduled outcomes missing n count r s o k lt os ms rr ss oo kk =
    let in-outcomes : n < length outcomes = omega arith in
    let in-missing : n < length missing = omega arith in
    ap (λ (x : Bool). can x s o k) rr ∙ ap (λ (x : Bool). can (get_or reached n false) x o k) ss
    ∙ ap (λ (x : Option Outcome). can (get_or reached n false) (get_or scheduled n false) x k) (read-as outcomes n o None in-outcomes oo)
    ∙ ap (can (get_or reached n false) (get_or scheduled n false) (get_or outcomes n None)) (read-as missing n k 0 in-missing kk)

-- the next one of the set is the next one that can run

ready-within : (reached scheduled : List Bool) (outcomes : List (Option Outcome)) (missing : List ℕ) (n : ℕ) →
    is_waiting reached scheduled outcomes missing n ≡ true → n < length reached
ready-within reached scheduled outcomes missing n is =
    in-list reached n (and-first (get_or reached n false) _ (sym (waiting reached scheduled outcomes missing n) ∙ is))
  where
    and-first : (a b : Bool) → (a && b) ≡ true → a ≡ true
    and-first true b e = refl
    and-first false b e = e

    in-list : (xs : List Bool) (n : ℕ) → get_or xs n false ≡ true → n < length xs
    in-list [] n e = absurd (true≢false (sym e))
    in-list (x ∷ xs) zero e = omega arith
    in-list (x ∷ xs) (suc n) e = let rest = in-list xs n e in omega arith

pub next-told : (needs consumers : List (List ℕ)) (missing : List ℕ) (reached scheduled : List Bool) (outcomes : List (Option Outcome)) (arrived : List Bool)
    (ready : NumberSet) (h : IsTable needs consumers missing reached scheduled outcomes arrived ready) (from : ℕ) (it : Option ℕ) →
    MatchOption it ((n : ℕ) → from ≤ n → has ready n ≡ false)
    (λ a. (from ≤ a) × (a < MOST_ALGORITHMS) × (has ready a ≡ true) × ((n : ℕ) → from ≤ n → n < a → has ready n ≡ false)) →
    IsNextReady (record { needs = needs; reached = reached; scheduled = scheduled; outcomes = outcomes; arrived = arrived }) from it
next-told needs consumers missing reached scheduled outcomes arrived ready h from None none =
    λ n le. sym (set-is needs consumers missing reached scheduled outcomes arrived ready n h) ∙ none n le
next-told needs consumers missing reached scheduled outcomes arrived ready h from (Some a) some =
    let within = ready-within reached scheduled outcomes missing a (sym (h.set a) ∙ some.2) in (
      some.0,
      omega (arith, within, h.sizes.reach),
      sym (set-is needs consumers missing reached scheduled outcomes arrived ready a h) ∙ some.2,
      λ n le lt. sym (set-is needs consumers missing reached scheduled outcomes arrived ready n h) ∙ some.3 n le lt,
    )

pub state-told : (needs consumers : List (List ℕ)) (missing : List ℕ) (reached scheduled : List Bool) (outcomes : List (Option Outcome)) (arrived : List Bool)
    (ready : NumberSet) (h : IsTable needs consumers missing reached scheduled outcomes arrived ready) (n : ℕ) → n < length needs →
    (r s : Bool) (o : Option Outcome) (k : ℕ) → r ≡ get_or reached n r → s ≡ get_or scheduled n s → o ≡ get_or outcomes n o → k ≡ get_or missing n k →
    state_by o s r (nat_eq k 0) ≡ state_of (record { needs = needs; reached = reached; scheduled = scheduled; outcomes = outcomes; arrived = arrived }) n
unfolding state_of
state-told needs consumers missing reached scheduled outcomes arrived ready h n lt r s o k rr ss oo kk =
    let in-reached : n < length reached = omega (arith, h.sizes.reach) in
    let in-scheduled : n < length scheduled = omega (arith, h.sizes.schedule) in
    let in-outcomes : n < length outcomes = omega (arith, h.sizes.outcome) in
    let in-missing : n < length missing = omega (arith, h.sizes.counted) in
    ap (λ (x : Option Outcome). state_by x s r (nat_eq k 0)) (read-as outcomes n o None in-outcomes oo ∙ sym (outcome-read outcomes n))
    ∙ ap (λ (x : Bool). state_by (outcome_at outcomes n) x r (nat_eq k 0)) (read-as scheduled n s false in-scheduled ss)
    ∙ ap (λ (x : Bool). state_by (outcome_at outcomes n) (holds scheduled n) x (nat_eq k 0)) (read-as reached n r false in-reached rr)
    ∙ ap (λ (x : ℕ). state_by (outcome_at outcomes n) (holds scheduled n) (holds reached n) (nat_eq x 0)) (read-as missing n k 0 in-missing kk)
    ∙ ap (state_by (outcome_at outcomes n) (holds scheduled n) (holds reached n)) (complete needs arrived missing n h.counts)

module _ (needs consumers : List (List ℕ)) (missing : List ℕ) (reached scheduled : List Bool) (outcomes : List (Option Outcome)) (arrived : List Bool)
    (ready after : NumberSet) (n : ℕ) (h : IsTable needs consumers missing reached scheduled outcomes arrived ready) (lt : n < length needs) where
  pub reach-told : (s : Bool) (o : Option Outcome) (k : ℕ) (is_in : Bool) → s ≡ get_or scheduled n s → o ≡ get_or outcomes n o → k ≡ get_or missing n k →
      is_in ≡ can true s o k → ((x : ℕ) → has after x ≡ cond (nat_eq x n) is_in (has ready x)) →
      IsTable needs consumers missing (set reached n true) scheduled outcomes arrived after
  reach-told s o k is_in ss oo kk is put =
      let in-reached : n < length reached = omega (arith, h.sizes.reach) in
      let in-scheduled : n < length scheduled = omega (arith, h.sizes.schedule) in
      table-told needs consumers missing reached (set reached n true) scheduled scheduled outcomes outcomes arrived ready after h (length-set reached n true) refl refl
      (ready-changed reached (set reached n true) scheduled scheduled outcomes outcomes missing missing ready after n is_in h.set put
      (is ∙ read-can (set reached n true) scheduled outcomes missing n (length needs) true s o k lt h.sizes.outcome h.sizes.counted
      (sym (get_or-set_same reached n true false in-reached)) (read-as scheduled n s false in-scheduled ss) oo kk)
      (λ x other. get_or-set_other reached n x true false other) (λ x other. refl) (λ x other. refl) (λ x other. refl))

  pub unschedule-told : (r : Bool) (o : Option Outcome) (k : ℕ) (is_in : Bool) → r ≡ get_or reached n r → o ≡ get_or outcomes n o → k ≡ get_or missing n k →
      is_in ≡ can r false o k → ((x : ℕ) → has after x ≡ cond (nat_eq x n) is_in (has ready x)) →
      IsTable needs consumers missing reached (set scheduled n false) outcomes arrived after
  unschedule-told r o k is_in rr oo kk is put =
      let in-reached : n < length reached = omega (arith, h.sizes.reach) in
      let in-scheduled : n < length scheduled = omega (arith, h.sizes.schedule) in
      table-told needs consumers missing reached reached scheduled (set scheduled n false) outcomes outcomes arrived ready after h refl
      (length-set scheduled n false) refl
      (ready-changed reached reached scheduled (set scheduled n false) outcomes outcomes missing missing ready after n is_in h.set put
      (is ∙ read-can reached (set scheduled n false) outcomes missing n (length needs) r false o k lt h.sizes.outcome h.sizes.counted
      (read-as reached n r false in-reached rr) (sym (get_or-set_same scheduled n false false in-scheduled)) oo kk)
      (λ x other. refl) (λ x other. get_or-set_other scheduled n x false false other) (λ x other. refl) (λ x other. refl))

  pub schedule-told : ((x : ℕ) → has after x ≡ cond (nat_eq x n) false (has ready x)) →
      IsTable needs consumers missing reached (set scheduled n true) outcomes arrived after
  schedule-told put =
      let in-scheduled : n < length scheduled = omega (arith, h.sizes.schedule) in
      table-told needs consumers missing reached reached scheduled (set scheduled n true) outcomes outcomes arrived ready after h refl
      (length-set scheduled n true) refl
      (ready-changed reached reached scheduled (set scheduled n true) outcomes outcomes missing missing ready after n false h.set put
      (sym (ap (λ (b : Bool). can (get_or reached n false) b (get_or outcomes n None) (get_or missing n 0)) (get_or-set_same scheduled n true false in-scheduled)
      ∙ never (get_or reached n false)))
      (λ x other. refl) (λ x other. get_or-set_other scheduled n x true false other) (λ x other. refl) (λ x other. refl))
    where
      never : (b : Bool) → (b && false) ≡ false
      never true = refl
      never false = refl

  pub finish-told : (outcome : Outcome) → ((x : ℕ) → has after x ≡ cond (nat_eq x n) false (has ready x)) →
      IsTable needs consumers missing reached (set scheduled n false) (set outcomes n (Some outcome)) arrived after
  finish-told outcome put =
      let in-scheduled : n < length scheduled = omega (arith, h.sizes.schedule) in
      let in-outcomes : n < length outcomes = omega (arith, h.sizes.outcome) in
      table-told needs consumers missing reached reached scheduled (set scheduled n false) outcomes (set outcomes n (Some outcome)) arrived ready after h refl
      (length-set scheduled n false) (length-set outcomes n (Some outcome))
      (ready-changed reached reached scheduled (set scheduled n false) outcomes (set outcomes n (Some outcome)) missing missing ready after n false h.set put
      (sym (ap (λ (o : Option Outcome). can (get_or reached n false) (get_or (set scheduled n false) n false) o (get_or missing n 0))
      (get_or-set_same outcomes n (Some outcome) None in-outcomes)
      ∙ never (get_or reached n false) (get_or (set scheduled n false) n false)))
      (λ x other. refl) (λ x other. get_or-set_other scheduled n x false false other) (λ x other. get_or-set_other outcomes n x (Some outcome) None other)
      (λ x other. refl))
    where
      never : (b s : Bool) → (b && (not s && false)) ≡ false
      never true true = refl
      never true false = refl
      never false s = refl
