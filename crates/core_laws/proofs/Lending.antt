-- Lending stays exclusive: a step that takes claims away lends no more, and a claim takes what was free.
use Rattle.std.proofs.Common.{◌≡◌, ◌≢◌, ◌⊎◌, inl, inr, ℕ, ◌+◌, ◌*◌, ◌<◌, ◌≤◌, nat_eq, nat_lt, Bool, true, false, not, ◌&&◌, is_some, List, length, count_by, replicate, set, slice_get, get_or, Option, Some, None, refl, sym, ap, ◌∙◌, arith}
use Rattle.std.proofs.lemmas.Bool.{and_parts, cases_eq, eqb-true, not-true}
use Rattle.std.proofs.lemmas.Bool.Decides.{nat_tests}
use Rattle.std.proofs.lemmas.List.Sums.{sum_by-set}
use Rattle.std.proofs.lemmas.List.Folds.{sum_by-replicate}
use Rattle.std.proofs.lemmas.Option.{get_or_from_slice_get, slice_get_within}
use Rattle.std.specs.List.{enumerate_from, list_any, sum_by}
use Rattle.std.specs.Option.{option_eq, option_flatten, option_map_or}
use Rattle.core_laws.proofs.Counting.{all-among, count-any, count-le, count-none, one-more, one_if}
use Rattle.core_laws.proofs.Places.{emptied, flat-none, flat-set_other, flat-set_same}
use Rattle.core_laws.proofs.Steps.{after-some}
use Rattle.hive_model.specs.Algorithm.{Algorithm}
use Rattle.hive_model.specs.EventRecord.{EventRecord}
use Rattle.hive_model.specs.Job.{Job}
use Rattle.hive_model.specs.Lending.{IsExclusive, has_clone, has_unit, has_units, is_free, names_resource, units_in, units_of, units_out}
use Rattle.hive_model.specs.Machine.{Busy, Machine, Outstanding, begun, claim_at, opening}
use Rattle.hive_model.specs.Step.{busy_at, claimed, with_slot}

-- a sum over the slots, where one slot changes
pub changed : (f : Option Busy → ℕ) (m : Machine) (slot : ℕ) (old : Busy) (new : Option Busy) →
    busy_at m slot ≡ Some old →
    sum_by f (set m.slots slot new) + f (Some old) ≡ sum_by f m.slots + f new
changed f m slot old new there =
    let it = after-some (λ (o : Option Busy). o) (slice_get m.slots slot) old there in
    let within = slice_get_within m.slots slot it.value it.was in
    let was : get_or m.slots slot None ≡ Some old = get_or_from_slice_get m.slots slot it.value None it.was
    ∙ it.gives in
    ap (λ (o : Option Busy). sum_by f (set m.slots slot new) + f o) (sym was)
    ∙ sum_by-set f m.slots slot new None within

pub filled : (f : Option Busy → ℕ) (m : Machine) (slot : ℕ) (new : Option Busy) →
    slice_get m.slots slot ≡ Some None →
    sum_by f (set m.slots slot new) + f None ≡ sum_by f m.slots + f new
filled f m slot new there =
    let within = slice_get_within m.slots slot None there in
    let was : get_or m.slots slot None ≡ None = get_or_from_slice_get m.slots slot None None there in
    ap (λ (o : Option Busy). sum_by f (set m.slots slot new) + f o) (sym was)
    ∙ sum_by-set f m.slots slot new None within

-- a slot with fewer claims

abbrev HasFewer : Job → Option Busy → Busy → Type 0
HasFewer job new old =
    ((number k : ℕ) → one_if (has_clone number k new) ≤ one_if (has_clone number k (Some old)))
    × ((r : ℕ) → units_in r job new ≤ units_in r job (Some old))

pub fewer-exclusive : (job : Job) (m : Machine) (slot : ℕ) (old : Busy) (new : Option Busy) →
    busy_at m slot ≡ Some old →
    IsExclusive job m → HasFewer job new old → IsExclusive job (with_slot m slot new)
fewer-exclusive job m slot old new there ex fewer = record {
  clones = λ number k. omega (
    arith,
    changed (λ s. one_if
        (has_clone number k s)) m slot old new there,
    ex.clones number k,
    fewer.0 number k,
  );
  units = λ r. omega (arith, changed (units_in r job) m slot old new there, ex.units r, fewer.1 r);
}

pub none-fewer : (job : Job) (old : Busy) → HasFewer job None old
none-fewer job old = (λ number k. omega arith, λ r. omega arith)

-- each claim is as before, or gone
abbrev pub KeepsClaims : Busy → Busy → Type 0
KeepsClaims new old = (n : ℕ) → (claim_at new n ≡ None) ⊎ (claim_at new n ≡ claim_at old n)

pub kept-fewer : (job : Job) (new old : Busy) → KeepsClaims new old → HasFewer job (Some new) old
kept-fewer job new old kept = (
  λ number k. clones number k (claim_at new number) (claim_at old number) (kept number),
  λ r. count-le (has_unit r new) (has_unit r old) (enumerate_from 0 job.algorithms)
      (λ it. units r it.1 (claim_at new it.0) (claim_at old it.0) (kept it.0)),
)
  where
    same : (f : Option Outstanding → Bool) (c d : Option Outstanding) → c ≡ d → one_if (f c) ≤ one_if (f d)
    same f c d e = omega (arith, ap (λ o. one_if (f o)) e)

    clones : (number k : ℕ) (c d : Option Outstanding) → (c ≡ None) ⊎ (c ≡ d) →
        one_if (option_map_or (λ (it : Outstanding). option_eq nat_eq it.clone (Some k)) c false)
        ≤ one_if (option_map_or (λ (it : Outstanding). option_eq nat_eq it.clone (Some k)) d false)
    clones number k c d (inl none) =
        omega (
          arith,
          ap (λ o. one_if (option_map_or
              (λ (it : Outstanding). option_eq nat_eq it.clone (Some k)) o false)) none,
        )
    clones number k c d (inr e) = same (λ o. option_map_or
        (λ (it : Outstanding). option_eq nat_eq it.clone (Some k)) o false) c d e

    units : (r : ℕ) (a : Algorithm) (c d : Option Outstanding) → (c ≡ None) ⊎ (c ≡ d) →
        one_if (is_some c && names_resource r a) ≤ one_if (is_some d && names_resource r a)
    units r a c d (inl none) = omega (arith, ap (λ o. one_if (is_some o && names_resource r a)) none)
    units r a c d (inr e) = same (λ o. is_some o && names_resource r a) c d e

pub emptied-keeps : (b new : Busy) (number : ℕ) → new.claims ≡ set b.claims number None → KeepsClaims new b
emptied-keeps b new number e n =
    elim (cases_eq n number) [
      | inl eq ↦ inl (ap (λ (cs : List (Option Outstanding)). option_flatten (slice_get cs n)) e
          ∙ emptied b.claims number n (sym eq))
      | inr other ↦ inr (ap (λ (cs : List (Option Outstanding)). option_flatten (slice_get cs n)) e
          ∙ flat-set_other b.claims number n None other)
    ]

-- an event that begins has no claim

pub begun-exclusive : (job : Job) (m : Machine) (slot place : ℕ) (event : EventRecord) →
    slice_get m.slots slot ≡ Some None →
    IsExclusive job m → IsExclusive job (with_slot m slot (Some (begun job place event)))
unfolding begun
begun-exclusive job m slot place event there ex = record {
  clones = λ number k.
      omega (
        arith,
        filled (λ s. one_if (has_clone number k s)) m slot
            (Some (begun job place event)) there,
        ex.clones number k,
        ap (λ (o : Option Outstanding). one_if (option_map_or
            (λ (it : Outstanding). option_eq nat_eq it.clone (Some k)) o false))
            (flat-none {X = Outstanding} (length job.algorithms) number),
      );
  units = λ r.
      omega (
        arith,
        filled (units_in r job) m slot (Some (begun job place event)) there,
        ex.units r,
        count-none (has_unit r (begun job place event)) (enumerate_from 0 job.algorithms)
            (λ it. ap (λ (o : Option Outstanding). one_if (is_some o && names_resource r it.1))
            (flat-none {X = Outstanding} (length job.algorithms) it.0)),
      );
}

nobody : (f : Option Busy → ℕ) (n : ℕ) → f None ≡ 0 → sum_by f (replicate n None) ≡ 0
nobody f n e = sum_by-replicate f n None ∙ (ap (λ (k : ℕ). n * k) e ∙ omega arith)

pub opening-exclusive : (job : Job) (slots : ℕ) → IsExclusive job (opening slots)
opening-exclusive job slots = record {
  clones = λ number k. omega (arith, nobody (λ s. one_if (has_clone number k s)) slots refl);
  units = λ r. omega (arith, nobody (units_in r job) slots refl);
}

-- a claim

no_claim : (o : Option Outstanding) → not (is_some o) ≡ true → o ≡ None
no_claim None e = refl
no_claim (Some c) e = absurd (cc)

same_number : (c : Option ℕ) (k : ℕ) → option_eq nat_eq c (Some k) ≡ true → c ≡ Some k
same_number None k e = absurd (cc)
same_number (Some n) k e = ap Some (eqb-true n k e)

-- how a claim changes what the event has

claimed-at : (b : Busy) (number : ℕ) (own : Outstanding) → number < length b.claims →
    claim_at (record b { claims = set b.claims number (Some own) }) number ≡ Some own
claimed-at b number own within = flat-set_same b.claims number (Some own) within

claimed-other : (b : Busy) (number n : ℕ) (own : Outstanding) → n ≢ number →
    claim_at (record b { claims = set b.claims number (Some own) }) n ≡ claim_at b n
claimed-other b number n own other = flat-set_other b.claims number n (Some own) other

abbrev of_clone : ℕ → Option Outstanding → ℕ
of_clone k o = one_if (option_map_or (λ (it : Outstanding). option_eq nat_eq it.clone (Some k)) o false)

one-clone : (job : Job) (m : Machine) (slot : ℕ) (b : Busy) (number : ℕ) (a : Algorithm) (own : Outstanding) →
    busy_at m slot ≡ Some b → number < length b.claims → is_free m.slots number a own.clone ≡ true →
    ((n k : ℕ) → count_by (has_clone n k) m.slots ≤ 1) → (n k : ℕ) →
    count_by (has_clone n k) (set m.slots slot
    (Some (record b { claims = set b.claims number (Some own) }))) ≤ 1
one-clone job m slot b number a own there within free before n k =
    let new : Busy = record b { claims = set b.claims number (Some own) } in
    let sums = changed (λ s. one_if (has_clone n k s)) m slot b (Some new) there in
    elim (cases_eq n number) [
      | inl eq ↦
          let mine : of_clone k (claim_at new n) ≡ of_clone k (Some own) =
          ap (λ (i : ℕ). of_clone k (claim_at new i)) eq ∙ ap (of_clone k) (claimed-at b number own within) in
          by own.clone (option_eq nat_eq own.clone (Some k)) refl refl mine sums free eq
      | inr other ↦
          let same : of_clone k (claim_at new n) ≡ of_clone k (claim_at b n) =
          ap (of_clone k) (claimed-other b number n own other) in
          omega (arith, sums, before n k, same)
    ]
  where
    by : (c : Option ℕ) (t : Bool) → own.clone ≡ c → option_eq nat_eq own.clone (Some k) ≡ t →
        one_if (has_clone n k (Some (record b { claims = set b.claims number (Some own) })))
        ≡ one_if (option_eq nat_eq own.clone (Some k)) →
        count_by (has_clone n k) (set m.slots slot
        (Some (record b { claims = set b.claims number (Some own) })))
        + one_if (has_clone n k (Some b))
        ≡ count_by (has_clone n k) m.slots + one_if
        (has_clone n k (Some (record b { claims = set b.claims number (Some own) }))) →
        is_free m.slots number a own.clone ≡ true → n ≡ number →
        count_by (has_clone n k) (set m.slots slot
        (Some (record b { claims = set b.claims number (Some own) }))) ≤ 1
    by c false was e mine sums free eq = omega (arith, mine, ap one_if e, sums, before n k)
    by c true was e mine sums free eq =
        let is : own.clone ≡ Some k = same_number own.clone k e in
        let free_k : is_free m.slots number a (Some k) ≡ true = ap (is_free m.slots number a) (sym is)
        ∙ free in
        let both = and_parts (nat_lt k a.cardinality) (not (list_any (has_clone number k) m.slots)) free_k in
        let none : count_by (has_clone number k) m.slots ≡ 0 =
        count-any (has_clone number k) m.slots (not-true _ both.1) in
        let here : count_by (has_clone n k) m.slots ≡ 0 = ap (λ (i : ℕ). count_by (has_clone i k) m.slots) eq
        ∙ none in
        omega (arith, mine, ap one_if e, sums, here)

one-unit : (job : Job) (m : Machine) (slot : ℕ) (b : Busy) (number : ℕ) (a : Algorithm) (own : Outstanding) →
    busy_at m slot ≡ Some b → number < length b.claims → slice_get job.algorithms number ≡ Some a →
    has_units job m.slots a ≡ true → ((r : ℕ) → units_out r job m.slots ≤ units_of r job) → (r : ℕ) →
    sum_by (units_in r job) (set m.slots slot
    (Some (record b { claims = set b.claims number (Some own) }))) ≤ units_of r job
one-unit job m slot b number a own there within algorithm units before r =
    let new : Busy = record b { claims = set b.claims number (Some own) } in
    let sums = changed (units_in r job) m slot b (Some new) there in
    let more = one-more (has_unit r new) (has_unit r b) 0 number number job.algorithms a algorithm
    (omega arith)
    (λ n x other. ap (λ (o : Option Outstanding). is_some o && names_resource r x)
    (claimed-other b number n own other)) in
    let named : has_unit r new (number, a) ≡ names_resource r a =
    ap (λ (o : Option Outstanding). is_some o && names_resource r a) (claimed-at b number own within) in
    by (names_resource r a) refl named sums more
  where
    by : (t : Bool) → names_resource r a ≡ t →
        has_unit r (record b { claims = set b.claims number (Some own) }) (number, a) ≡ names_resource r a →
        sum_by (units_in r job) (set m.slots slot
        (Some (record b { claims = set b.claims number (Some own) }))) + units_in r job (Some b)
        ≡ sum_by (units_in r job) m.slots + units_in r job
        (Some (record b { claims = set b.claims number (Some own) })) →
        units_in r job (Some (record b { claims = set b.claims number (Some own) }))
        ≤ units_in r job (Some b) + one_if (has_unit r (record b { claims = set b.claims number (Some own) })
        (number, a)) →
        sum_by (units_in r job) (set m.slots slot
        (Some (record b { claims = set b.claims number (Some own) }))) ≤ units_of r job
    by false e named sums more = omega (arith, ap one_if named, ap one_if e, sums, more, before r)
    by true e named sums more =
        let left : nat_lt (units_out r job m.slots) (units_of r job) ≡ true =
        all-among (λ s. nat_lt (units_out s job m.slots) (units_of s job)) r a.resources units e in
        let low : units_out r job m.slots < units_of r job = grind (arith, nat_tests) in
        omega (arith, ap one_if named, ap one_if e, sums, more, low)

pub claimed-exclusive : (job : Job) (m : Machine) (slot : ℕ) (b : Busy) (number : ℕ) (a : Algorithm)
    (ticket : ℕ) (clone : Option ℕ) →
    busy_at m slot ≡ Some b → length b.claims ≡ length job.algorithms →
    slice_get job.algorithms number ≡ Some a →
    (is_free m.slots number a clone && has_units job m.slots a) ≡ true → IsExclusive job m →
    IsExclusive job (with_slot m slot (Some (claimed b number a ticket clone)))
unfolding claimed
claimed-exclusive job m slot b number a ticket clone there size algorithm free ex =
    let both = and_parts (is_free m.slots number a clone) (has_units job m.slots a) free in
    let within : number < length b.claims = (let n = slice_get_within job.algorithms number a algorithm in
    omega (arith, size)) in
    record {
      clones = one-clone job m slot b number a _ there within both.0 ex.clones;
      units = one-unit job m slot b number a _ there within algorithm both.1 ex.units;
    }
