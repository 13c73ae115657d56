-- Where nothing is outstanding, every instance and every unit is free: so what is enabled may be claimed, and
-- an event in which
-- nothing is enabled may end.
use Rattle.std.proofs.Common.{◌≡◌, ℕ, zero, suc, ◌+◌, ◌<◌, ◌≤◌, nat_eq, nat_lt, Bool, true, false, not, ◌&&◌, ◌||◌, is_some, is_none, List, [], ◌∷◌, length, count_by, set, slice_get, Option, Some, None, refl, ap, sym, ◌∙◌, subst, arith}
use Rattle.std.proofs.lemmas.Bool.{and_from, lt-ltb}
use Rattle.std.proofs.lemmas.List.FromFn.{get_or-range_with_len, length-range_with_len}
use Rattle.std.proofs.lemmas.List.Sums.{sum_by-cons}
use Rattle.std.proofs.lemmas.Option.{get_or_from_slice_get, none-some, slice_get_within}
use Rattle.std.specs.List.{AllByRecursion, enumerate_from, list_all, list_any, range_with_len}
use Rattle.std.specs.Option.{option_eq, option_flatten, option_map_or}
use Rattle.core_laws.proofs.Counting.{count-none, one_if}
use Rattle.core_laws.proofs.Lending.{changed}
use Rattle.core_laws.specs.Sound.{IsSound}
use Rattle.event_slots.specs.Claiming.{may_claim}
use Rattle.event_slots.specs.Slots.{claims_of, claims_out}
use Rattle.hive_model.specs.Algorithm.{Algorithm}
use Rattle.hive_model.specs.Enabled.{is_enabled}
use Rattle.hive_model.specs.EventRecord.{EventRecord}
use Rattle.hive_model.specs.Job.{Job}
use Rattle.hive_model.specs.Lending.{has_clone, has_unit, is_free, names_resource, units_in, units_of, units_out}
use Rattle.hive_model.specs.Machine.{Busy, Machine, Outstanding, claim_at, claim_in}
use Rattle.hive_model.specs.Results.{outcomes}
use Rattle.hive_model.specs.Step.{busy_at, can_claim, is_settled, step}
use Rattle.hive_model.specs.Valid.{IsValidJob}
use Rattle.hive_model.specs.declared.algorithm.Resource.{Resource}
use Rattle.hive_model.specs.declared.entry.Entry.{Entry}
use Rattle.hive_model.specs.declared.entry.Entry.TheVariants as entry
use Rattle.hive_model.specs.declared.limits.TheConstants.{MOST_UNITS}
use Rattle.scheduler_core.proofs.Entries.{claims, retires}
use Rattle.event_loop.proofs.Counting.{all-at, at-within, none-passes, one-passes}

-- no slot has a claim

abbrev HasNoClaim : Option Busy → Type 0
HasNoClaim s = (number : ℕ) → claim_in number s ≡ None

unclaimed-there : {X : Type 0} (xs : List (Option X)) (i : ℕ) → list_any is_some xs ≡ false →
    option_flatten (slice_get xs i) ≡ None
unclaimed-there [] i h = refl
unclaimed-there (None ∷ xs) zero h = refl
unclaimed-there (None ∷ xs) (suc i) h = unclaimed-there xs i h
unclaimed-there (Some x ∷ xs) i h = absurd (cc)

quiet-slot : (s : Option Busy) → claims_of s ≡ 0 → HasNoClaim s
quiet-slot None h number = refl
quiet-slot (Some b) h number = unclaimed-there b.claims number (none-passes is_some b.claims h)

quiet-slots : (slots : List (Option Busy)) → claims_out slots ≡ 0 → AllByRecursion HasNoClaim slots
quiet-slots [] h = tt
quiet-slots (s ∷ slots) h =
    let sum : claims_out (s ∷ slots) ≡ claims_of s + claims_out slots = sum_by-cons claims_of s slots in
    (quiet-slot s (omega (arith, h, sum)), quiet-slots slots (omega (arith, h, sum)))

no-clone : (number k : ℕ) (slots : List (Option Busy)) → AllByRecursion HasNoClaim slots →
    list_any (has_clone number k) slots ≡ false
no-clone number k [] all = refl
no-clone number k (s ∷ slots) all =
    ap (λ (o : Option Outstanding). option_map_or (λ (c : Outstanding). option_eq nat_eq c.clone (Some k)) o
    false
    || list_any (has_clone number k) slots) (all.0 number)
    ∙ no-clone number k slots all.1

no-units-in : (r : ℕ) (job : Job) (s : Option Busy) → HasNoClaim s → units_in r job s ≡ 0
no-units-in r job None h = refl
no-units-in r job (Some b) h =
    count-none (has_unit r b) (enumerate_from 0 job.algorithms)
    (λ it. ap (λ (o : Option Outstanding). one_if (is_some o && names_resource r it.1)) (h it.0))

no-units : (r : ℕ) (job : Job) (slots : List (Option Busy)) → AllByRecursion HasNoClaim slots →
    units_out r job slots ≡ 0
no-units r job [] all = refl
no-units r job (s ∷ slots) all =
    let sum = sum_by-cons (units_in r job) s slots in
    omega (arith, sum, no-units-in r job s all.0, no-units r job slots all.1)

-- so each unit is free, and the first instance

has-unit : (r : ℕ) (job : Job) → IsValidJob job → r < length job.resources → 1 ≤ units_of r job
has-unit r job valid within =
    let at = at-within job.resources r within in
    let few = all-at (λ (x : Resource). (1 ≤ x.units) × (x.units ≤ MOST_UNITS)) job.resources r at.it
    valid.limits.units at.there in
    subst (λ o. 1 ≤ option_map_or (λ (x : Resource). x.units) o 0) (sym at.there) few.0

units-free : (job : Job) (slots : List (Option Busy)) (rs : List ℕ) → IsValidJob job →
    AllByRecursion HasNoClaim slots → AllByRecursion (λ r. r < length job.resources) rs →
    list_all (λ r. nat_lt (units_out r job slots) (units_of r job)) rs ≡ true
units-free job slots [] valid quiet known = refl
units-free job slots (r ∷ rs) valid quiet known =
    let some = has-unit r job valid known.0 in
    let low : units_out r job slots < units_of r job = omega (arith, no-units r job slots quiet, some) in
    and_from _ _ (lt-ltb (units_out r job slots) (units_of r job) low)
    (units-free job slots rs valid quiet known.1)

above : (n : ℕ) → nat_eq n 0 ≡ false → 0 < n
above zero e = absurd (cc)
above (suc n) e = omega arith

record HasFree (slots : List (Option Busy)) (number : ℕ) (a : Algorithm) : Type 0 where
  clone : Option ℕ
  free : is_free slots number a clone ≡ true

free-instance : (slots : List (Option Busy)) (number : ℕ) (a : Algorithm) → AllByRecursion HasNoClaim slots →
    HasFree slots number a
free-instance slots number a quiet = go (nat_eq a.cardinality 0) refl
  where
    go : (t : Bool) → nat_eq a.cardinality 0 ≡ t → HasFree slots number a
    go true e = record { clone = None; free = e }
    go false e =
        let some : 0 < a.cardinality = above a.cardinality e in
        record {
          clone = Some 0;
          free = and_from _ _ (lt-ltb 0 a.cardinality some) (ap not (no-clone number 0 slots quiet));
        }

quiet-at : (m : Machine) (slot : ℕ) (b : Busy) → claims_out m.slots ≡ 0 → busy_at m slot ≡ Some b →
    count_by is_some b.claims ≡ 0
quiet-at m slot b quiet there =
    let sum : claims_out (set m.slots slot None) + count_by is_some b.claims ≡ claims_out m.slots + 0 =
    changed claims_of m slot b None there in
    omega (arith, sum, quiet)

quiet-there : (m : Machine) (slot : ℕ) (b : Busy) (number : ℕ) → claims_out m.slots ≡ 0 →
    busy_at m slot ≡ Some b →
    claim_at b number ≡ None
quiet-there m slot b number quiet there =
    unclaimed-there b.claims number (none-passes is_some b.claims (quiet-at m slot b quiet there))

left-one : (x y : Bool) → x ≡ false → (not x && not y) ≡ false → y ≡ true
left-one false true e h = refl
left-one false false e h = absurd (cc)
left-one true y e h = absurd (cc)

in-range : (n i k : ℕ) → slice_get (range_with_len 0 n) i ≡ Some k → k < n
in-range n i k h =
    let within = slice_get_within (range_with_len 0 n) i k h in
    let size = length-range_with_len 0 n in
    let low : i < n = omega (arith, within, size) in
    let read = get_or_from_slice_get (range_with_len 0 n) i k 0 h in
    let is = get_or-range_with_len 0 n i 0 low in
    omega (arith, read, is, low)

-- what is enabled may be claimed

may-claim : (job : Job) (records : List EventRecord) (past : List Entry) (m : Machine) (slot number : ℕ)
    (b : Busy)
    (a : Algorithm) → IsValidJob job → claims_out m.slots ≡ 0 → busy_at m slot ≡ Some b →
    slice_get job.algorithms number ≡ Some a → is_enabled job (outcomes b.ran) b.store number ≡ true →
    ((clone : Option ℕ) → step job records past m (entry.Claim slot number clone 0) ≡ None) → ⊥
unfolding can_claim
may-claim job records past m slot number b a valid quiet there of_job enabled none =
    let all = quiet-slots m.slots quiet in
    let free = free-instance m.slots number a all in
    let unclaimed : claim_at b number ≡ None = quiet-there m slot b number quiet there in
    let resources = all-at (λ (x : Algorithm). AllByRecursion (λ r. r < length job.resources) x.resources)
    job.algorithms number a valid.resources of_job in
    let can : can_claim job b number ≡ true =
    and_from _ _ enabled (ap (λ (o : Option Outstanding). not (is_some o)) unclaimed) in
    let may : may_claim job m.slots b number a free.clone ≡ true =
    and_from _ _ can (and_from _ _ free.free (units-free job m.slots a.resources valid all resources)) in
    none-some _ (sym (none free.clone) ∙ claims job records past m slot number free.clone 0 b a there of_job
    may)

-- nothing is in a slot where nothing may be claimed and nothing may end

pub none-there : (job : Job) (records : List EventRecord) (past : List Entry) (m : Machine) (slot : ℕ)
    (b : Busy) →
    IsValidJob job → IsSound job records m → claims_out m.slots ≡ 0 → busy_at m slot ≡ Some b →
    ((number : ℕ) (clone : Option ℕ) → step job records past m (entry.Claim slot number clone 0) ≡ None) →
    step job records past m (entry.Retire slot) ≡ None → ⊥
unfolding is_settled
none-there job records past m slot b valid sound quiet there unclaimed stays =
    go (is_settled job b) refl
  where
    go : (t : Bool) → is_settled job b ≡ t → ⊥
    go true e =
        let own = sound.busy slot b there in
        none-some _ (sym stays ∙ retires job records past m slot b own.event there own.there e)
    go false e =
        let idle : list_any is_some b.claims ≡ false = none-passes is_some b.claims
        (quiet-at m slot b quiet there) in
        let some : list_any (is_enabled job (outcomes b.ran) b.store)
        (range_with_len 0 (length job.algorithms)) ≡ true =
        left-one (list_any is_some b.claims) _ idle e in
        let one = one-passes (is_enabled job (outcomes b.ran) b.store)
        (range_with_len 0 (length job.algorithms)) some in
        let low : one.it < length job.algorithms = in-range (length job.algorithms) one.index one.it one.there
        in
        let a = at-within job.algorithms one.it low in
        may-claim job records past m slot one.it b a.it valid quiet there a.there one.passes
        (unclaimed one.it)

pub all-empty : (slots : List (Option Busy)) →
    ((slot : ℕ) (b : Busy) → slice_get slots slot ≡ Some (Some b) → ⊥) →
    list_all (λ (s : Option Busy). is_none s) slots ≡ true
all-empty [] h = refl
all-empty (None ∷ slots) h = all-empty slots (λ slot b e. h (suc slot) b e)
all-empty (Some b ∷ slots) h = absurd (h 0 b refl)
