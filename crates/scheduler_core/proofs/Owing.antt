-- Entries that are owed: one more with each event and each claim, one less with each entry that ends one.
use Rattle.std.proofs.Common.{◌≡◌, ℕ, zero, suc, ◌+◌, ◌<◌, Bool, true, false, if◌then◌else◌, is_some, List, [], ◌∷◌, count_by, length, replicate, slice_get, set, Option, Some, None, refl, ap, sym, ◌∙◌, arith}
use Rattle.std.proofs.lemmas.List.Sums.{sum_by-cons, sum_by-set}
use Rattle.std.proofs.lemmas.Option.{get_or_from_slice_get, slice_get_within}
use Rattle.std.specs.List.{list_any, sum_by}
use Rattle.std.specs.Option.{option_flatten, option_map_or}
use Rattle.core_laws.proofs.Counting.{count-any, count-cons, one_if}
use Rattle.core_laws.proofs.Lending.{changed, filled}
use Rattle.event_slots.specs.Slots.{claims_out}
use Rattle.hive_model.specs.Algorithm.{Algorithm}
use Rattle.hive_model.specs.EventRecord.{EventRecord}
use Rattle.hive_model.specs.Job.{Job}
use Rattle.hive_model.specs.Machine.{Busy, Machine, Outstanding, begun, claim_at, opening}
use Rattle.hive_model.specs.Step.{busy_at, claimed, with_slot}
use Rattle.scheduler_core.specs.State.{owed_by}

-- the claims of an event, and of none
abbrev pub in_slot : Option Busy → ℕ
in_slot s = option_map_or (λ (b : Busy). count_by is_some b.claims) s 0

pub owed-changed : (m : Machine) (slot : ℕ) (old : Busy) (new : Option Busy) → busy_at m slot ≡ Some old →
    owed_by (with_slot m slot new) + (1 + count_by is_some old.claims)
    ≡ owed_by m + (one_if (is_some new) + in_slot new)
owed-changed m slot old new there =
    let counts : count_by (λ (s : Option Busy). is_some s) (set m.slots slot new) + 1
    ≡ count_by (λ (s : Option Busy). is_some s) m.slots + one_if (is_some new) =
    changed (λ (s : Option Busy). one_if (is_some s)) m slot old new there in
    let sums : claims_out (set m.slots slot new) + count_by is_some old.claims ≡ claims_out m.slots + in_slot new =
    changed in_slot m slot old new there in
    omega (arith, counts, sums)

pub owed-filled : (m : Machine) (slot : ℕ) (new : Option Busy) → slice_get m.slots slot ≡ Some None →
    owed_by (with_slot m slot new) ≡ owed_by m + (one_if (is_some new) + in_slot new)
owed-filled m slot new there =
    let counts : count_by (λ (s : Option Busy). is_some s) (set m.slots slot new) + 0
    ≡ count_by (λ (s : Option Busy). is_some s) m.slots + one_if (is_some new) =
    filled (λ (s : Option Busy). one_if (is_some s)) m slot new there in
    let sums : claims_out (set m.slots slot new) + 0 ≡ claims_out m.slots + in_slot new =
    filled in_slot m slot new there in
    omega (arith, counts, sums)

-- one event's claims

claims-set : (claims : List (Option Outstanding)) (number : ℕ) (old new : Option Outstanding) →
    slice_get claims number ≡ Some old →
    count_by is_some (set claims number new) + one_if (is_some old) ≡ count_by is_some claims + one_if (is_some new)
claims-set claims number old new there =
    let within = slice_get_within claims number old there in
    ap (λ (o : Option Outstanding). count_by is_some (set claims number new) + one_if (is_some o))
    (sym (get_or_from_slice_get claims number old None there))
    ∙ sum_by-set (λ (o : Option Outstanding). one_if (is_some o)) claims number new None within

flat-got : {X : Type 0} (xs : List (Option X)) (i : ℕ) (x : X) → option_flatten (slice_get xs i) ≡ Some x →
    slice_get xs i ≡ Some (Some x)
flat-got [] i x h = absurd (cc)
flat-got (None ∷ xs) zero x h = absurd (cc)
flat-got (Some y ∷ xs) zero x h = ap Some h
flat-got (y ∷ xs) (suc i) x h = flat-got xs i x h

pub flat-empty : {X : Type 0} (xs : List (Option X)) (i : ℕ) → i < length xs →
    ◌≡◌ {A = Option X} (option_flatten (slice_get xs i)) None → slice_get xs i ≡ Some None
flat-empty [] i within h = absurd (omega arith)
flat-empty (None ∷ xs) zero within h = refl
flat-empty (Some y ∷ xs) zero within h = absurd (cc)
flat-empty (y ∷ xs) (suc i) within h = flat-empty xs i (omega arith) h

pub one-claimed : (b : Busy) (number : ℕ) (new : Outstanding) → number < length b.claims → claim_at b number ≡ None →
    count_by is_some (set b.claims number (Some new)) ≡ count_by is_some b.claims + 1
one-claimed b number new within none =
    let sums = claims-set b.claims number None (Some new) (flat-empty b.claims number within none) in
    omega (arith, sums)

pub one-gone : (b : Busy) (number : ℕ) (c : Outstanding) → claim_at b number ≡ Some c →
    count_by is_some (set b.claims number None) + 1 ≡ count_by is_some b.claims
one-gone b number c there =
    let sums = claims-set b.claims number (Some c) None (flat-got b.claims number c there) in
    omega (arith, sums)

none-claimed : (n : ℕ) → count_by (λ (o : Option Outstanding). is_some o) (replicate n None) ≡ 0
none-claimed zero = refl
none-claimed (suc n) =
    let step = count-cons (λ (o : Option Outstanding). is_some o) None (replicate n None) in
    let rest = none-claimed n in
    omega (arith, step, rest)

pub begun-owes : (m : Machine) (slot : ℕ) (job : Job) (place : ℕ) (event : EventRecord) →
    slice_get m.slots slot ≡ Some None → owed_by (with_slot m slot (Some (begun job place event))) ≡ owed_by m + 1
unfolding begun
begun-owes m slot job place event there =
    let sums = owed-filled m slot (Some (begun job place event)) there in
    let none = none-claimed (length job.algorithms) in
    omega (arith, sums, none)

pub last-owes : (m : Machine) → m.closed ≡ false → owed_by (record m { closed = true }) + 1 ≡ owed_by m
last-owes m on =
    let one : (if m.closed then 0 else 1) ≡ 1 = ap {B = ℕ} (λ b. if b then 0 else 1) on in
    omega (arith, one)

-- at the opening only Last is owed

none-out : (n : ℕ) → count_by (λ (s : Option Busy). is_some s) (replicate n None) ≡ 0
none-out zero = refl
none-out (suc n) =
    let step = count-cons (λ (s : Option Busy). is_some s) None (replicate n None) in
    let rest = none-out n in
    omega (arith, step, rest)

none-held : (n : ℕ) → claims_out (replicate n None) ≡ 0
none-held zero = refl
none-held (suc n) =
    let step = sum_by-cons in_slot None (replicate n None) in
    let rest = none-held n in
    omega (arith, step, rest)

pub opening-owes : (slots : ℕ) → owed_by (opening slots) ≡ 1
opening-owes slots =
    let none = none-out slots in
    let held = none-held slots in
    omega (arith, none, held)

-- an event that ends has no claim left
pub none-left : (b : Busy) → list_any is_some b.claims ≡ false → count_by is_some b.claims ≡ 0
none-left b h = count-any is_some b.claims h
