-- Which resources a list names, one further.
use Rattle.std.proofs.Common.{◌≡◌, ◌≢◌, ⊎_elim, ℕ, zero, suc, ◌+◌, ◌-◌, ◌<◌, nat_eq, nat_lt, Bool, true, false, ◌||◌, List, [], ◌∷◌, length, get_or, set, take, refl, ap, sym, ◌∙◌, cond, arith, true≢false, get_or-set_other}
use Rattle.std.specs.List.{AllByRecursion, IsDistinct, list_all, list_any}
use Rattle.std.specs.Prelude.{All}
use Rattle.std.proofs.lemmas.Bool.{eqb-true, eq-eqb, ltb-true}
use Rattle.std.proofs.lemmas.Bool.Decides.{eqb_tells}
use Rattle.std.proofs.lemmas.Grind.{get_or_default_zero, get_or-set_at}
use Rattle.std.proofs.lemmas.List.Recursion.{and_at, or_at}
use Rattle.std.proofs.lemmas.List.Folds.{list_any_more}
use Rattle.clone_pools.specs.Loans.{is_named}
use Rattle.clone_pools.specs.Units.{has_left, named}

all-get : (P : ℕ → Type 0) (xs : List ℕ) (i : ℕ) → i < length xs → AllByRecursion P xs → P (get_or xs i 0)
all-get P [] i lt all = absurd (omega arith)
all-get P (x ∷ xs) zero lt all = all.0
all-get P (x ∷ xs) (suc i) lt all = all-get P xs i (omega arith) all.1

nat_eq-turned : (x y : ℕ) → nat_eq x y ≡ false → nat_eq y x ≡ false
nat_eq-turned x y e = grind arith

distinct-before : (xs : List ℕ) (i : ℕ) → i < length xs → IsDistinct nat_eq xs → is_named (get_or xs i 0) (take i xs) ≡ false
unfolding IsDistinct
distinct-before [] i lt h = absurd (omega arith)
distinct-before (x ∷ xs) zero lt h = refl
distinct-before (x ∷ xs) (suc i) lt h =
    let lt' : i < length xs = omega arith in
    rw (nat_eq-turned x (get_or xs i 0) (all-get (λ z. nat_eq x z ≡ false) xs i lt' h.0)) (distinct-before xs i lt' h.1)

joined : (a b : Bool) → (b ≡ true → a ≡ false) → cond (a || b) 1 0 ≡ cond a 1 0 + cond b 1 0
joined true true h = absurd (true≢false (h refl))
joined true false h = refl
joined false b h = omega arith

-- the resource at a place is named once
pub named-more : (xs : List ℕ) (i r : ℕ) → i < length xs → IsDistinct nat_eq xs →
    named r (take (i + 1) xs) ≡ named r (take i xs) + cond (nat_eq r (get_or xs i 0)) 1 0
named-more xs i r lt h =
    ap (λ (b : Bool). cond b 1 0) (list_any_more (nat_eq r) xs i 0 lt)
    ∙ joined (is_named r (take i xs)) (nat_eq r (get_or xs i 0))
    (λ e. ap (λ (n : ℕ). is_named n (take i xs)) (eqb-true r (get_or xs i 0) e) ∙ distinct-before xs i lt h)

-- and names nothing that was named before
pub named-new : (xs : List ℕ) (i : ℕ) → i < length xs → IsDistinct nat_eq xs → named (get_or xs i 0) (take i xs) ≡ 0
named-new xs i lt h = ap (λ (b : Bool). cond b 1 0) (distinct-before xs i lt h)

-- while it stands in the whole list
pub named-in : (xs : List ℕ) (i : ℕ) → i < length xs → named (get_or xs i 0) xs ≡ 1
named-in xs i lt =
    ap (λ (b : Bool). cond b 1 0)
    (or_at (list_any (nat_eq (get_or xs i 0))) (nat_eq (get_or xs i 0)) refl (λ _ _. refl) xs i 0 lt (eq-eqb (get_or xs i 0) (get_or xs i 0) refl))

written : (left : List ℕ) (m r w : ℕ) → m < length left → get_or (set left m w) r 0 ≡ cond (nat_eq r m) w (get_or left r 0)
written left m r w lt =
    ⊎_elim
    (λ (h : (nat_eq r m ≡ true) × (r ≡ m)). rw h.0 (get_or-set_at left m r w 0 h.1 lt))
    (λ (h : (nat_eq r m ≡ false) × (r ≢ m)). rw h.0 (get_or-set_other left m r w 0 h.1))
    (eqb_tells r m)

pub item-within : (rs : List ℕ) (i m count size : ℕ) → i < length rs → m ≡ get_or rs i 0 → size ≡ count → All (λ r. r < count) rs → m < size
item-within rs i m count size lt is same all = let here = all i 0 lt in omega arith

-- One unit of the resource at a place is taken.

pub unit-there : (left first rs : List ℕ) (i m v : ℕ) → i < length rs → IsDistinct nat_eq rs → m ≡ get_or rs i 0 → m < length left → v ≡ get_or left m v →
    ((r : ℕ) → get_or left r 0 + named r (take i rs) ≡ get_or first r 0) → list_all (has_left first) rs ≡ true → 0 < v
unit-there left first rs i m v lt differ is within at taken there =
    let here : nat_lt 0 (get_or first (get_or rs i 0) 0) ≡ true = and_at (list_all (has_left first)) (has_left first) refl (λ _ _. refl) rs i 0 lt there in
    let some : 0 < get_or first (get_or rs i 0) 0 = ltb-true 0 (get_or first (get_or rs i 0) 0) here in
    let new = named-new rs i lt differ in
    let now = taken (get_or rs i 0) in
    let same : get_or left (get_or rs i 0) 0 ≡ v = ap (λ (n : ℕ). get_or left n 0) (sym is) ∙ sym (get_or_default_zero left m v within) ∙ sym at in
    omega arith

pub units-taken : (left first rs : List ℕ) (i m v : ℕ) → i < length rs → IsDistinct nat_eq rs → m ≡ get_or rs i 0 → m < length left → v ≡ get_or left m v →
    0 < v → ((r : ℕ) → get_or left r 0 + named r (take i rs) ≡ get_or first r 0) → (r : ℕ) →
    get_or (set left m (v - 1)) r 0 + named r (take (i + 1) rs) ≡ get_or first r 0
units-taken left first rs i m v lt differ is within at some taken r =
    let more = named-more rs i r lt differ in
    let now = taken r in
    let write = written left m r (v - 1) within in
    ⊎_elim
    (λ (h : (nat_eq r m ≡ true) × (r ≡ m)).
    let w : get_or (set left m (v - 1)) r 0 ≡ v - 1 = write ∙ ap (λ (b : Bool). cond b (v - 1) (get_or left r 0)) h.0 in
    let n : named r (take (i + 1) rs) ≡ named r (take i rs) + 1 = more ∙ ap (λ (b : Bool). named r (take i rs) + cond b 1 0) (ap (nat_eq r) (sym is) ∙ h.0) in
    let l : get_or left r 0 ≡ v = ap (λ (k : ℕ). get_or left k 0) h.1 ∙ sym (get_or_default_zero left m v within) ∙ sym at in
    omega arith)
    (λ (h : (nat_eq r m ≡ false) × (r ≢ m)).
    let w : get_or (set left m (v - 1)) r 0 ≡ get_or left r 0 = write ∙ ap (λ (b : Bool). cond b (v - 1) (get_or left r 0)) h.0 in
    let n : named r (take (i + 1) rs) ≡ named r (take i rs) + 0 = more ∙ ap (λ (b : Bool). named r (take i rs) + cond b 1 0) (ap (nat_eq r) (sym is) ∙ h.0) in
    omega arith)
    (eqb_tells r m)

-- One unit of it is put back.

pub unit-fits : (left first rs : List ℕ) (i m v : ℕ) → i < length rs → IsDistinct nat_eq rs → m ≡ get_or rs i 0 → m < length left → v ≡ get_or left m v →
    ((r : ℕ) → get_or left r 0 ≡ get_or first r 0 + named r (take i rs)) → ((r : ℕ) → get_or first r 0 + named r rs < 256) → v + 1 < 256
unit-fits left first rs i m v lt differ is within at given room =
    let new = named-new rs i lt differ in
    let all = named-in rs i lt in
    let now = given (get_or rs i 0) in
    let fits = room (get_or rs i 0) in
    let same : get_or left (get_or rs i 0) 0 ≡ v = ap (λ (n : ℕ). get_or left n 0) (sym is) ∙ sym (get_or_default_zero left m v within) ∙ sym at in
    omega arith

pub units-given : (left first rs : List ℕ) (i m v : ℕ) → i < length rs → IsDistinct nat_eq rs → m ≡ get_or rs i 0 → m < length left → v ≡ get_or left m v →
    ((r : ℕ) → get_or left r 0 ≡ get_or first r 0 + named r (take i rs)) → (r : ℕ) →
    get_or (set left m (v + 1)) r 0 ≡ get_or first r 0 + named r (take (i + 1) rs)
units-given left first rs i m v lt differ is within at given r =
    let more = named-more rs i r lt differ in
    let now = given r in
    let write = written left m r (v + 1) within in
    ⊎_elim
    (λ (h : (nat_eq r m ≡ true) × (r ≡ m)).
    let w : get_or (set left m (v + 1)) r 0 ≡ v + 1 = write ∙ ap (λ (b : Bool). cond b (v + 1) (get_or left r 0)) h.0 in
    let n : named r (take (i + 1) rs) ≡ named r (take i rs) + 1 = more ∙ ap (λ (b : Bool). named r (take i rs) + cond b 1 0) (ap (nat_eq r) (sym is) ∙ h.0) in
    let l : get_or left r 0 ≡ v = ap (λ (k : ℕ). get_or left k 0) h.1 ∙ sym (get_or_default_zero left m v within) ∙ sym at in
    omega arith)
    (λ (h : (nat_eq r m ≡ false) × (r ≢ m)).
    let w : get_or (set left m (v + 1)) r 0 ≡ get_or left r 0 = write ∙ ap (λ (b : Bool). cond b (v + 1) (get_or left r 0)) h.0 in
    let n : named r (take (i + 1) rs) ≡ named r (take i rs) + 0 = more ∙ ap (λ (b : Bool). named r (take i rs) + cond b 1 0) (ap (nat_eq r) (sym is) ∙ h.0) in
    omega arith)
    (eqb_tells r m)
