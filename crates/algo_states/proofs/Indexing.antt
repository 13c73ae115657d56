-- The index from handles to the algorithms that take them, as it is built.
use Rattle.std.proofs.Common.{◌≡◌, ◌≢◌, ⊎_elim, ◌&&◌, add-one, ℕ, zero, suc, ◌+◌, ◌<◌, ◌≤◌, nat_eq, Bool, true, false, List, [], ◌∷◌, ◌++◌, length, get_or, set, take, refl, ap, sym, subst, ◌∙◌, arith, get_or-set_other}
use Rattle.std.specs.Prelude.{All}
use Rattle.std.specs.List.{AllByRecursion}
use Rattle.std.proofs.lemmas.List.Elements.{All-from_recursion, All-map}
use Rattle.std.proofs.lemmas.Bool.{eq-eqb, ne_eqb}
use Rattle.std.proofs.Math.Bool.{and-true}
use Rattle.std.proofs.lemmas.Bool.Decides.{eqb_tells}
use Rattle.std.proofs.lemmas.Grind.{get_or-set_at}
use Rattle.std.proofs.lemmas.List.{length-map, map-set}
use Rattle.hive_model.specs.Many.{Many}
use Rattle.algo_states.specs.Table.{IsIndex, lists_of, mentions}
use Rattle.hive_model.specs.Algorithm.{Algorithm}
use Rattle.algo_states.specs.States.{inputs_of}
use Rattle.algo_states.proofs.Arriving.{mapped}
use Rattle.algo_states.proofs.Mentions.{bit, count-more, count-none, count-push}

abbrev none : List ℕ
none = []

pushed : (consumers : List (Many ℕ)) (m : ℕ) (old new : Many ℕ) (number a h : ℕ) → m < length consumers → old ≡ get_or consumers m old →
    new.items ≡ old.items ++ number ∷ [] →
    mentions a (get_or (lists_of (set consumers m new)) h []) ≡ mentions a (get_or (lists_of consumers) h []) + bit (nat_eq h m && nat_eq a number)
pushed consumers m old new number a h lt at is =
    let write : lists_of (set consumers m new) ≡ set (lists_of consumers) m new.items = map-set (λ (x : Many ℕ). x.items) consumers m new in
    let within : m < length (lists_of consumers) = rw length-map lt in
    ⊎_elim
    (λ (e : (nat_eq h m ≡ true) × (h ≡ m)).
    let after : get_or (lists_of (set consumers m new)) h [] ≡ old.items ++ number ∷ [] =
    ap (λ (xs : List (List ℕ)). get_or xs h []) write ∙ get_or-set_at (lists_of consumers) m h new.items [] e.1 within ∙ is in
    let before : get_or (lists_of consumers) h [] ≡ old.items =
    ap (λ (k : ℕ). get_or (lists_of consumers) k []) e.1 ∙ mapped consumers m old lt ∙ ap (λ (x : Many ℕ). x.items) (sym at) in
    ap (mentions a) after ∙ count-push (nat_eq a) old.items number ∙ ap (λ (xs : List ℕ). mentions a xs + bit (nat_eq a number)) (sym before)
    ∙ ap (λ (b : Bool). mentions a (get_or (lists_of consumers) h []) + bit (b && nat_eq a number)) (sym e.0))
    (λ (e : (nat_eq h m ≡ false) × (h ≢ m)).
    let after : get_or (lists_of (set consumers m new)) h [] ≡ get_or (lists_of consumers) h [] =
    ap (λ (xs : List (List ℕ)). get_or xs h []) write ∙ get_or-set_other (lists_of consumers) m h new.items [] e.1 in
    let none : bit (nat_eq h m && nat_eq a number) ≡ 0 = ap (λ (b : Bool). bit (b && nat_eq a number)) e.0 in
    let same = ap (mentions a) after in
    omega arith)
    (eqb_tells h m)

pub pushed-same : (consumers first : List (Many ℕ)) (inputs : List ℕ) (i m : ℕ) (old new : Many ℕ) (number h : ℕ) → m < length consumers → old ≡ get_or consumers m old →
    new.items ≡ old.items ++ number ∷ [] → i < length inputs → m ≡ get_or inputs i 0 →
    mentions number (get_or (lists_of consumers) h []) ≡ mentions number (get_or (lists_of first) h []) + mentions h (take i inputs) →
    mentions number (get_or (lists_of (set consumers m new)) h []) ≡ mentions number (get_or (lists_of first) h []) + mentions h (take (i + 1) inputs)
pushed-same consumers first inputs i m old new number h lt at is within item before =
    let after = pushed consumers m old new number number h lt at is in
    let more = count-more (nat_eq h) inputs i 0 within in
    let same : bit (nat_eq h m && nat_eq number number) ≡ bit (nat_eq h (get_or inputs i 0)) =
    ap (λ (b : Bool). bit (nat_eq h m && b)) (eq-eqb number number refl) ∙ ap bit (and-true (nat_eq h m)) ∙ ap (λ (k : ℕ). bit (nat_eq h k)) item in
    omega arith

pub pushed-others : (consumers first : List (Many ℕ)) (m : ℕ) (old new : Many ℕ) (number a h : ℕ) → m < length consumers → old ≡ get_or consumers m old →
    new.items ≡ old.items ++ number ∷ [] → a ≢ number → mentions a (get_or (lists_of consumers) h []) ≡ mentions a (get_or (lists_of first) h []) →
    mentions a (get_or (lists_of (set consumers m new)) h []) ≡ mentions a (get_or (lists_of first) h [])
pushed-others consumers first m old new number a h lt at is other before =
    let after = pushed consumers m old new number a h lt at is in
    let none : bit (nat_eq h m && nat_eq a number) ≡ 0 = ap (λ (b : Bool). bit (nat_eq h m && b)) (ne_eqb a number other) ∙ never (nat_eq h m) in
    omega arith
  where
    never : (b : Bool) → bit (b && false) ≡ 0
    never true = refl
    never false = refl

-- the index of the first algorithms, one further

taken-at : (needs : List (Many ℕ)) (i : ℕ) (it : Many ℕ) → i < length needs → get_or (lists_of (take (suc i) needs)) i [] ≡ (get_or needs i it).items
taken-at [] i it lt = absurd (omega arith)
taken-at (x ∷ needs) zero it lt = refl
taken-at (x ∷ needs) (suc i) it lt = taken-at needs i it (omega arith)

taken-past : (needs : List (Many ℕ)) (i : ℕ) → get_or (lists_of (take i needs)) i [] ≡ []
taken-past needs zero = refl
taken-past [] (suc i) = refl
taken-past (x ∷ needs) (suc i) = taken-past needs i

taken-other : (needs : List (Many ℕ)) (i a : ℕ) → a ≢ i → get_or (lists_of (take (suc i) needs)) a [] ≡ get_or (lists_of (take i needs)) a []
taken-other [] zero a other = refl
taken-other [] (suc i) a other = refl
taken-other (x ∷ needs) zero zero other = absurd (other refl)
taken-other (x ∷ needs) zero (suc a) other = refl
taken-other (x ∷ needs) (suc i) zero other = refl
taken-other (x ∷ needs) (suc i) (suc a) other = taken-other needs i a (λ e. other (ap suc e))

pub index-all : (needs : List (Many ℕ)) (consumers : List (List ℕ)) (n : ℕ) → length needs ≤ n → IsIndex (lists_of (take n needs)) consumers →
    IsIndex (lists_of needs) consumers
index-all needs consumers n le index = subst (λ (them : List (Many ℕ)). IsIndex (lists_of them) consumers) (whole needs n le) index
  where
    whole : (needs : List (Many ℕ)) (n : ℕ) → length needs ≤ n → take n needs ≡ needs
    whole [] zero le = refl
    whole [] (suc n) le = refl
    whole (x ∷ needs) zero le = absurd (omega arith)
    whole (x ∷ needs) (suc n) le = ap (λ (xs : List (Many ℕ)). x ∷ xs) (whole needs n (omega arith))

pub index-more : (needs first later : List (Many ℕ)) (i : ℕ) (inputs : List ℕ) (it : Many ℕ) → i < length needs → it ≡ get_or needs i it →
    inputs ≡ it.items → length later ≡ length first → IsIndex (lists_of (take i needs)) (lists_of first) →
    ((h : ℕ) → h < length first → mentions i (get_or (lists_of later) h []) ≡ mentions i (get_or (lists_of first) h []) + mentions h inputs) →
    ((a h : ℕ) → a ≢ i → mentions a (get_or (lists_of later) h []) ≡ mentions a (get_or (lists_of first) h [])) →
    IsIndex (lists_of (take (i + 1) needs)) (lists_of later)
index-more needs first later i inputs it within at is len index same others a h lt =
    let before = lists_of first in
    let after = lists_of later in
    let sizes : length after ≡ length first = length-map later (λ (x : Many ℕ). x.items) ∙ len in
    let in-before : h < length first = omega arith in
    let listed : length before ≡ length first = length-map first (λ (x : Many ℕ). x.items) in
    let old = index a h (omega arith) in
    rw add-one
    (⊎_elim
    (λ (e : (nat_eq a i ≡ true) × (a ≡ i)).
    let now : get_or (lists_of (take (suc i) needs)) a [] ≡ inputs =
    ap (λ (k : ℕ). get_or (lists_of (take (suc i) needs)) k []) e.1 ∙ taken-at needs i it within ∙ ap (λ (x : Many ℕ). x.items) (sym at) ∙ sym is in
    let none : mentions h (get_or (lists_of (take i needs)) a []) ≡ 0 =
    ap (λ (k : ℕ). mentions h (get_or (lists_of (take i needs)) k [])) e.1 ∙ ap (mentions h) (taken-past needs i) ∙ count-none (nat_eq h) in
    let added : mentions a (get_or after h []) ≡ mentions a (get_or before h []) + mentions h inputs =
    ap (λ (k : ℕ). mentions k (get_or after h [])) e.1 ∙ same h in-before ∙ ap (λ (k : ℕ). mentions k (get_or before h []) + mentions h inputs) (sym e.1) in
    let all = ap (mentions h) now in
    omega arith)
    (λ (e : (nat_eq a i ≡ false) × (a ≢ i)).
    others a h e.1 ∙ old ∙ ap (mentions h) (sym (taken-other needs i a e.1)))
    (eqb_tells a i))

pub inputs-within : (needs : List (Many ℕ)) (algorithms : List Algorithm) (n : ℕ) → lists_of needs ≡ inputs_of algorithms →
    AllByRecursion (λ (a : Algorithm). AllByRecursion (λ h. h < n) a.inputs) algorithms → All (λ (it : Many ℕ). All (λ h. h < n) it.items) needs
inputs-within needs algorithms n same within i d lt =
    subst (All (λ h. h < n)) (mapped needs i d lt)
    (lists i [] (rw length-map lt))
  where
    each : All (λ (a : Algorithm). All (λ h. h < n) a.inputs) algorithms
    each = λ k e less. All-from_recursion (λ h. h < n) (get_or algorithms k e).inputs
        (All-from_recursion (λ (a : Algorithm). AllByRecursion (λ h. h < n) a.inputs) algorithms within k e less)

    lists : All (All (λ h. h < n)) (lists_of needs)
    lists = subst (All (All (λ h. h < n))) (sym same) (All-map (All (λ h. h < n)) (λ (a : Algorithm). a.inputs) algorithms each)

pub as-many : (needs : List (Many ℕ)) (algorithms : List Algorithm) → lists_of needs ≡ inputs_of algorithms → length needs ≡ length algorithms
as-many needs algorithms same =
    sym (length-map needs (λ (x : Many ℕ). x.items)) ∙ ap length same ∙ length-map algorithms (λ (a : Algorithm). a.inputs)
