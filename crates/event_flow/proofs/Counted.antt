-- Claims by algorithm, where one is written: what stands where, and how many there are.
use Rattle.std.proofs.Common.{◌≡◌, ◌≢◌, ℕ, zero, suc, ◌+◌, ◌<◌, true, false, is_some, List, [], ◌∷◌, length, replicate, get_or, set, slice_get, Option, Some, None, refl, sym, ◌∙◌, get_or-set_other, arith}
use Rattle.std.specs.List.{count_by, list_any}
use Rattle.std.specs.Option.{option_flatten}
use Rattle.std.proofs.lemmas.Grind.{get_or-set_at}
use Rattle.algo_states.proofs.Mentions.{bit, count-cons, count-none}
use Rattle.event_flow.specs.Claims.{claim_among}
use Rattle.event_flow.specs.declared.held.Held.{Held}

pub flatten-read : {X : Type 0} (xs : List (Option X)) (n : ℕ) → option_flatten (slice_get xs n) ≡ get_or xs n None
flatten-read [] n = refl
flatten-read (x ∷ xs) zero = refl
flatten-read (x ∷ xs) (suc n) = flatten-read xs n

pub claim-written : (claims : List (Option Held)) (n m : ℕ) (it : Option Held) → n < length claims → m ≡ n → claim_among (set claims n it) m ≡ it
claim-written claims n m it lt same = flatten-read (set claims n it) m ∙ get_or-set_at claims n m it None same lt

pub claim-other : (claims : List (Option Held)) (n m : ℕ) (it : Option Held) → m ≢ n → claim_among (set claims n it) m ≡ claim_among claims m
claim-other claims n m it other =
    flatten-read (set claims n it) m ∙ get_or-set_other claims n m it None other ∙ sym (flatten-read claims m)

pub claim-none : (k n : ℕ) → claim_among (replicate k None) n ≡ None
claim-none zero n = refl
claim-none (suc k) zero = refl
claim-none (suc k) (suc n) = claim-none k n

pub count-written : (claims : List (Option Held)) (n : ℕ) (it : Option Held) → n < length claims →
    count_by is_some (set claims n it) + bit (is_some (claim_among claims n)) ≡ count_by is_some claims + bit (is_some it)
count-written [] n it lt = absurd (omega arith)
count-written (claim ∷ claims) zero it lt =
    let before = count-cons is_some claim claims in
    let after = count-cons is_some it claims in
    omega arith
count-written (claim ∷ claims) (suc n) it lt =
    let before = count-cons is_some claim claims in
    let after = count-cons is_some claim (set claims n it) in
    let rest = count-written claims n it (omega arith) in
    omega arith

abbrev pub nobody : ℕ → List (Option Held)
nobody k = replicate k None

pub count-empty : (k : ℕ) → count_by is_some (nobody k) ≡ 0
count-empty zero = count-none {X = Option Held} is_some
count-empty (suc k) =
    let same = count-cons {X = Option Held} is_some None (nobody k) in let rest = count-empty k in omega arith

-- none is counted exactly where none is there
pub none-counted : (claims : List (Option Held)) → count_by is_some claims ≡ 0 → list_any is_some claims ≡ false
none-counted [] e = refl
none-counted (None ∷ claims) e =
    let same = count-cons {X = Option Held} is_some None claims in none-counted claims (omega arith)
none-counted (Some held ∷ claims) e =
    let one = count-cons {X = Option Held} is_some (Some held) claims in absurd (omega arith)

pub some-counted : (claims : List (Option Held)) → 0 < count_by is_some claims → list_any is_some claims ≡ true
some-counted [] h = let none = count-none {X = Option Held} is_some in absurd (omega arith)
some-counted (None ∷ claims) h =
    let same = count-cons {X = Option Held} is_some None claims in some-counted claims (omega arith)
some-counted (Some held ∷ claims) h = refl
