-- Lists of built things, one element after another.
use Rattle.std.proofs.Common.{◌≡◌, ℕ, ◌+◌, ◌<◌, ◌≤◌, List, [], ◌∷◌, ◌++◌, drop, length, map, get_or, Result, Ok, Err, refl, ap, sym, ◌∙◌, append_assoc, arith, length-append}
use Rattle.std.proofs.lemmas.List.{drop_more, length-map}
use Rattle.std.specs.List.{enumerate_from}
use Rattle.job_build.specs.Kinds.{told_from}
use Rattle.text_model.specs.Steps.{◌>>=◌, collect}
use Rattle.text_model.specs.declared.named.Named.{Named}
use Rattle.text_model.specs.declared.raw_options.RawOutput.{RawOutput}

first-refused : {A B E : Type 0} (f : A → Result B E) (before : List B) (x : A) (rest : List A) (e : E) → f x ≡ Err e →
    (collect f (x ∷ rest) >>= λ ys. Ok (before ++ ys)) ≡ Err e
unfolding collect
first-refused f before x rest e refused = rw refused refl

first-built : {A B E : Type 0} (f : A → Result B E) (before : List B) (x : A) (rest : List A) (y : B) → f x ≡ Ok y →
    (collect f (x ∷ rest) >>= λ ys. Ok (before ++ ys)) ≡ (collect f rest >>= λ ys. Ok ((before ++ y ∷ []) ++ ys))
unfolding collect
first-built {B = B} {E = E} f before x rest y built = rw built (by (collect f rest))
  where
    by : (r : Result (List B) E) → ((r >>= λ ys. Ok (y ∷ ys)) >>= λ ys. Ok (before ++ ys)) ≡ (r >>= λ ys. Ok ((before ++ y ∷ []) ++ ys))
    by (Err e) = refl
    by (Ok ys) = ap Ok (sym (append_assoc before (y ∷ []) ys))

at-number : {A : Type 0} (xs : List A) (i : ℕ) (x : A) → i < length xs → x ≡ get_or xs i x → drop i xs ≡ x ∷ drop (i + 1) xs
at-number xs i x inside here = drop_more xs i x inside ∙ ap (λ it. it ∷ drop (i + 1) xs) (sym here)

-- the rest of what is to be built, where an element is refused
pub rest-refused : {A B E : Type 0} (f : ℕ × A → Result B E) (before : List B) (xs : List A) (i : ℕ) (x : A) (e : E) (whole : Result (List B) E) →
    i < length xs → x ≡ get_or xs i x → (collect f (enumerate_from i (drop i xs)) >>= λ ys. Ok (before ++ ys)) ≡ whole → f (i, x) ≡ Err e → whole ≡ Err e
rest-refused f before xs i x e whole inside here known refused =
    sym known ∙ ap (λ them. collect f (enumerate_from i them) >>= λ ys. Ok (before ++ ys)) (at-number xs i x inside here)
    ∙ first-refused f before (i, x) (enumerate_from (i + 1) (drop (i + 1) xs)) e refused

-- and where it is built
pub rest-built : {A B E : Type 0} (f : ℕ × A → Result B E) (before after : List B) (xs : List A) (i : ℕ) (x : A) (y : B) (whole : Result (List B) E) →
    i < length xs → x ≡ get_or xs i x → (collect f (enumerate_from i (drop i xs)) >>= λ ys. Ok (before ++ ys)) ≡ whole → f (i, x) ≡ Ok y →
    after ≡ before ++ y ∷ [] → (collect f (enumerate_from (i + 1) (drop (i + 1) xs)) >>= λ ys. Ok (after ++ ys)) ≡ whole
rest-built f before after xs i x y whole inside here known built new =
    ap (λ them. collect f (enumerate_from (i + 1) (drop (i + 1) xs)) >>= λ ys. Ok (them ++ ys)) new
    ∙ sym (first-built f before (i, x) (enumerate_from (i + 1) (drop (i + 1) xs)) y built)
    ∙ sym (ap (λ them. collect f (enumerate_from i them) >>= λ ys. Ok (before ++ ys)) (at-number xs i x inside here)) ∙ known

told-length : (first : ℕ) (outputs : List RawOutput) → length (told_from first outputs) ≡ length outputs
told-length first [] = refl
told-length first (o ∷ outputs) = rw (told-length (first + 1) outputs) refl

-- there are as many handles behind the inputs as outputs
pub outputs-room : (handles seen : List Named) (inputs : List ℕ) (first count : ℕ) (outputs others : List RawOutput) →
    inputs ≡ map (λ (n : Named). n.handle) handles → count ≡ length inputs → seen ≡ handles ++ told_from first outputs → others ≡ outputs →
    count + length others ≤ length seen
outputs-room handles seen inputs first count outputs others numbered counted all same =
    let one : count ≡ length handles = counted ∙ ap length numbered ∙ length-map handles (λ (n : Named). n.handle) in
    let two : length seen ≡ length handles + length outputs = ap length all ∙ rw (length-append, told-length first outputs) refl in
    let three : length others ≡ length outputs = ap length same in omega (arith, one, two, three)
