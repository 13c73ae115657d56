-- Lists that a loop makes piece by piece.
use Rattle.std.proofs.Common.{◌≡◌, ◌<◌, ◌≤◌, ◌+◌, ℕ, List, [], ◌∷◌, ◌++◌, length, get_or, map, take, sym, ap, ◌∙◌, append_assoc, arith}
use Rattle.std.specs.List.{enumerate_from, flat_map, range_with_len}
use Rattle.std.proofs.lemmas.List.{append-nil, map-append, take_all, take_more}
use Rattle.std.proofs.lemmas.List.FromFn.{get_or-enumerate_from, map-range_with_len_more}
use Rattle.std.proofs.lemmas.Grind.{flat_map-append}

-- an element for each number, one more of them
pub numbered_more : {X : Type 0} (f : ℕ → X) (now after : List X) (i : ℕ) (x : X) → now ≡ map f (range_with_len 0 i) →
    after ≡ now ++ x ∷ [] → x ≡ f i → after ≡ map f (range_with_len 0 (i + 1))
numbered_more f now after i x h e is =
    e ∙ ap (λ y. now ++ y ∷ []) is ∙ ap (λ them. them ++ f i ∷ []) h
    ∙ sym (map-range_with_len_more f 0 i i (omega arith))

-- the same behind a front, of what the elements are seen as
pub shown_more : {X Y : Type 0} (v : X → Y) (f : ℕ → Y) (front : List Y) (now after : List X) (i : ℕ) (x : X) →
    map v now ≡ front ++ map f (range_with_len 0 i) → after ≡ now ++ x ∷ [] → v x ≡ f i →
    map v after ≡ front ++ map f (range_with_len 0 (i + 1))
shown_more v f front now after i x h e is =
    ap (map v) e ∙ map-append v now (x ∷ []) ∙ ap (λ them. them ++ v x ∷ []) h
    ∙ append_assoc front (map f (range_with_len 0 i)) (v x ∷ [])
    ∙ ap (λ y. front ++ (map f (range_with_len 0 i) ++ y ∷ [])) is
    ∙ ap (λ them. front ++ them) (sym (map-range_with_len_more f 0 i i (omega arith)))

-- one more element of a list that is mapped
pub mapped_more : {X Y : Type 0} (f : X → Y) (xs : List X) (i : ℕ) (d : X) (now after : List Y) (y : Y) →
    i < length xs → now ≡ map f (take i xs) → after ≡ now ++ y ∷ [] → y ≡ f (get_or xs i d) →
    after ≡ map f (take (i + 1) xs)
mapped_more f xs i d now after y b h e is =
    e ∙ ap (λ z. now ++ z ∷ []) is ∙ ap (λ them. them ++ f (get_or xs i d) ∷ []) h
    ∙ sym (ap (map f) (take_more xs i d b) ∙ map-append f (take i xs) (get_or xs i d ∷ []))

pub flat_map_more : {X Y : Type 0} (f : X → List Y) (xs : List X) (i : ℕ) (d : X) → i < length xs →
    flat_map f (take (i + 1) xs) ≡ flat_map f (take i xs) ++ f (get_or xs i d)
flat_map_more f xs i d h =
    ap (flat_map f) (take_more xs i d h)
    ∙ flat_map-append f (take i xs) (get_or xs i d ∷ [])
    ∙ ap (λ ys. flat_map f (take i xs) ++ ys) (append-nil (f (get_or xs i d)))

-- one more element's pieces, behind a front
pub pieces_more : {X Y : Type 0} (f : X → List Y) (xs : List X) (i : ℕ) (d : X) (front now after these : List Y)
    (first : Y) →
    i < length xs → now ≡ front ++ (first ∷ flat_map f (take i xs)) → after ≡ now ++ these →
    these ≡ f (get_or xs i d) → after ≡ front ++ (first ∷ flat_map f (take (i + 1) xs))
pieces_more f xs i d front now after these first h e last is =
    last ∙ ap (λ ys. now ++ ys) is ∙ ap (λ ys. ys ++ f (get_or xs i d)) e
    ∙ append_assoc front (first ∷ flat_map f (take i xs)) (f (get_or xs i d))
    ∙ ap (λ ys. front ++ (first ∷ ys)) (sym (flat_map_more f xs i d h))

-- the pieces of all elements, behind a front
pub pieces_all : {X Y : Type 0} (f : X → List Y) (xs ys : List X) (i : ℕ) (front now : List Y) (first : Y) →
    length xs ≤ i → now ≡ front ++ (first ∷ flat_map f (take i xs)) → xs ≡ ys → now ≡ front ++ (first ∷ flat_map f ys)
pieces_all f xs ys i front now first h e same =
    e ∙ ap (λ them. front ++ (first ∷ flat_map f them)) (take_all i xs h ∙ same)

-- the element of a place, with its number
pub numbered_at : {X : Type 0} (xs : List X) (i : ℕ) (x : X) → i < length xs → x ≡ get_or xs i x →
    get_or (enumerate_from 0 xs) i (i, x) ≡ (i, x)
numbered_at xs i x h e =
    let same : 0 + i ≡ i = omega arith in
    get_or-enumerate_from 0 xs i (i, x) h ∙ ap (λ k. (k, get_or xs i x)) same ∙ ap (λ y. (i, y)) (sym e)
