-- Names that differ are numbered one after another.
use Rattle.std.proofs.Common.{◌≡◌, ℕ, zero, suc, ◌+◌, ◌<◌, Bool, true, false, not, ◌||◌, List, [], ◌∷◌, ◌++◌, length, get_or, map, take, refl, ap, sym, subst, ◌∙◌, arith}
use Rattle.std.proofs.lemmas.List.{take_more, take-map, get_or-map, length-map}
use Rattle.std.proofs.lemmas.List.Elements.{All-from_recursion}
use Rattle.std.specs.Cmp.Lexicographic.{nat_list_eq_equiv}
use Rattle.std.specs.List.{AllByRecursion, IsDistinct, list_any}
use Rattle.hive_model.specs.Same.{same_text}
use Rattle.text_model.specs.Forest.{Branch, branch_names}
use Rattle.text_model.specs.Names.{is_among}

distinct-new : (all : List (List ℕ)) (i : ℕ) (d : List ℕ) → IsDistinct same_text all → i < length all → is_among (take i all) (get_or all i d) ≡ false
unfolding IsDistinct
distinct-new [] i d h lt = absurd (omega arith)
distinct-new (y ∷ all) zero d h lt = refl
distinct-new (y ∷ all) (suc i) d h lt =
    let apart : same_text y (get_or all i d) ≡ false = All-from_recursion (λ (z : List ℕ). same_text y z ≡ false) all h.0 i d (omega arith) in
    rw (nat_list_eq_equiv.symm (get_or all i d) y ∙ apart) (distinct-new all i d h.1 (omega arith))

pub name-added : (all names later : List (List ℕ)) (i : ℕ) (name : List ℕ) (new : Bool) → IsDistinct same_text all → i < length all →
    name ≡ get_or all i name → names ≡ take i all → new ≡ not (is_among names name) → (new ≡ true → later ≡ names ++ name ∷ []) → later ≡ take (i + 1) all
name-added all names later i name new differ lt at before is added =
    let fresh : is_among names name ≡ false = ap (λ them. is_among them name) before ∙ ap (is_among (take i all)) at ∙ distinct-new all i name differ lt in
    added (is ∙ ap not fresh) ∙ ap (λ them. them ++ name ∷ []) before ∙ ap (λ it. take i all ++ it ∷ []) at ∙ sym (take_more all i name lt)

pub named : (all : List (List ℕ)) (i : ℕ) (name item : List ℕ) → name ≡ item → item ≡ get_or all i item → name ≡ get_or all i name
named all i name item same at = subst (λ (it : List ℕ). it ≡ get_or all i it) (sym same) at

pub branch-added : (branches : List Branch) (names later : List (List ℕ)) (i : ℕ) (branch : Branch) (name : List ℕ) (new : Bool) →
    IsDistinct same_text (branch_names branches) → i < length branches → branch ≡ get_or branches i branch → name ≡ branch.name →
    names ≡ branch_names (take i branches) → new ≡ not (is_among names name) → (new ≡ true → later ≡ names ++ name ∷ []) →
    later ≡ branch_names (take (i + 1) branches)
branch-added branches names later i branch name new differ lt at named before is added =
    name-added (branch_names branches) names later i name new differ
    (rw (length-map branches (λ (b : Branch). b.name)) lt)
    (named ∙ ap (λ (b : Branch). b.name) at ∙ sym (get_or-map (λ (b : Branch). b.name) branches i branch name lt))
    (before ∙ sym (take-map (λ (b : Branch). b.name) i branches)) is added
    ∙ take-map (λ (b : Branch). b.name) (i + 1) branches

-- the parts of names that differ

both-parts : (P : List ℕ → Type 0) (xs ys : List (List ℕ)) → AllByRecursion P (xs ++ ys) → AllByRecursion P xs
both-parts P [] ys all = tt
both-parts P (x ∷ xs) ys all = (all.0, both-parts P xs ys all.1)

pub distinct-first : (xs ys : List (List ℕ)) → IsDistinct same_text (xs ++ ys) → IsDistinct same_text xs
unfolding IsDistinct
distinct-first [] ys h = tt
distinct-first (x ∷ xs) ys h = (both-parts (λ (y : List ℕ). same_text x y ≡ false) xs ys h.0, distinct-first xs ys h.1)

pub distinct-second : (xs ys : List (List ℕ)) → IsDistinct same_text (xs ++ ys) → IsDistinct same_text ys
unfolding IsDistinct
distinct-second [] ys h = h
distinct-second (x ∷ xs) ys h = distinct-second xs ys h.1
