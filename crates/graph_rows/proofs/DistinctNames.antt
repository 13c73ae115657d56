-- Names stay distinct where a new one comes behind them.
use Rattle.std.proofs.Common.{◌≡◌, ℕ, ◌+◌, ◌<◌, Bool, true, false, not, List, [], ◌∷◌, ◌++◌, length, get_or, map, take, refl, ap, sym, subst, ◌∙◌, append_assoc, arith}
use Rattle.std.proofs.lemmas.Bool.{or_parts, not-true}
use Rattle.std.proofs.lemmas.List.{take_more, map_push}
use Rattle.std.specs.Cmp.Lexicographic.{nat_list_eq_equiv}
use Rattle.std.specs.List.{AllByRecursion, IsDistinct, list_any}
use Rattle.hive_model.specs.Same.{same_text}
use Rattle.text_model.specs.Forest.{Branch, branch_names}
use Rattle.text_model.specs.Names.{is_among}

all-push : (P : List ℕ → Type 0) (xs : List (List ℕ)) (x : List ℕ) → AllByRecursion P xs → P x → AllByRecursion P (xs ++ x ∷ [])
all-push P [] x all it = (it, tt)
all-push P (y ∷ xs) x all it = (all.0, all-push P xs x all.1 it)

pub distinct-push : (xs : List (List ℕ)) (x : List ℕ) → IsDistinct same_text xs → list_any (same_text x) xs ≡ false → IsDistinct same_text (xs ++ x ∷ [])
unfolding IsDistinct
distinct-push [] x h e = (tt, tt)
distinct-push (y ∷ xs) x h e =
    let parts = or_parts (same_text x y) (list_any (same_text x) xs) e in
    (all-push (λ (z : List ℕ). same_text y z ≡ false) xs x h.0 (nat_list_eq_equiv.symm y x ∙ parts.0), distinct-push xs x h.1 parts.1)

-- one that was added
pub added-distinct : (names later : List (List ℕ)) (name : List ℕ) (new : Bool) → IsDistinct same_text names → new ≡ not (is_among names name) → new ≡ true →
    (new ≡ true → later ≡ names ++ name ∷ []) → IsDistinct same_text later
added-distinct names later name new h is fresh added =
    subst (λ (them : List (List ℕ)). IsDistinct same_text them) (sym (added fresh))
    (distinct-push names name h (not-true (is_among names name) (sym is ∙ fresh)))

pub added-name : (all names later : List (List ℕ)) (i : ℕ) (item name : List ℕ) (new : Bool) → i < length all → item ≡ get_or all i item → name ≡ item →
    names ≡ take i all → new ≡ true → (new ≡ true → later ≡ names ++ name ∷ []) → later ≡ take (i + 1) all
added-name all names later i item name new lt at same before fresh added =
    added fresh ∙ ap (λ them. them ++ name ∷ []) before ∙ ap (λ it. take i all ++ it ∷ []) (same ∙ at) ∙ sym (take_more all i item lt)

pub added-branch : (first : List (List ℕ)) (all : List Branch) (names later : List (List ℕ)) (i : ℕ) (item : Branch) (name : List ℕ) (new : Bool) → i < length all →
    item ≡ get_or all i item → name ≡ item.name → names ≡ first ++ branch_names (take i all) → new ≡ true → (new ≡ true → later ≡ names ++ name ∷ []) →
    later ≡ first ++ branch_names (take (i + 1) all)
added-branch first all names later i item name new lt at same before fresh added =
    added fresh ∙ ap (λ them. them ++ name ∷ []) before ∙ append_assoc first (branch_names (take i all)) (name ∷ [])
    ∙ ap (λ (them : List (List ℕ)). first ++ them)
    (ap (λ (it : List ℕ). branch_names (take i all) ++ it ∷ []) (same ∙ ap (λ (b : Branch). b.name) at)
    ∙ sym (map_push (λ (b : Branch). b.name) (take i all) (get_or all i item))
    ∙ ap branch_names (sym (take_more all i item lt)))

pub none-distinct : (names : List (List ℕ)) → names ≡ [] → IsDistinct same_text names
unfolding IsDistinct
none-distinct names e = subst (λ (them : List (List ℕ)). IsDistinct same_text them) (sym e) tt
