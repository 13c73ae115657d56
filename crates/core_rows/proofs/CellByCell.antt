-- The cells of a record, one after another.
use Rattle.std.proofs.Common.{◌≡◌, ◌<◌, ◌+◌, ℕ, List, ◌∷◌, length, get_or, drop, ap, sym, subst, ◌∙◌}
use Rattle.std.proofs.Common.{Option, Some, None}
use Rattle.std.specs.Prelude.{MatchOption}
use Rattle.std.proofs.lemmas.List.{drop_more}
use Rattle.hive_model.specs.Fits.{AreCellsOf, IsOfKind}
use Rattle.hive_model.specs.declared.algorithm.Raw.{Raw}
use Rattle.hive_model.specs.declared.product.Product.{Product}

one-more : (r : Raw) (cell : Option Product) (raws : List Raw) (cells : List (Option Product)) →
    MatchOption cell (Unit {0}) (IsOfKind r.kind) → AreCellsOf raws cells →
    AreCellsOf (r ∷ raws) (cell ∷ cells)
one-more r (Some p) raws cells is rest = (is, rest)
one-more r None raws cells is rest = rest

pub cells-more : (raws : List Raw) (cells : List (Option Product)) (i : ℕ) (r : Raw) (cell : Option Product) →
    i < length raws → i < length cells → r ≡ get_or raws i r → cell ≡ get_or cells i cell →
    MatchOption cell (Unit {0}) (IsOfKind r.kind) →
    AreCellsOf (drop (i + 1) raws) (drop (i + 1) cells) → AreCellsOf (drop i raws) (drop i cells)
cells-more raws cells i r cell inside within is there fits rest =
    let front : drop i raws ≡ r ∷ drop (i + 1) raws =
    drop_more raws i r inside ∙ ap (λ (q : Raw). q ∷ drop (i + 1) raws) (sym is) in
    let back : drop i cells ≡ cell ∷ drop (i + 1) cells =
    drop_more cells i cell within ∙ ap (λ (q : Option Product). q ∷ drop (i + 1) cells) (sym there) in
    subst (λ (rs : List Raw). AreCellsOf rs (drop i cells)) (sym front)
    (subst (λ (cs : List (Option Product)). AreCellsOf (r ∷ drop (i + 1) raws) cs) (sym back)
    (one-more r cell (drop (i + 1) raws) (drop (i + 1) cells) fits rest))
