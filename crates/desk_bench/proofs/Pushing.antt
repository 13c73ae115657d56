-- A cell more, for a raw handle more.
use Rattle.std.proofs.Common.{◌≡◌, ◌<◌, ◌+◌, ℕ, List, [], ◌∷◌, ◌++◌, length, get_or, take}
use Rattle.std.proofs.Common.{ap, sym, subst, ◌∙◌, Option, Some, None}
use Rattle.std.proofs.lemmas.List.{take_more}
use Rattle.hive_model.specs.Fits.{AreCellsOf, IsOfKind}
use Rattle.hive_model.specs.declared.algorithm.Raw.{Raw}
use Rattle.hive_model.specs.declared.product.Product.{Product}

cells-push : (raws : List Raw) (cells : List (Option Product)) (r : Raw) (p : Product) →
    AreCellsOf raws cells → IsOfKind r.kind p → AreCellsOf (raws ++ r ∷ []) (cells ++ Some p ∷ [])
cells-push [] [] r p are is = (is, tt)
cells-push [] (cell ∷ cells) r p are is = absurd are
cells-push (q ∷ raws) [] r p are is = absurd are
cells-push (q ∷ raws) (None ∷ cells) r p are is = cells-push raws cells r p are is
cells-push (q ∷ raws) (Some x ∷ cells) r p are is = (are.0, cells-push raws cells r p are.1 is)

pub one-more : (raws : List Raw) (cells pushed : List (Option Product)) (i : ℕ) (r : Raw) (p : Product) →
    i < length raws → r ≡ get_or raws i r → pushed ≡ cells ++ Some p ∷ [] → IsOfKind r.kind p →
    AreCellsOf (take i raws) cells → AreCellsOf (take (i + 1) raws) pushed
one-more raws cells pushed i r p inside is new kind are =
    let front : take (i + 1) raws ≡ take i raws ++ r ∷ [] =
    take_more raws i r inside ∙ ap (λ (q : Raw). take i raws ++ q ∷ []) (sym is) in
    subst (λ (rs : List Raw). AreCellsOf rs pushed) (sym front)
    (subst (λ (cs : List (Option Product)). AreCellsOf (take i raws ++ r ∷ []) cs) (sym new)
    (cells-push (take i raws) cells r p are kind))
