-- A record fits a job where it has a cell for each raw handle, absent or of the handle's kind.
use Rattle.std.specs.Prelude.{List, [], ◌∷◌, Option, Some, None}
use Rattle.hive_model.specs.EventRecord.{EventRecord}
use Rattle.hive_model.specs.Job.{Job}
use Rattle.hive_model.specs.declared.algorithm.Raw.{Raw}
use Rattle.hive_model.specs.declared.product.Kind.{Kind}
use Rattle.hive_model.specs.declared.product.Kind.TheVariants as kinds
use Rattle.hive_model.specs.declared.product.Product.{Product}
use Rattle.hive_model.specs.declared.product.Product.TheVariants as product

abbrev pub IsOfKind : Kind → Product → Type 0
IsOfKind kinds.Num (product.Num x) = Unit {0}
IsOfKind kinds.List (product.List xs) = Unit {0}
IsOfKind k p = ⊥

abbrev pub AreCellsOf : List Raw → List (Option Product) → Type 0
AreCellsOf [] [] = Unit {0}
AreCellsOf (r ∷ rs) (None ∷ cells) = AreCellsOf rs cells
AreCellsOf (r ∷ rs) (Some p ∷ cells) = IsOfKind r.kind p × AreCellsOf rs cells
AreCellsOf rs cells = ⊥

abbrev pub Fits : Job → EventRecord → Type 0
Fits job event = AreCellsOf job.raws event.cells
