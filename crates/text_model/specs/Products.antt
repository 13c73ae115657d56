-- What the cells of a record hold, by the kinds of the raw handles. `?` is absent. A num is a numeral with an optional `-`. A list is
-- such numerals with one space between, at most 1,024 of them, or empty where the cell is.
use Rattle.std.specs.Prelude.{ℕ, nat_lt, if◌then◌else◌, List, [], ◌∷◌, length, zip, Option, Some, None, Result, Ok}
use Rattle.hive_model.specs.Same.{same_text}
use Rattle.hive_model.specs.declared.algorithm.Raw.{Raw}
use Rattle.hive_model.specs.declared.limits.TheConstants.{MOST_NUMBERS}
use Rattle.hive_model.specs.declared.product.Kind.{Kind}
use Rattle.hive_model.specs.declared.product.Kind.TheVariants as kinds
use Rattle.hive_model.specs.declared.product.Product.{Product}
use Rattle.hive_model.specs.declared.product.Product.TheVariants as product
use Rattle.text_model.specs.Numerals.{signed}
use Rattle.text_model.specs.Pieces.{cut}
use Rattle.text_model.specs.Steps.{◌>>=◌, collect, or_refuse, refuse_if}
use Rattle.text_model.specs.declared.bytes.TheConstants.{QUESTION_MARK, SPACE}
use Rattle.text_model.specs.declared.record_refusal.RecordCause.{RecordCause}
use Rattle.text_model.specs.declared.record_refusal.RecordCause.TheVariants.{Length, Number}

-- the numbers of some parts
unfoldable pub list_of : List (List ℕ) → Result Product RecordCause
list_of parts = do
  few ← refuse_if (nat_lt MOST_NUMBERS (length parts)) Length
  numbers ← collect (λ part. or_refuse Number (signed part)) parts
  Ok (product.List numbers)

unfoldable pub product_of : Kind → List ℕ → Result Product RecordCause
product_of kinds.Num cell = or_refuse Number (signed cell) >>= λ number. Ok (product.Num number)
product_of kinds.List [] = Ok (product.List [])
product_of kinds.List (b ∷ bs) = list_of (cut SPACE (b ∷ bs))

unfoldable pub cell_of : Raw × List ℕ → Result (Option Product) RecordCause
cell_of (raw, cell) =
    if same_text cell (QUESTION_MARK ∷ []) then Ok None else (product_of raw.kind cell >>= λ it. Ok (Some it))

-- the first refusal from the left, or all
abbrev pub products : List Raw → List (List ℕ) → Result (List (Option Product)) RecordCause
products raws cells = collect cell_of (zip raws cells)
