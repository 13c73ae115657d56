-- Jobs that are valid, and jobs that are not.
use Rattle.std.specs.Prelude.{codes, ℕ, ◌+◌, pos, true, List, [], ◌∷◌, ◌++◌, map, Some, None}
use Rattle.std.specs.List.{range_with_len}
use Rattle.hive_model.specs.Algorithm.{Algorithm, plain_algorithm}
use Rattle.hive_model.specs.EventRecord.{EventRecord}
use Rattle.hive_model.specs.Job.{Job}
use Rattle.hive_model.specs.Sequence.{Sequence, plain_sequence}
use Rattle.hive_model.specs.declared.algorithm.Output.{Output}
use Rattle.hive_model.specs.declared.algorithm.Raw.{Raw}
use Rattle.hive_model.specs.declared.expr.Binary.TheVariants.{Div, Gt}
use Rattle.hive_model.specs.declared.expr.Function.TheVariants.{Sum}
use Rattle.hive_model.specs.declared.expr.Node.TheVariants as node
use Rattle.hive_model.specs.declared.product.Kind.TheVariants as kinds
use Rattle.hive_model.specs.declared.product.Product.TheVariants as product
use Rattle.hive_model.specs.declared.sequence.Member.TheVariants.{Alg, Seq}

-- a sum of the hits, and a cut on it: `sum(hits)` and `total > 5`

abbrev pub raws : List Raw
raws = record { name = codes "hits"; kind = kinds.List } ∷ record { name = codes "run"; kind = kinds.Num } ∷ []

abbrev pub total : Output
total = record { name = codes "total"; kind = kinds.Num; value = node.Handle 0 ∷ node.Call Sum 0 None ∷ [] }

abbrev pub summing : Algorithm
summing = record (plain_algorithm (codes "Sum") 2) { inputs = 0 ∷ []; outputs = total ∷ [] }

abbrev pub cutting : Algorithm
cutting = record (plain_algorithm (codes "Cut") 3) { inputs = 2 ∷ []; filter = Some (node.Handle 2 ∷ node.Number (pos 5) ∷ node.Binary Gt 0 1 ∷ []) }

abbrev pub sum_and_cut : Job
sum_and_cut = record {
  raws = raws;
  resources = [];
  algorithms = summing ∷ cutting ∷ [];
  sequences = record (plain_sequence (codes "Top") (Alg 0 ∷ Alg 1 ∷ [])) { sequential = true } ∷ [];
  top = 0;
}

-- its record `1,3 4,9`
abbrev pub three_and_four : EventRecord
three_and_four = record { event = 1; cells = Some (product.List (pos 3 ∷ pos 4 ∷ [])) ∷ Some (product.Num (pos 9)) ∷ [] }

-- an OR that is decided at once, and cuts an algorithm off: `1 / n`

abbrev pub slow : Algorithm
slow = record (plain_algorithm (codes "Slow") 1) {
  inputs = 0 ∷ [];
  outputs = record { name = codes "q"; kind = kinds.Num; value = node.Number (pos 1) ∷ node.Handle 0 ∷ node.Binary Div 0 1 ∷ [] } ∷ [];
}

abbrev pub cut_or : Job
cut_or = record {
  raws = record { name = codes "n"; kind = kinds.Num } ∷ [];
  resources = [];
  algorithms = slow ∷ [];
  sequences = plain_sequence (codes "Yes") [] ∷ record (plain_sequence (codes "Top") (Seq 0 ∷ Alg 0 ∷ [])) { mode_or = true; cut = true } ∷ [];
  top = 1;
}

-- what is wrong with these is said by their names

abbrev pub of_sequences : List Sequence → Job
of_sequences sequences = record { raws = []; resources = []; algorithms = []; sequences = sequences; top = 0 }

abbrev pub own_member : Job
own_member = of_sequences (plain_sequence (codes "Top") [] ∷ plain_sequence (codes "Loop") (Seq 1 ∷ []) ∷ [])

abbrev pub taking_its_own : Algorithm
taking_its_own = record (plain_algorithm (codes "Own") 0) {
  inputs = 0 ∷ [];
  outputs = record { name = codes "own"; kind = kinds.Num; value = node.Handle 0 ∷ [] } ∷ [];
}

abbrev pub own_output : Job
own_output = record (of_sequences (plain_sequence (codes "Top") (Alg 0 ∷ []) ∷ [])) { algorithms = taking_its_own ∷ [] }

-- a sequence whose only member is the next one. Its name is its number, so that no two have one name
abbrev pub above_next : ℕ → Sequence
above_next number = plain_sequence (number ∷ []) (Seq (number + 1) ∷ [])

-- so many of them, one below the other, and below them an empty one
abbrev pub tower : ℕ → List Sequence
tower height = map above_next (range_with_len 0 height) ++ plain_sequence (height ∷ []) [] ∷ []

abbrev pub too_deep : Job
too_deep = of_sequences (tower 64)
