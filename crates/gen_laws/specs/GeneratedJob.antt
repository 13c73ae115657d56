-- The job of the options that are generated, worked out by hand. The handles are the hits, the divisor, their
-- total and the ratio.
use Rattle.std.specs.Prelude.{codes, ℕ, pos, true, false, List, [], ◌∷◌, None, Some}
use Rattle.hive_model.specs.Algorithm.{Algorithm, plain_algorithm}
use Rattle.hive_model.specs.Job.{Job}
use Rattle.hive_model.specs.Sequence.{Sequence, plain_sequence}
use Rattle.hive_model.specs.declared.algorithm.Output.{Output}
use Rattle.hive_model.specs.declared.algorithm.Raw.{Raw}
use Rattle.hive_model.specs.declared.expr.Binary.TheVariants as binary
use Rattle.hive_model.specs.declared.expr.Function.TheVariants as function
use Rattle.hive_model.specs.declared.expr.Node.{Node}
use Rattle.hive_model.specs.declared.expr.Node.TheVariants as node
use Rattle.hive_model.specs.declared.product.Kind.{Kind}
use Rattle.hive_model.specs.declared.product.Kind.TheVariants as kinds
use Rattle.hive_model.specs.declared.sequence.Member.TheVariants.{Alg, Seq}

abbrev pub raw : List ℕ → Kind → Raw
raw name kind = record { name = name; kind = kind }

abbrev pub number_output : List ℕ → List Node → Output
number_output name value = record { name = name; kind = kinds.Num; value = value }

abbrev pub sum_of_hits : Algorithm
sum_of_hits = record (plain_algorithm (codes "Sum") 2) {
  cardinality = 2;
  resources = 0 ∷ [];
  inputs = 0 ∷ [];
  outputs = number_output (codes "total") (node.Handle 0 ∷ node.Call function.Sum 0 None ∷ []) ∷ [];
}

abbrev pub cut_above_500 : Algorithm
cut_above_500 = record (plain_algorithm (codes "Cut") 3) {
  cardinality = 0;
  inputs = 2 ∷ [];
  filter = Some (node.Handle 2 ∷ node.Number (pos 500) ∷ node.Binary binary.Gt 0 1 ∷ []);
}

abbrev pub ratio : Algorithm
ratio = record (plain_algorithm (codes "Ratio") 3) {
  resources = 0 ∷ [];
  inputs = 1 ∷ [];
  outputs =
      number_output (codes "ratio") (node.Number (pos 100) ∷ node.Handle 1 ∷ node.Binary binary.Div 0 1 ∷ [])
      ∷ [];
}

abbrev pub main_line : Sequence
main_line = record (plain_sequence (codes "Main") (Alg 0 ∷ Alg 1 ∷ [])) { sequential = true }

abbrev pub both : Sequence
both = record (plain_sequence (codes "Top") (Seq 0 ∷ Alg 2 ∷ [])) { short_circuit = false }

abbrev pub generated_job : Job
generated_job = record {
  raws = raw (codes "hits") kinds.List ∷ raw (codes "div") kinds.Num ∷ [];
  resources = record { name = codes "db"; units = 2 } ∷ [];
  algorithms = sum_of_hits ∷ cut_above_500 ∷ ratio ∷ [];
  sequences = main_line ∷ both ∷ [];
  top = 1;
}
