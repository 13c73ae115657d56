-- Texts and what they mean, for the laws of the module `examples`. The job of sum and cut adds up a list, and cuts on the total.
use Rattle.std.specs.Prelude.{codes, ℕ, true, pos, List, [], ◌∷◌, ◌++◌, map, Option, Some, None}
use Rattle.hive_model.specs.Algorithm.{Algorithm, plain_algorithm}
use Rattle.hive_model.specs.EventRecord.{EventRecord}
use Rattle.hive_model.specs.EventResult.{EventResult}
use Rattle.hive_model.specs.Job.{Job}
use Rattle.hive_model.specs.Sequence.{plain_sequence}
use Rattle.hive_model.specs.declared.decision.Decision.TheVariants as decision
use Rattle.hive_model.specs.declared.decision.End.TheVariants as ends
use Rattle.hive_model.specs.declared.decision.EventStatus.TheVariants as status
use Rattle.hive_model.specs.declared.entry.Entry.{Entry}
use Rattle.hive_model.specs.declared.entry.Entry.TheVariants.{Admit, Claim, Done, Retire, Last}
use Rattle.hive_model.specs.declared.expr.Binary.TheVariants as binary
use Rattle.hive_model.specs.declared.expr.Function.TheVariants as function
use Rattle.hive_model.specs.declared.expr.Node.TheVariants as node
use Rattle.hive_model.specs.declared.outcome.Fault.TheVariants as fault
use Rattle.hive_model.specs.declared.outcome.Outcome.TheVariants as outcome
use Rattle.hive_model.specs.declared.outcome.Place.TheVariants as place
use Rattle.hive_model.specs.declared.product.Kind.TheVariants as kinds
use Rattle.hive_model.specs.declared.product.Product.{Product}
use Rattle.hive_model.specs.declared.product.Product.TheVariants as product
use Rattle.hive_model.specs.declared.sequence.Member.TheVariants.{Alg}
use Rattle.text_model.specs.Records.{Known}
use Rattle.text_model.specs.declared.line.Progress.{Progress}
use Rattle.text_model.specs.declared.record_refusal.RecordCause.{RecordCause}

-- sum and cut

abbrev pub with_filter : List ℕ → List ℕ
with_filter filter =
    codes "top = \"Top\"\n"
    ++ codes "[[raw]]\nname = \"hits\"\nkind = \"list\"\n"
    ++ codes "[[raw]]\nname = \"run\"\nkind = \"num\"\n"
    ++ codes "[[algorithm]]\nname = \"Sum\"\ninputs = [\"hits\"]\n"
    ++ codes "[[algorithm.output]]\nname = \"total\"\nkind = \"num\"\nvalue = \"sum(hits)\"\n"
    ++ codes "[[algorithm]]\nname = \"Cut\"\ninputs = [\"total\"]\nfilter = \"" ++ filter ++ codes "\"\n"
    ++ codes "[[sequence]]\nname = \"Top\"\nmembers = [\"Sum\", \"Cut\"]\nsequential = true\n"

abbrev pub sum_and_cut_text : List ℕ
sum_and_cut_text = with_filter (codes "total > 5")

abbrev pub second_version_text : List ℕ
second_version_text = codes "version = 2\n" ++ sum_and_cut_text

abbrev pub sum : Algorithm
sum = record (plain_algorithm (codes "Sum") 2) {
  inputs = 0 ∷ [];
  outputs = record { name = codes "total"; kind = kinds.Num; value = node.Handle 0 ∷ node.Call function.Sum 0 None ∷ [] } ∷ [];
}

abbrev pub cut_above_five : Algorithm
cut_above_five = record (plain_algorithm (codes "Cut") 3) {
  inputs = 2 ∷ [];
  filter = Some (node.Handle 2 ∷ node.Number (pos 5) ∷ node.Binary binary.Gt 0 1 ∷ []);
}

abbrev pub sum_and_cut : Job
sum_and_cut = record {
  raws = record { name = codes "hits"; kind = kinds.List } ∷ record { name = codes "run"; kind = kinds.Num } ∷ [];
  resources = [];
  algorithms = sum ∷ cut_above_five ∷ [];
  sequences = record (plain_sequence (codes "Top") (Alg 0 ∷ Alg 1 ∷ [])) { sequential = true } ∷ [];
  top = 0;
}

-- other options

-- `A` and `B` wait for one another
abbrev pub data_cycle_text : List ℕ
data_cycle_text =
    codes "top = \"Top\"\n"
    ++ codes "algorithm = [\n"
    ++ codes "{ name = \"A\", inputs = [\"b\"], output = [{ name = \"a\", kind = \"num\", value = \"b\" }] },\n"
    ++ codes "{ name = \"B\", inputs = [\"a\"], output = [{ name = \"b\", kind = \"num\", value = \"a\" }] },\n"
    ++ codes "]\n"
    ++ codes "sequence = [{ name = \"Top\", members = [\"A\", \"B\"] }]\n"

-- an output without a name, and a filter that is no text
abbrev pub output_before_filter_text : List ℕ
output_before_filter_text = codes "top = \"T\"\nalgorithm = [{ name = \"A\", filter = 1, output = [{}, 1] }]\n"

-- `Use` takes what `P` produces below a sequence with `cut`
abbrev pub early_or_text : List ℕ
early_or_text =
    codes "top = \"Top\"\n"
    ++ codes "raw = [{ name = \"hits\", kind = \"list\" }]\n"
    ++ codes "algorithm = [\n"
    ++ codes "{ name = \"A\", inputs = [\"hits\"], output = [{ name = \"a\", kind = \"num\", value = \"sum(hits)\" }] },\n"
    ++ codes "{ name = \"P\", inputs = [\"a\"], output = [{ name = \"p\", kind = \"num\", value = \"a * 2\" }] },\n"
    ++ codes "{ name = \"Fast\" },\n"
    ++ codes "{ name = \"Use\", inputs = [\"p\"], output = [{ name = \"u\", kind = \"num\", value = \"p + 1\" }] },\n"
    ++ codes "]\n"
    ++ codes "sequence = [\n"
    ++ codes "{ name = \"Line\", members = [\"A\", \"P\"], sequential = true },\n"
    ++ codes "{ name = \"Any\", members = [\"Line\", \"Fast\"], mode_or = true, cut = true },\n"
    ++ codes "{ name = \"Top\", members = [\"Any\", \"Use\"], sequential = true },\n"
    ++ codes "]\n"

-- records of sum and cut

abbrev pub list : List ℕ → Option Product
list numbers = Some (product.List (map pos numbers))

abbrev pub num : ℕ → Option Product
num n = Some (product.Num (pos n))

-- of the run 9
abbrev pub record_with : ℕ → Option Product → EventRecord
record_with event hits = record { event = event; cells = hits ∷ num 9 ∷ [] }

abbrev pub first_record : EventRecord
first_record = record_with 1 (list (3 ∷ 4 ∷ []))

abbrev pub second_record : EventRecord
second_record = record_with 2 (list (1 ∷ 2 ∷ []))

abbrev pub read : List EventRecord → Known
read records = record { records = records; refusal = None }

abbrev pub refused : List EventRecord → ℕ → RecordCause → Known
refused records line cause = record { records = records; refusal = Some (record { line = line; cause = cause }) }

-- behind a header, so many lines and bytes
abbrev pub behind : ℕ → ℕ → Progress
behind lines bytes = record { lines = lines; bytes = bytes; events = 0; header = true }

-- a result, and its report

-- of the first record
abbrev pub first_result : EventResult
first_result = record {
  event = 1;
  status = status.Ok;
  decisions = decision.True ∷ [];
  ends = ends.Accepted ∷ ends.Accepted ∷ [];
  store = list (3 ∷ 4 ∷ []) ∷ num 9 ∷ num 7 ∷ [];
}

abbrev pub first_report : List ℕ
first_report =
    codes "event 1 ok true\n"
    ++ codes "node Top true\n"
    ++ codes "alg Sum EVTACCEPTED\n"
    ++ codes "alg Cut EVTACCEPTED\n"
    ++ codes "put hits [3 4]\n"
    ++ codes "put run 9\n"
    ++ codes "put total 7\n"

-- a journal, and its text

abbrev pub entries : List Entry
entries =
    Admit 0 1 ∷ Claim 0 0 (Some 0) 1 ∷ Done 1 (outcome.Failed (place.Output 0) fault.Overflow) ∷ Last ∷ Retire 0 ∷ []

abbrev pub entries_text : List ℕ
entries_text = codes "admit 0 1\nclaim 0 0 0 1\ndone 1 failed 0 overflow\nlast\nretire 0\n"
