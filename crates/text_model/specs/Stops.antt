-- Stop lines: `stop`, what was being read, the refusal's name, and its fields, with one space before each. That memory ran out
-- is told by no line.
use Rattle.std.specs.Prelude.{codes, decimal, ℕ, List, [], ◌∷◌}
use Rattle.text_model.specs.Report.{line}
use Rattle.text_model.specs.declared.cut_refusal.CutRefusal.{CutRefusal}
use Rattle.text_model.specs.declared.cut_refusal.CutRefusal.TheVariants as cut
use Rattle.text_model.specs.declared.expr_refusal.ExprRefusal.{ExprRefusal}
use Rattle.text_model.specs.declared.expr_refusal.ExprRefusal.TheVariants as expr
use Rattle.text_model.specs.declared.graph_refusal.GraphRefusal.{GraphRefusal}
use Rattle.text_model.specs.declared.graph_refusal.GraphRefusal.TheVariants as graph
use Rattle.text_model.specs.declared.job_refusal.JobRefusal.{JobRefusal}
use Rattle.text_model.specs.declared.job_refusal.JobRefusal.TheVariants as job
use Rattle.text_model.specs.declared.options_refusal.OptionsRefusal.{OptionsRefusal}
use Rattle.text_model.specs.declared.options_refusal.OptionsRefusal.TheVariants as options
use Rattle.text_model.specs.declared.record_refusal.RecordCause.{RecordCause}
use Rattle.text_model.specs.declared.record_refusal.RecordCause.TheVariants as cause
use Rattle.text_model.specs.declared.record_refusal.RecordRefusal.{RecordRefusal}
use Rattle.text_model.specs.declared.timeline_refusal.TimelineCause.{TimelineCause}
use Rattle.text_model.specs.declared.timeline_refusal.TimelineCause.TheVariants as timeline_cause
use Rattle.text_model.specs.declared.tree_refusal.TreeRefusal.{TreeRefusal}
use Rattle.text_model.specs.declared.tree_refusal.TreeRefusal.TheVariants as tree

abbrev pub stop_words : List ℕ
stop_words = line (codes "stop" ∷ codes "words" ∷ [])

abbrev pub stop_shelf : List ℕ
stop_shelf = line (codes "stop" ∷ codes "shelf" ∷ [])

abbrev pub stop_source : List ℕ
stop_source = line (codes "stop" ∷ codes "source" ∷ [])

-- options

abbrev pub options_words : OptionsRefusal → List (List ℕ)
options_words options.Toml = codes "Toml" ∷ []
options_words (options.Unknown path) = codes "Unknown" ∷ path ∷ []
options_words (options.Missing path) = codes "Missing" ∷ path ∷ []
options_words (options.Field path) = codes "Field" ∷ path ∷ []
options_words (options.Name path) = codes "Name" ∷ path ∷ []
options_words (options.Range path) = codes "Range" ∷ path ∷ []
options_words options.NoMemory = []

abbrev pub graph_words : GraphRefusal → List (List ℕ)
graph_words (graph.TwoProducers handle) = codes "TwoProducers" ∷ handle ∷ []
graph_words (graph.NoProducer algorithm handle) = codes "NoProducer" ∷ algorithm ∷ handle ∷ []
graph_words (graph.DataCycle algorithm) = codes "DataCycle" ∷ algorithm ∷ []
graph_words graph.NoMemory = []

-- places are bytes from 0
abbrev pub expr_words : ExprRefusal → List (List ℕ)
expr_words expr.TooLong = codes "TooLong" ∷ []
expr_words (expr.Unexpected at) = codes "Unexpected" ∷ decimal at ∷ []
expr_words (expr.Number at) = codes "Number" ∷ decimal at ∷ []
expr_words (expr.TooDeep at) = codes "TooDeep" ∷ decimal at ∷ []
expr_words (expr.UnknownName at) = codes "UnknownName" ∷ decimal at ∷ []
expr_words expr.TooMany = codes "TooMany" ∷ []
expr_words (expr.Kind at) = codes "Kind" ∷ decimal at ∷ []
expr_words expr.NoMemory = []

abbrev pub tree_words : TreeRefusal → List (List ℕ)
tree_words (tree.UnknownTop name) = codes "UnknownTop" ∷ name ∷ []
tree_words (tree.UnknownMember sequence name) = codes "UnknownMember" ∷ sequence ∷ name ∷ []
tree_words (tree.SharedSequence sequence) = codes "SharedSequence" ∷ sequence ∷ []
tree_words (tree.SequenceCycle sequence) = codes "SequenceCycle" ∷ sequence ∷ []
tree_words tree.TopIsMember = codes "TopIsMember" ∷ []
tree_words (tree.TooDeep sequence) = codes "TooDeep" ∷ sequence ∷ []
tree_words tree.TooManyLeaves = codes "TooManyLeaves" ∷ []
tree_words tree.NoMemory = []

abbrev pub cut_words : CutRefusal → List (List ℕ)
cut_words (cut.Kind sequence) = codes "CutKind" ∷ sequence ∷ []
cut_words (cut.Shared algorithm) = codes "CutShared" ∷ algorithm ∷ []
cut_words (cut.Input algorithm handle) = codes "CutInput" ∷ algorithm ∷ handle ∷ []

abbrev pub job_words : JobRefusal → List (List ℕ)
job_words (job.Options refusal) = options_words refusal
job_words (job.Repeat path) = codes "Repeat" ∷ path ∷ []
job_words (job.UnknownResource path) = codes "UnknownResource" ∷ path ∷ []
job_words (job.Graph refusal) = graph_words refusal
job_words (job.Expr path refusal) = codes "Expr" ∷ path ∷ expr_words refusal
job_words (job.Tree refusal) = tree_words refusal
job_words (job.Cut refusal) = cut_words refusal
job_words job.NoMemory = []

-- asked of the refusals that `job_of` gives, which never tell of memory
unfoldable pub stop_options : JobRefusal → List ℕ
stop_options refusal = line (codes "stop" ∷ codes "options" ∷ job_words refusal)

-- an options text that is over its limit
abbrev pub stop_options_too_long : List ℕ
stop_options_too_long = line (codes "stop" ∷ codes "options" ∷ codes "TooLong" ∷ [])

-- records

abbrev pub cause_word : RecordCause → List ℕ
cause_word cause.TooManyLines = codes "TooManyLines"
cause_word cause.TooMuch = codes "TooMuch"
cause_word cause.LineTooLong = codes "LineTooLong"
cause_word cause.Text = codes "Text"
cause_word cause.Header = codes "Header"
cause_word cause.Fields = codes "Fields"
cause_word cause.TooManyEvents = codes "TooManyEvents"
cause_word cause.Event = codes "Event"
cause_word cause.Length = codes "Length"
cause_word cause.Number = codes "Number"

unfoldable pub stop_record : RecordRefusal → List ℕ
stop_record refusal = line (codes "stop" ∷ codes "record" ∷ decimal refusal.line ∷ cause_word refusal.cause ∷ [])

-- a timeline

abbrev pub timeline_cause_word : TimelineCause → List ℕ
timeline_cause_word timeline_cause.Word = codes "Word"
timeline_cause_word timeline_cause.Fields = codes "Fields"
timeline_cause_word timeline_cause.Number = codes "Number"
timeline_cause_word timeline_cause.NoEnd = codes "NoEnd"
