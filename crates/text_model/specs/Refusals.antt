-- The refusal of a part of the reading, as the refusal of the job. Memory that ran out is the same everywhere.
use Rattle.std.specs.Prelude.{ℕ, List}
use Rattle.text_model.specs.declared.expr_refusal.ExprRefusal.{ExprRefusal}
use Rattle.text_model.specs.declared.expr_refusal.ExprRefusal.TheVariants as expr
use Rattle.text_model.specs.declared.graph_refusal.GraphRefusal.{GraphRefusal}
use Rattle.text_model.specs.declared.graph_refusal.GraphRefusal.TheVariants as graph
use Rattle.text_model.specs.declared.job_refusal.JobRefusal.{JobRefusal}
use Rattle.text_model.specs.declared.job_refusal.JobRefusal.TheVariants.{Options, Graph, Expr, Tree, NoMemory}
use Rattle.text_model.specs.declared.options_refusal.OptionsRefusal.{OptionsRefusal}
use Rattle.text_model.specs.declared.options_refusal.OptionsRefusal.TheVariants as options
use Rattle.text_model.specs.declared.tree_refusal.TreeRefusal.{TreeRefusal}
use Rattle.text_model.specs.declared.tree_refusal.TreeRefusal.TheVariants as tree

abbrev pub of_options : OptionsRefusal → JobRefusal
of_options options.NoMemory = NoMemory
of_options refusal = Options refusal

abbrev pub of_graph : GraphRefusal → JobRefusal
of_graph graph.NoMemory = NoMemory
of_graph refusal = Graph refusal

-- that of the expression at this path
abbrev pub of_expr : List ℕ → ExprRefusal → JobRefusal
of_expr path expr.NoMemory = NoMemory
of_expr path refusal = Expr path refusal

abbrev pub of_tree : TreeRefusal → JobRefusal
of_tree tree.NoMemory = NoMemory
of_tree refusal = Tree refusal
