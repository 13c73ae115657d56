use Rattle.std.proofs.Common.{codes, ◌++◌, ◌∙◌, ap, refl, Err}
use Rattle.text_model.proofs.AsciiTexts.{job_of-ascii}
use Rattle.text_model.proofs.Digits.{zero_text, two_text}
use Rattle.text_model.proofs.OnLiterals.{text_on_literals}
use Rattle.text_model.specs.Examples.{data_cycle_text, with_filter}
use Rattle.text_model.specs.Language.{first_language}
use Rattle.text_model.specs.ValuePaths.{below}
use Rattle.text_model.specs.declared.expr_refusal.ExprRefusal.TheVariants.{UnknownName}
use Rattle.text_model.specs.declared.job_refusal.JobRefusal.TheVariants.{Expr}
use Rattle.text_model.proofs.examples.a_cycle_and_an_unknown_name_are_refused.Goals as goal

pub returns-clause-cycle : goal.returns-clause-cycle
unfolding text_on_literals
returns-clause-cycle c = job_of-ascii first_language data_cycle_text refl ∙ refl

pub returns-clause-name : goal.returns-clause-name
unfolding text_on_literals
returns-clause-name c =
    job_of-ascii first_language (with_filter (codes "totl > 5")) refl
    ∙ ap (λ number. Err (Expr (below (below (codes "algorithm") number) (codes "filter")) (UnknownName 0))) two_text

pub returns-clause-line : goal.returns-clause-line
unfolding text_on_literals
returns-clause-line c = ap (λ place. codes "stop options Expr algorithm.2.filter UnknownName " ++ (place ++ codes "\n")) zero_text
