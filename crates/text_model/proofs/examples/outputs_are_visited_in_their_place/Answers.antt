use Rattle.std.proofs.Common.{codes, ◌∙◌, ap, refl, Err}
use Rattle.text_model.proofs.AsciiTexts.{job_of-ascii}
use Rattle.text_model.proofs.Digits.{one_text}
use Rattle.text_model.proofs.OnLiterals.{text_on_literals}
use Rattle.text_model.specs.Examples.{output_before_filter_text}
use Rattle.text_model.specs.Language.{first_language}
use Rattle.text_model.specs.ValuePaths.{below}
use Rattle.text_model.specs.declared.job_refusal.JobRefusal.TheVariants.{Options}
use Rattle.text_model.specs.declared.options_refusal.OptionsRefusal.TheVariants.{Missing}
use Rattle.text_model.proofs.examples.outputs_are_visited_in_their_place.Goals as goal

pub returns : goal.returns
unfolding text_on_literals
returns c =
    job_of-ascii first_language output_before_filter_text refl
    ∙ ap (λ number. Err (Options (Missing (below (below (below (below (codes "algorithm") number) (codes "output")) number) (codes "name"))))) one_text
