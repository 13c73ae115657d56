use Rattle.std.proofs.Common.{codes, ◌++◌, ◌∙◌, ap, refl, Err}
use Rattle.text_model.proofs.AsciiTexts.{job_of-ascii}
use Rattle.text_model.proofs.OnLiterals.{text_on_literals}
use Rattle.text_model.specs.Examples.{early_or_text}
use Rattle.text_model.specs.Language.{first_language, whole_language}
use Rattle.text_model.specs.declared.job_refusal.JobRefusal.TheVariants.{Options}
use Rattle.text_model.specs.declared.options_refusal.OptionsRefusal.TheVariants.{Unknown}
use Rattle.text_model.proofs.Digits.{two_text}
use Rattle.text_model.proofs.examples.what_is_cut_off_is_taken_below.Goals as goal

pub returns-clause-cut : goal.returns-clause-cut
unfolding text_on_literals
returns-clause-cut c = job_of-ascii whole_language early_or_text refl ∙ refl

pub returns-clause-unknown : goal.returns-clause-unknown
unfolding text_on_literals
returns-clause-unknown c =
    job_of-ascii first_language early_or_text refl ∙ ap (λ number. Err (Options (Unknown (codes "sequence." ++ number)))) two_text
