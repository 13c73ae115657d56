use Rattle.std.proofs.Common.{codes, ◌++◌, ◌∙◌, ap, refl, Err}
use Rattle.text_model.proofs.AsciiTexts.{job_of-ascii}
use Rattle.text_model.proofs.Digits.{one_text}
use Rattle.text_model.proofs.OnLiterals.{text_on_literals}
use Rattle.text_model.specs.Examples.{second_version_text, sum_and_cut_text}
use Rattle.text_model.specs.Language.{cut_language, whole_language}
use Rattle.text_model.specs.declared.job_refusal.JobRefusal.TheVariants.{Options}
use Rattle.text_model.specs.declared.options_refusal.OptionsRefusal.TheVariants.{Unknown}
use Rattle.text_model.proofs.examples.versions_differ.Goals as goal

pub returns-clause-third : goal.returns-clause-third
unfolding text_on_literals
returns-clause-third c = job_of-ascii whole_language (codes "version = 3\n" ++ sum_and_cut_text) refl ∙ refl

pub returns-clause-second : goal.returns-clause-second
unfolding text_on_literals
returns-clause-second c = job_of-ascii cut_language second_version_text refl ∙ refl

pub returns-clause-same : goal.returns-clause-same
unfolding text_on_literals
returns-clause-same c = job_of-ascii whole_language second_version_text refl ∙ refl

pub returns-clause-mode : goal.returns-clause-mode
unfolding text_on_literals
returns-clause-mode c =
    job_of-ascii whole_language (sum_and_cut_text ++ codes "mode = \"and\"\n") refl
    ∙ ap (λ number. Err (Options (Unknown (codes "sequence." ++ number)))) one_text

pub returns-clause-mode_or : goal.returns-clause-mode_or
unfolding text_on_literals
returns-clause-mode_or c =
    job_of-ascii whole_language (second_version_text ++ codes "mode_or = true\n") refl
    ∙ ap (λ number. Err (Options (Unknown (codes "sequence." ++ number)))) one_text
