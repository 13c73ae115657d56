use Rattle.std.proofs.Common.{codes, [], ◌∙◌, refl}
use Rattle.text_model.proofs.AsciiTexts.{job_of-ascii}
use Rattle.text_model.proofs.OnLiterals.{text_on_literals}
use Rattle.text_model.specs.Language.{first_language}
use Rattle.text_model.proofs.examples.small_options_are_refused.Goals as goal

pub returns-clause-no_bytes : goal.returns-clause-no_bytes
unfolding text_on_literals
returns-clause-no_bytes c = job_of-ascii first_language [] refl ∙ refl

pub returns-clause-unfinished : goal.returns-clause-unfinished
unfolding text_on_literals
returns-clause-unfinished c = job_of-ascii first_language (codes "top = ") refl ∙ refl

pub returns-clause-number : goal.returns-clause-number
unfolding text_on_literals
returns-clause-number c = job_of-ascii first_language (codes "top = 1") refl ∙ refl

pub returns-clause-no_sequence : goal.returns-clause-no_sequence
unfolding text_on_literals
returns-clause-no_sequence c = job_of-ascii first_language (codes "top = \"T\"") refl ∙ refl

pub returns-clause-key : goal.returns-clause-key
unfolding text_on_literals
returns-clause-key c = job_of-ascii first_language (codes "tops = 1") refl ∙ refl
