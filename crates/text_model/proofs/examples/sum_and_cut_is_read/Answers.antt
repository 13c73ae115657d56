use Rattle.std.proofs.Common.{◌∙◌, refl}
use Rattle.text_model.proofs.AsciiTexts.{job_of-ascii}
use Rattle.text_model.proofs.OnLiterals.{text_on_literals}
use Rattle.text_model.specs.Examples.{sum_and_cut_text}
use Rattle.text_model.specs.Language.{first_language}
use Rattle.text_model.proofs.examples.sum_and_cut_is_read.Goals as goal

pub returns : goal.returns
unfolding text_on_literals
returns c = job_of-ascii first_language sum_and_cut_text refl ∙ refl
