-- The generated options are read as their job.
use Rattle.std.proofs.Common.{◌≡◌, ◌∙◌, Bool, true, false, ℕ, Ok, refl}
use Rattle.std.specs.Char.{is_ascii}
use Rattle.std.specs.List.{list_all}
use Rattle.toml.specs.Parse.{parse_document}
use Rattle.gen_laws.proofs.AsciiTexts.{job_by_tree, job_of-ascii}
use Rattle.gen_laws.proofs.OnLiterals.{job_on_literals}
use Rattle.gen_laws.specs.GeneratedJob.{generated_job}
use Rattle.hive_gen.specs.OptionsText.{options_text}
use Rattle.text_model.specs.Jobs.{job_of}
use Rattle.text_model.specs.Language.{Language}

ascii : list_all is_ascii options_text ≡ true
unfolding options_text
ascii = refl

tree-read : (newest : ℕ) (has_cut : Bool) →
    job_by_tree (record { newest = newest; has_cut = has_cut }) (parse_document options_text)
    ≡ Ok generated_job
unfolding options_text job_on_literals
tree-read newest true = refl
tree-read newest false = refl

pub options-read : (language : Language) → job_of language options_text ≡ Ok generated_job
options-read language = job_of-ascii language options_text ascii ∙ tree-read language.newest language.has_cut
