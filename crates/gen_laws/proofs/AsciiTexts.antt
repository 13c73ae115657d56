-- A text of ASCII is UTF-8, so its job is that of the tree that `toml` reads from it.
use Rattle.std.proofs.Common.{◌≡◌, ℕ, zero, suc, true, List, [], ◌∷◌, Option, Result, refl, IsAscii, arith}
use Rattle.std.specs.Char.{is_ascii}
use Rattle.std.specs.List.{list_all}
use Rattle.std.proofs.lemmas.Bool.{and_parts}
use Rattle.std.proofs.lemmas.Bool.Decides.{nat_tests}
use Rattle.std.proofs.lemmas.Str.{IsUtf8-from_ascii, is_utf8-from_IsUtf8}
use Rattle.toml.specs.Data.{Members}
use Rattle.toml.specs.Parse.{parse_document}
use Rattle.hive_model.specs.Job.{Job}
use Rattle.text_model.specs.Jobs.{job_of, job_of_raw}
use Rattle.text_model.specs.Language.{Language}
use Rattle.text_model.specs.Options.{read_of, read_tree, tree_of}
use Rattle.text_model.specs.Refusals.{of_options}
use Rattle.text_model.specs.Steps.{◌>>=◌, map_err, or_refuse}
use Rattle.text_model.specs.declared.job_refusal.JobRefusal.{JobRefusal}
use Rattle.text_model.specs.declared.options_refusal.OptionsRefusal.TheVariants.{Toml}

are_ascii : (text : List ℕ) → list_all is_ascii text ≡ true → IsAscii text
are_ascii [] h i = grind arith
are_ascii (b ∷ bs) h zero = grind (arith, nat_tests, and_parts (is_ascii b) (list_all is_ascii bs) h)
are_ascii (b ∷ bs) h (suc i) = are_ascii bs (and_parts (is_ascii b) (list_all is_ascii bs) h).1 i

pub tree_of-ascii : (text : List ℕ) → list_all is_ascii text ≡ true → tree_of text ≡ parse_document text
tree_of-ascii text h = rw (is_utf8-from_IsUtf8 text (IsUtf8-from_ascii text (are_ascii text h))) refl

-- the job of a tree, if there is one
abbrev pub job_by_tree : Language → Option Members → Result Job JobRefusal
job_by_tree language tree = map_err of_options (or_refuse Toml tree >>= read_tree language) >>= job_of_raw

pub job_of-ascii : (language : Language) (text : List ℕ) → list_all is_ascii text ≡ true
    → job_of language text ≡ job_by_tree language (parse_document text)
unfolding job_of read_of
job_of-ascii language text h = rw (tree_of-ascii text h) refl
