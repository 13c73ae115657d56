-- The job of a text that was fetched, and of one that is too long.
use Rattle.std.proofs.Common.{◌≡◌, ◌≢◌, ℕ, ◌<◌, ◌≤◌, nat_le, true, false, List, length, Option, Some, None, Result, Ok, Err, refl, ap, sym, ◌∙◌, arith}
use Rattle.std.proofs.lemmas.Bool.Decides.{nat_tests}
use Rattle.std.specs.Option.{IsSomeAnd, option_map}
use Rattle.hive_edge.specs.Shelf.{Fetches, Files, text_of}
use Rattle.hive_edge.specs.declared.shelf.ShelfFault.TheVariants.{Over}
use Rattle.hive_model.specs.Job.{Job}
use Rattle.job_options.specs.Known.{known_language}
use Rattle.text_model.specs.Gives.{Gives}
use Rattle.text_model.specs.Jobs.{job_of}
use Rattle.text_model.specs.Steps.{map_err}
use Rattle.text_model.specs.declared.job_refusal.JobRefusal.{JobRefusal}
use Rattle.text_model.specs.declared.job_refusal.JobRefusal.TheVariants as refusals
use Rattle.text_model.specs.declared.limits.TheConstants.{MOST_OPTIONS_BYTES}
use Rattle.hive_top.specs.Answer.{file_job, named_job}
use Rattle.hive_top.specs.Called.{CountsShelf, IsOfText, ReadsJob}
use Rattle.hive_top.specs.Stopped.{stop_at}
use Rattle.hive_top.specs.declared.stop.Stop.{Stop}
use Rattle.hive_top.specs.declared.stop.Stop.TheVariants as stop

-- what is read of the text under a name is read of the file
reads-along : (told : Option (Result Job Stop)) (it : Result Job Stop) (read : Result Job Stop) → told ≡ Some it → ReadsJob (Some it) read → ReadsJob told read
reads-along told it read e reads = rw e reads

untold : (read : Result Job Stop) → ReadsJob None read
untold (Ok job) = tt
untold (Err stop.Words) = tt
untold (Err stop.Shelf) = tt
untold (Err stop.TooLong) = tt
untold (Err (stop.Options refusal)) = tt
untold (Err stop.NoMemory) = tt

pub job-fetched : (name : List ℕ) (files : Option Files) (out : List ℕ) (read : Result Job Stop) → Fetches files name MOST_OPTIONS_BYTES (Ok tt) out →
    ReadsJob (Some (file_job out)) read → ReadsJob (named_job name files) read
job-fetched name None out read fetched reads = untold read
job-fetched name (Some it) out read fetched reads =
    reads-along (named_job name (Some it)) (file_job out) read (ap (option_map file_job) fetched) reads

pub job-over : (name : List ℕ) (files : Option Files) (out : List ℕ) → Fetches files name MOST_OPTIONS_BYTES (Err Over) out →
    ReadsJob (named_job name files) (Err stop.TooLong)
unfolding file_job
job-over name None out fetched = tt
job-over name (Some it) out fetched = by (text_of name it) fetched
  where
    by : (o : Option (List ℕ)) → IsSomeAnd o (λ all. MOST_OPTIONS_BYTES < length all) → ReadsJob (option_map file_job o) (Err stop.TooLong)
    by None over = absurd over
    by (Some all) over =
        let long : nat_le (length all) MOST_OPTIONS_BYTES ≡ false = grind (arith, nat_tests) in
        rw long refl

pub of-text-calm : (read : Result Job Stop) (before now : ℕ) → IsOfText read → now ≡ before → CountsShelf read before now
of-text-calm (Ok job) before now h same = same
of-text-calm (Err stop.TooLong) before now h same = absurd h
of-text-calm (Err (stop.Options refusal)) before now h same = same
of-text-calm (Err stop.NoMemory) before now h same = same
of-text-calm (Err stop.Words) before now h same = absurd h
of-text-calm (Err stop.Shelf) before now h same = absurd h

pub of-text-words : (read : Result Job Stop) → IsOfText read → read ≡ Err stop.Words → ⊥
of-text-words (Ok job) h e = cc
of-text-words (Err stop.TooLong) h e = cc
of-text-words (Err (stop.Options refusal)) h e = cc
of-text-words (Err stop.NoMemory) h e = cc
of-text-words (Err stop.Words) h e = h
of-text-words (Err stop.Shelf) h e = cc

-- a text within its limit is read to what the definition of a job says

same-job : (text : List ℕ) → length text ≤ MOST_OPTIONS_BYTES → file_job text ≡ map_err stop.Options (job_of known_language text)
unfolding file_job
same-job text few = let fits : nat_le (length text) MOST_OPTIONS_BYTES ≡ true = grind (arith, nat_tests) in rw fits refl

pub reads-built : (text : List ℕ) (job : Job) → length text ≤ MOST_OPTIONS_BYTES → Gives refusals.NoMemory (Ok job) (job_of known_language text) →
    ReadsJob (Some (file_job text)) (Ok job)
reads-built text job few gives = sym (same-job text few ∙ ap (map_err stop.Options) gives)

pub reads-refused : (text : List ℕ) (refusal : JobRefusal) → length text ≤ MOST_OPTIONS_BYTES →
    Gives refusals.NoMemory (Err refusal) (job_of known_language text) →
    ReadsJob (Some (file_job text)) (Err (stop_at refusal))
reads-refused text refusal few gives = by refusal gives
  where
    told : (it : JobRefusal) → job_of known_language text ≡ Err it → Err (stop.Options it) ≡ file_job text
    told it e = sym (same-job text few ∙ ap (map_err stop.Options) e)

    by : (it : JobRefusal) → (it ≢ refusals.NoMemory → job_of known_language text ≡ Err it) → ReadsJob (Some (file_job text)) (Err (stop_at it))
    by (refusals.Options it) gives = told (refusals.Options it) (gives (λ e. cc))
    by (refusals.Repeat path) gives = told (refusals.Repeat path) (gives (λ e. cc))
    by (refusals.UnknownResource path) gives = told (refusals.UnknownResource path) (gives (λ e. cc))
    by (refusals.Graph it) gives = told (refusals.Graph it) (gives (λ e. cc))
    by (refusals.Expr path it) gives = told (refusals.Expr path it) (gives (λ e. cc))
    by (refusals.Tree it) gives = told (refusals.Tree it) (gives (λ e. cc))
    by (refusals.Cut it) gives = told (refusals.Cut it) (gives (λ e. cc))
    by refusals.NoMemory gives = tt

pub refused-of-text : (refusal : JobRefusal) → IsOfText (Err (stop_at refusal))
refused-of-text (refusals.Options it) = tt
refused-of-text (refusals.Repeat path) = tt
refused-of-text (refusals.UnknownResource path) = tt
refused-of-text (refusals.Graph it) = tt
refused-of-text (refusals.Expr path it) = tt
refused-of-text (refusals.Tree it) = tt
refused-of-text (refusals.Cut it) = tt
refused-of-text refusals.NoMemory = tt
