-- What there is to do is what the words ask for, with the options that were read.
use Rattle.std.specs.Prelude.{◌≡◌, ◌≢◌, ℕ, Bool, true, List, [], Option, Some, None, Ok, Err}
use Rattle.std.specs.Arc.{arc_value}
use Rattle.event_laws.specs.Uncut.{HasNoCut}
use Rattle.hive_edge.specs.Shelf.{Files}
use Rattle.hive_gen.specs.EventTexts.{records_text}
use Rattle.hive_gen.specs.OptionsText.{options_text}
use Rattle.hive_model.specs.Job.{Job}
use Rattle.hive_model.specs.Valid.{IsValidJob}
use Rattle.hive_pump.specs.declared.plan.Plan.{Plan}
use Rattle.hive_top.specs.Answer.{Answer, checked, file_job, generated, named_job, stopped}
use Rattle.hive_top.specs.Called.{CountsShelf, IsOfText, ReadsJob}
use Rattle.hive_top.specs.Words.{IsPossible, IsWithin, command_of, file_of}
use Rattle.hive_top.specs.declared.commands.Command.{Command}
use Rattle.hive_top.specs.declared.commands.Command.TheVariants.{OnFile, Generate, Bulk}
use Rattle.hive_top.specs.declared.commands.Concurrency.{Concurrency}
use Rattle.hive_top.specs.declared.commands.Generated.{Generated}
use Rattle.hive_top.specs.declared.commands.How.{How}
use Rattle.hive_top.specs.declared.commands.Input.{Input}
use Rattle.hive_top.specs.declared.commands.Verb.{Verb}
use Rattle.hive_top.specs.declared.commands.Verb.TheVariants.{Run, Check}
use Rattle.hive_top.specs.declared.stop.Stop.{Stop}
use Rattle.hive_top.specs.declared.stop.Stop.TheVariants as stop
use Rattle.hive_top.specs.declared.task.GeneratedRun.{GeneratedRun}
use Rattle.hive_top.specs.declared.task.Notice.{Notice}
use Rattle.hive_top.specs.declared.task.Notice.TheVariants as notice
use Rattle.hive_top.specs.declared.task.Task.{Task}
use Rattle.hive_top.specs.declared.task.Task.TheVariants as task

-- the shelf has FILE, where the words name one
abbrev pub HasFile : List (List ℕ) → (List ℕ → Type 0) → Type 0
HasFile words has = (verb : Verb) → command_of words ≡ Some (OnFile verb) → has (file_of words)

abbrev pub plan_of : Concurrency → Bool → Plan
plan_of it brief = record { slots = it.slots; workers = it.workers; brief = brief }

-- a job that can be run so
pub record CanRun (job : Job) (concurrency : Concurrency) : Type 0 where
  pub valid : IsValidJob job
  pub uncut : HasNoCut job
  pub possible : IsPossible concurrency

-- The job of FILE is run.
pub record IsRunTask (asked : Option Command) (name : List ℕ) (files : Option Files) (before now : ℕ) (job : Job)
    (plan : Plan) : Type 0 where
  pub how : How
  pub is : asked ≡ Some (OnFile (Run how))
  pub read : ReadsJob (named_job name files) (Ok job)
  pub fetched : now ≡ before
  pub can : CanRun job how.concurrency
  pub plan_is : plan ≡ plan_of how.concurrency how.brief

-- generated records with room for one line
pub record IsGenerated (input : Input) (concurrency : Concurrency) (job : Job) (it : GeneratedRun) : Type 0 where
  pub job_is : arc_value it.job ≡ job
  pub plan_is : it.plan ≡ plan_of concurrency true
  pub records : it.records.rest ≡ records_text input.start input.events
  pub line : it.line.got ≡ []

-- They are run through the job of the generated options.
pub record IsGeneratedTask (asked : Option Command) (before now : ℕ) (it : GeneratedRun) : Type 0 where
  pub input : Input
  pub concurrency : Concurrency
  pub is : asked ≡ Some (Bulk input concurrency)
  pub job : Job
  pub read : Ok job ≡ file_job options_text
  pub calm : now ≡ before
  pub can : CanRun job concurrency
  pub made : IsGenerated input concurrency job it

-- The job of FILE is told.
pub record IsCheckTask (asked : Option Command) (name : List ℕ) (files : Option Files) (before now : ℕ) (job : Job) :
    Type 0 where
  pub is : asked ≡ Some (OnFile Check)
  pub read : ReadsJob (named_job name files) (Ok job)
  pub fetched : now ≡ before
  pub valid : IsValidJob job

-- A generated text is written.
pub record IsTextTask (asked : Option Command) (before now : ℕ) (text : Generated) : Type 0 where
  pub is : asked ≡ Some (Generate text)
  pub calm : now ≡ before
  pub within : IsWithin (Generate text)

-- what stops a call, by what it was asked for: wrong words, the files and options, or the generated options
abbrev pub IsStopOf : Option Command → List ℕ → Option Files → ℕ → ℕ → Stop → Type 0
IsStopOf None name files before now it = (it ≡ stop.Words) × (now ≡ before)
IsStopOf (Some (OnFile verb)) name files before now it =
    (it ≢ stop.Words) × ReadsJob (named_job name files) (Err it) × CountsShelf (Err it) before now
IsStopOf (Some (Generate text)) name files before now it = ⊥
IsStopOf (Some (Bulk input concurrency)) name files before now it =
    ReadsJob (Some (file_job options_text)) (Err it) × IsOfText (Err it) × (now ≡ before)

abbrev pub IsNoticeOf : Option Command → List ℕ → Option Files → ℕ → ℕ → Notice → Type 0
IsNoticeOf asked name files before now (notice.Job job) = IsCheckTask asked name files before now job
IsNoticeOf asked name files before now (notice.Generated text) = IsTextTask asked before now text
IsNoticeOf asked name files before now (notice.Stop it) = IsStopOf asked name files before now it

-- the counts are those of the shelf
abbrev pub IsTask : Option Command → List ℕ → Option Files → ℕ → ℕ → Task → Type 0
IsTask asked name files before now (task.Run job plan) = IsRunTask asked name files before now (arc_value job) plan
IsTask asked name files before now (task.RunGenerated it) = IsGeneratedTask asked before now it
IsTask asked name files before now (task.Write it) = IsNoticeOf asked name files before now it

-- what a notice says, and the status that goes with it
abbrev pub told : Notice → Answer
told (notice.Job job) = checked job
told (notice.Generated text) = generated text
told (notice.Stop it) = stopped it

-- it is within the limits of what is written
abbrev pub CanTell : Notice → Type 0
CanTell (notice.Job job) = IsValidJob job
CanTell (notice.Generated text) = IsWithin (Generate text)
CanTell (notice.Stop it) = Unit {0}
