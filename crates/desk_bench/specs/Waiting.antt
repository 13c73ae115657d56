-- A desk of a job, and records that may be admitted there.
use Rattle.std.specs.Prelude.{◌≡◌, List}
use Rattle.std.specs.List.{AllByRecursion}
use Rattle.expr_code.specs.Claim.{IsOfJob}
use Rattle.hive_model.specs.EventRecord.{EventRecord}
use Rattle.hive_model.specs.Fits.{Fits}
use Rattle.hive_model.specs.History.{DeskState}
use Rattle.hive_model.specs.Job.{Job}
use Rattle.scheduler_core.specs.declared.answers.Claim.{Claim}
use Rattle.scheduler_core.specs.declared.answers.Claim.TheVariants.{Job as Working, Idle, Over, NoMemory}

abbrev pub AreFitting : Job → List EventRecord → Type 0
AreFitting job records = AllByRecursion (Fits job) records

abbrev pub IsDeskOf : Job → DeskState → Type 0
IsDeskOf job desk = desk.job ≡ job

-- what is handed out is of the job
abbrev pub HandsOut : Job → Claim → Type 0
HandsOut job (Working v) = IsOfJob job v
HandsOut job (Idle running) = Unit {0}
HandsOut job Over = Unit {0}
HandsOut job NoMemory = Unit {0}
