-- A desk of a job, and claims that are held of desks of that job.
use Rattle.std.specs.Prelude.{◌≡◌, List}
use Rattle.std.specs.List.{AllByRecursion}
use Rattle.expr_code.specs.Claim.{Claim as Work, IsOfJob}
use Rattle.hive_model.specs.History.{DeskState}
use Rattle.hive_model.specs.Job.{Job}
use Rattle.core_rows.specs.declared.hand.Hand.{Hand}
use Rattle.scheduler_core.specs.declared.answers.Claim.{Claim}
use Rattle.scheduler_core.specs.declared.answers.Claim.TheVariants.{Job as Working, Idle, Over, NoMemory}

abbrev pub AreOfJob : Job → List Work → Type 0
AreOfJob job held = AllByRecursion (IsOfJob job) held

abbrev pub IsDeskOf : Job → DeskState → Type 0
IsDeskOf job desk = desk.job ≡ job

abbrev pub IsHandOf : Job → Hand → Type 0
IsHandOf job it = IsDeskOf job it.desk × AreOfJob job it.held.items

-- what is handed out is of the job
abbrev pub HandsOut : Job → Claim → Type 0
HandsOut job (Working v) = IsOfJob job v
HandsOut job (Idle running) = Unit {0}
HandsOut job Over = Unit {0}
HandsOut job NoMemory = Unit {0}
