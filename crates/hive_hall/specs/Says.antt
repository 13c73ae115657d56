-- What each call says of the history that it found when it got the lock, and of the one that it left. Both are
-- legal, the answer is the scheduler core's answer there, and what was added stands outright.
use Rattle.std.specs.Prelude.{◌≡◌, ℕ, ◌+◌, true, false, List, [], ◌∷◌, ◌++◌, length, Option, Some, None}
use Rattle.expr_code.specs.Claim.{Claim as Work, Done as Executed}
use Rattle.hive_model.specs.EventRecord.{EventRecord}
use Rattle.hive_model.specs.History.{DeskState, is_stopped, records_of}
use Rattle.hive_model.specs.Job.{Job}
use Rattle.hive_model.specs.declared.entry.Entry.{Entry}
use Rattle.hive_model.specs.declared.entry.Entry.TheVariants as entry
use Rattle.hive_model.specs.declared.item.Item.{Item}
use Rattle.hive_model.specs.declared.item.Item.TheVariants.{Admitted, Entered, Stop}
use Rattle.scheduler_core.specs.Says.{AdmitSays, BackSays, ClaimSays, DoneSays, LastSays, RetireSays}
use Rattle.scheduler_core.specs.declared.answers.Admit.{Admit}
use Rattle.scheduler_core.specs.declared.answers.Admit.TheVariants.{At, Closed, Full, NoMemory as NoRoom}
use Rattle.scheduler_core.specs.declared.answers.Claim.{Claim}
use Rattle.scheduler_core.specs.declared.answers.Claim.TheVariants.{Job as Working, Idle, Over, NoMemory as NoneToWork}
use Rattle.scheduler_core.specs.declared.answers.Finished.{Finished}
use Rattle.scheduler_core.specs.declared.answers.Give.{Give}
use Rattle.scheduler_core.specs.declared.answers.Give.TheVariants.{Booked, NotOutstanding}
use Rattle.scheduler_core.specs.declared.answers.Said.{Said}
use Rattle.scheduler_core.specs.declared.answers.Said.TheVariants.{Now, Before}
use Rattle.hive_hall.specs.Legal.{IsHistoryOf}
use Rattle.hive_hall.specs.declared.answers.Ask.{Ask}
use Rattle.hive_hall.specs.declared.answers.Ask.TheVariants.{Told, Stopped}

abbrev pub Histories : Type 1
Histories = List Item → List Item → Type 0

abbrev pub Cores : Type 1
Cores = DeskState → DeskState → Type 0

-- one item more, or none
abbrev pub Adds : Item → Histories
Adds item found left = left ≡ found ++ item ∷ []

abbrev pub AddsNone : Histories
AddsNone found left = left ≡ found

abbrev pub Enters : Entry → Histories
Enters e found left = Adds (Entered e) found left

-- One step of a legal history: the scheduler core of the history that was found and that of the one that was left
-- are as `says` tells, and the items as `adds` does.
pub record IsStep (job : Job) (slots : ℕ) (says : Cores) (adds : Histories) (found left : List Item) : Type 0 where
  pub before : DeskState
  pub legal : IsHistoryOf job slots found before
  pub after : DeskState
  pub still_legal : IsHistoryOf job slots left after
  pub said : says before after
  pub added : adds found left

-- admit

abbrev pub AdmitAdds : EventRecord → Admit → Histories
AdmitAdds event (At slot place) found left = Adds (Admitted slot (length (records_of found) + 1) event) found left
AdmitAdds event (Closed back) found left = AddsNone found left
AdmitAdds event (Full back) found left = AddsNone found left
AdmitAdds event (NoRoom back) found left = AddsNone found left

abbrev pub AdmitHere : Job → ℕ → EventRecord → Admit → Histories
AdmitHere job slots event answer found left =
    IsStep job slots (λ d after. AdmitSays d event answer after) (AdmitAdds event answer) found left

-- claim: a Stop decides, wherever it stands

abbrev pub ClaimAdds : ℕ → Claim → Histories
ClaimAdds worker (Working v) found left =
    (slot : ℕ) × Enters (entry.Claim slot v.algorithm v.clone worker) found left
ClaimAdds worker (Idle running) found left = AddsNone found left
ClaimAdds worker Over found left = AddsNone found left
ClaimAdds worker NoneToWork found left = AddsNone found left

abbrev pub IsSame : Cores
IsSame d after = after ≡ d

abbrev pub ClaimHere : Job → ℕ → ℕ → Ask → Histories
ClaimHere job slots worker (Told answer) found left = (is_stopped found ≡ false)
    × IsStep job slots (λ d after. ClaimSays d worker answer after) (ClaimAdds worker answer) found left
ClaimHere job slots worker Stopped found left =
    (is_stopped found ≡ true) × IsStep job slots IsSame AddsNone found left

-- done and back

abbrev pub GiveAdds : {T : Type 0} → Entry → Give T → Histories
GiveAdds e Booked found left = Enters e found left
GiveAdds e (NotOutstanding back) found left = AddsNone found left

abbrev pub DoneHere : Job → ℕ → Executed → Give Executed → Histories
DoneHere job slots v answer found left =
    IsStep job slots (λ d after. DoneSays d v answer after)
    (GiveAdds (entry.Done v.claim.ticket v.left.outcome) answer) found left

abbrev pub BackHere : Job → ℕ → Work → Give Work → Histories
BackHere job slots v answer found left =
    IsStep job slots (λ d after. BackSays d v answer after) (GiveAdds (entry.Back v.ticket) answer) found left

-- retire

abbrev pub RetireAdds : Option Finished → Histories
RetireAdds (Some f) found left = (slot : ℕ) × Enters (entry.Retire slot) found left
RetireAdds None found left = AddsNone found left

abbrev pub RetireHere : Job → ℕ → Option Finished → Histories
RetireHere job slots answer found left =
    IsStep job slots (λ d after. RetireSays d answer after) (RetireAdds answer) found left

-- last and stop

abbrev pub SaidAdds : Item → Said → Histories
SaidAdds item Now found left = Adds item found left
SaidAdds item Before found left = AddsNone found left

abbrev pub LastHere : Job → ℕ → Said → Histories
LastHere job slots answer found left =
    IsStep job slots (λ d after. LastSays d answer after) (SaidAdds (Entered entry.Last) answer) found left

-- the scheduler core isn't asked
abbrev pub StopHere : Job → ℕ → Said → Histories
StopHere job slots Now found left =
    (is_stopped found ≡ false) × IsStep job slots IsSame (Adds Stop) found left
StopHere job slots Before found left =
    (is_stopped found ≡ true) × IsStep job slots IsSame AddsNone found left
