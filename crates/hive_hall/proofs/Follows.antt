-- A step of a history adds one item, or none.
use Rattle.std.proofs.Common.{ℕ, List, Option, Some, None, inl, inr}
use Rattle.expr_code.specs.Claim.{Claim as Work, Done as Executed}
use Rattle.hive_model.specs.EventRecord.{EventRecord}
use Rattle.hive_model.specs.Job.{Job}
use Rattle.hive_model.specs.declared.entry.Entry.{Entry}
use Rattle.hive_model.specs.declared.item.Item.{Item}
use Rattle.scheduler_core.specs.declared.answers.Admit.{Admit}
use Rattle.scheduler_core.specs.declared.answers.Admit.TheVariants.{At, Closed, Full, NoMemory as NoRoom}
use Rattle.scheduler_core.specs.declared.answers.Claim.{Claim}
use Rattle.scheduler_core.specs.declared.answers.Claim.TheVariants.{Job as Working, Idle, Over, NoMemory as NoneToWork}
use Rattle.scheduler_core.specs.declared.answers.Finished.{Finished}
use Rattle.scheduler_core.specs.declared.answers.Give.{Give}
use Rattle.scheduler_core.specs.declared.answers.Give.TheVariants.{Booked, NotOutstanding}
use Rattle.scheduler_core.specs.declared.answers.Said.{Said}
use Rattle.scheduler_core.specs.declared.answers.Said.TheVariants.{Now, Before}
use Rattle.turn_lock.specs.History.{MayFollow}
use Rattle.hive_hall.specs.Says.{Adds, AddsNone, AdmitAdds, AdmitHere, BackHere, ClaimAdds, ClaimHere, DoneHere, GiveAdds, LastHere, RetireAdds, RetireHere, SaidAdds, StopHere}
use Rattle.hive_hall.specs.declared.answers.Ask.{Ask}
use Rattle.hive_hall.specs.declared.answers.Ask.TheVariants.{Told, Stopped}

one : (item : Item) (found left : List Item) → Adds item found left → MayFollow found left
one item found left added = inr (item, added)

none : (found left : List Item) → AddsNone found left → MayFollow found left
none found left same = inl same

module _ (found left : List Item) where
  admit-adds : (event : EventRecord) (answer : Admit) → AdmitAdds event answer found left → MayFollow found left
  admit-adds event (At slot place) added = one _ found left added
  admit-adds event (Closed back) added = none found left added
  admit-adds event (Full back) added = none found left added
  admit-adds event (NoRoom back) added = none found left added

  claim-adds : (worker : ℕ) (answer : Claim) → ClaimAdds worker answer found left → MayFollow found left
  claim-adds worker (Working v) added = one _ found left added.1
  claim-adds worker (Idle running) added = none found left added
  claim-adds worker Over added = none found left added
  claim-adds worker NoneToWork added = none found left added

  give-adds : {T : Type 0} (e : Entry) (answer : Give T) → GiveAdds e answer found left → MayFollow found left
  give-adds e Booked added = one _ found left added
  give-adds e (NotOutstanding back) added = none found left added

  retire-adds : (answer : Option Finished) → RetireAdds answer found left → MayFollow found left
  retire-adds (Some f) added = one _ found left added.1
  retire-adds None added = none found left added

  said-adds : (item : Item) (answer : Said) → SaidAdds item answer found left → MayFollow found left
  said-adds item Now added = one item found left added
  said-adds item Before added = none found left added

  module _ (job : Job) (slots : ℕ) where
    pub admit-follows : (event : EventRecord) (answer : Admit) → AdmitHere job slots event answer found left →
        MayFollow found left
    admit-follows event answer step = admit-adds event answer step.added

    pub claim-follows : (worker : ℕ) (answer : Ask) → ClaimHere job slots worker answer found left →
        MayFollow found left
    claim-follows worker (Told answer) step = claim-adds worker answer step.1.added
    claim-follows worker Stopped step = none found left step.1.added

    pub done-follows : (v : Executed) (answer : Give Executed) → DoneHere job slots v answer found left →
        MayFollow found left
    done-follows v answer step = give-adds _ answer step.added

    pub back-follows : (v : Work) (answer : Give Work) → BackHere job slots v answer found left → MayFollow found left
    back-follows v answer step = give-adds _ answer step.added

    pub retire-follows : (answer : Option Finished) → RetireHere job slots answer found left → MayFollow found left
    retire-follows answer step = retire-adds answer step.added

    pub last-follows : (answer : Said) → LastHere job slots answer found left → MayFollow found left
    last-follows answer step = said-adds _ answer step.added

    pub stop-follows : (answer : Said) → StopHere job slots answer found left → MayFollow found left
    stop-follows Now step = one _ found left step.1.added
    stop-follows Before step = none found left step.1.added
