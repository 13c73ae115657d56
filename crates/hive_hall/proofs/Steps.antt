-- One step of a board: the desk's call as a step of the history that the board keeps.
use Rattle.std.proofs.Common.{◌≡◌, ℕ, true, false, is_some, length, Option, Some, None, refl, ap, ◌∙◌}
use Rattle.std.proofs.lemmas.Bool.{true≢false}
use Rattle.expr_code.specs.Claim.{Claim as Work, Done as Executed}
use Rattle.hive_model.specs.EventRecord.{EventRecord}
use Rattle.hive_model.specs.History.{DeskState, history}
use Rattle.hive_model.specs.declared.entry.Entry.{Entry}
use Rattle.hive_model.specs.declared.entry.Entry.TheVariants as entry
use Rattle.scheduler_core.specs.Says.{AdmitSays, BackSays, ClaimSays, DoneSays, LastSays, RetireSays, with_entry}
use Rattle.scheduler_core.specs.State.{IsDesk}
use Rattle.scheduler_core.specs.declared.answers.Admit.{Admit}
use Rattle.scheduler_core.specs.declared.answers.Admit.TheVariants.{At, Closed, Full, NoMemory as NoRoom}
use Rattle.scheduler_core.specs.declared.answers.Claim.{Claim}
use Rattle.scheduler_core.specs.declared.answers.Claim.TheVariants.{Job as Working, Idle, Over, NoMemory as NoneToWork}
use Rattle.scheduler_core.specs.declared.answers.Finished.{Finished}
use Rattle.scheduler_core.specs.declared.answers.Give.{Give}
use Rattle.scheduler_core.specs.declared.answers.Give.TheVariants.{Booked, NotOutstanding}
use Rattle.scheduler_core.specs.declared.answers.Said.{Said}
use Rattle.scheduler_core.specs.declared.answers.Said.TheVariants.{Now, Before}
use Rattle.hive_hall.specs.Says.{Adds, AddsNone, AdmitAdds, AdmitHere, BackHere, ClaimAdds, ClaimHere, Cores, DoneHere, Enters, GiveAdds, Histories, IsSame, IsStep, LastHere, RetireAdds, RetireHere, SaidAdds, StopHere}
use Rattle.hive_hall.specs.declared.answers.Ask.TheVariants.{Told, Stopped}
use Rattle.hive_model.specs.declared.item.Item.TheVariants.{Entered, Stop}
use Rattle.hive_hall.proofs.Histories.{history-admitted, history-entered, history-stop, history-stopped, is-history}
use Rattle.hive_hall.proofs.Items.{StopsAt, admit_of}

module _ (d after : DeskState) (stop : Option ℕ) (desk : IsDesk d) (still : IsDesk after)
    (within : StopsAt stop (length d.journal)) where
  -- the desk is as it was
  stays : (says : Cores) (adds : Histories) → after ≡ d → says d after →
      (history after stop ≡ history d stop → adds (history d stop) (history after stop)) →
      IsStep d.job d.slots says adds (history d stop) (history after stop)
  stays says adds same said added =
      record {
        before = d;
        legal = is-history d.job d.slots d stop refl refl desk;
        after = after;
        still_legal = is-history d.job d.slots after stop (ap (λ (x : DeskState). x.job) same)
            (ap (λ (x : DeskState). x.slots) same) still;
        said = said;
        added = added (ap (λ (x : DeskState). history x stop) same);
      }

  -- its journal has that entry more
  enters : (says : Cores) (adds : Histories) (e : Entry) → admit_of e ≡ 0 → after ≡ with_entry d e → says d after →
      (Enters e (history d stop) (history after stop) → adds (history d stop) (history after stop)) →
      IsStep d.job d.slots says adds (history d stop) (history after stop)
  enters says adds e plain is said added =
      record {
        before = d;
        legal = is-history d.job d.slots d stop refl refl desk;
        after = after;
        still_legal = is-history d.job d.slots after stop (ap (λ (x : DeskState). x.job) is)
            (ap (λ (x : DeskState). x.slots) is) still;
        said = said;
        added = added (ap (λ (x : DeskState). history x stop) is ∙ history-entered d stop e plain within);
      }

  pub admits : (event : EventRecord) (answer : Admit) → AdmitSays d event answer after →
      AdmitHere d.job d.slots event answer (history d stop) (history after stop)
  admits event (At slot place) says =
      let appended = says.1 in
      record {
        before = d;
        legal = is-history d.job d.slots d stop refl refl desk;
        after = after;
        still_legal = is-history d.job d.slots after stop (ap (λ (x : DeskState). x.job) appended)
            (ap (λ (x : DeskState). x.slots) appended) still;
        said = says;
        added = ap (λ (x : DeskState). history x stop) appended ∙ history-admitted d stop slot event desk within;
      }
  admits event (Closed back) says =
      stays (λ x y. AdmitSays x event (Closed back) y) (AdmitAdds event (Closed back)) says.1 says (λ same. same)
  admits event (Full back) says =
      stays (λ x y. AdmitSays x event (Full back) y) (AdmitAdds event (Full back)) says.1 says (λ same. same)
  admits event (NoRoom back) says =
      stays (λ x y. AdmitSays x event (NoRoom back) y) (AdmitAdds event (NoRoom back)) says.1 says (λ same. same)

  claimed : (worker : ℕ) (answer : Claim) → ClaimSays d worker answer after →
      IsStep d.job d.slots (λ x y. ClaimSays x worker answer y) (ClaimAdds worker answer) (history d stop)
      (history after stop)
  claimed worker (Working v) says =
      enters (λ x y. ClaimSays x worker (Working v) y) (ClaimAdds worker (Working v))
      (entry.Claim says.slot v.algorithm v.clone worker) refl says.appended says (λ added. (says.slot, added))
  claimed worker (Idle running) says =
      stays (λ x y. ClaimSays x worker (Idle running) y) (ClaimAdds worker (Idle running)) says.0 says (λ same. same)
  claimed worker Over says =
      stays (λ x y. ClaimSays x worker Over y) (ClaimAdds worker Over) says.0 says (λ same. same)
  claimed worker NoneToWork says =
      stays (λ x y. ClaimSays x worker NoneToWork y) (ClaimAdds worker NoneToWork) says.0 says (λ same. same)

  -- no Stop was said
  pub claims : (worker : ℕ) (answer : Claim) → is_some stop ≡ false → ClaimSays d worker answer after →
      ClaimHere d.job d.slots worker (Told answer) (history d stop) (history after stop)
  claims worker answer none says = (history-stopped d stop ∙ none, claimed worker answer says)

  pub dones : (v : Executed) (answer : Give Executed) → DoneSays d v answer after →
      DoneHere d.job d.slots v answer (history d stop) (history after stop)
  dones v Booked says =
      enters (λ x y. DoneSays x v Booked y) (GiveAdds {T = Executed} (entry.Done v.claim.ticket v.left.outcome) Booked)
      (entry.Done v.claim.ticket v.left.outcome) refl says.0 says (λ added. added)
  dones v (NotOutstanding back) says =
      stays (λ x y. DoneSays x v (NotOutstanding back) y)
      (GiveAdds {T = Executed} (entry.Done v.claim.ticket v.left.outcome) (NotOutstanding back)) says.1 says (λ same. same)

  pub backs : (v : Work) (answer : Give Work) → BackSays d v answer after →
      BackHere d.job d.slots v answer (history d stop) (history after stop)
  backs v Booked says =
      enters (λ x y. BackSays x v Booked y) (GiveAdds {T = Work} (entry.Back v.ticket) Booked) (entry.Back v.ticket) refl
      says.0 says (λ added. added)
  backs v (NotOutstanding back) says =
      stays (λ x y. BackSays x v (NotOutstanding back) y) (GiveAdds {T = Work} (entry.Back v.ticket) (NotOutstanding back))
      says.1 says (λ same. same)

  pub retires : (answer : Option Finished) → RetireSays d answer after →
      RetireHere d.job d.slots answer (history d stop) (history after stop)
  retires (Some f) says =
      enters (λ x y. RetireSays x (Some f) y) (RetireAdds (Some f)) (entry.Retire says.slot) refl says.appended
      says (λ added. (says.slot, added))
  retires None says = stays (λ x y. RetireSays x None y) (RetireAdds None) says.0 says (λ same. same)

  pub lasts : (answer : Said) → LastSays d answer after →
      LastHere d.job d.slots answer (history d stop) (history after stop)
  lasts Now says =
      enters (λ x y. LastSays x Now y) (SaidAdds (Entered entry.Last) Now) entry.Last refl says.0 says
      (λ added. added)
  lasts Before says =
      stays (λ x y. LastSays x Before y) (SaidAdds (Entered entry.Last) Before) says.0 says (λ same. same)

module _ (d : DeskState) (stop : Option ℕ) (desk : IsDesk d) where
  unasked : (stop' : Option ℕ) (adds : Histories) → adds (history d stop) (history d stop') →
      IsStep d.job d.slots IsSame adds (history d stop) (history d stop')
  unasked stop' adds added = record {
    before = d;
    legal = is-history d.job d.slots d stop refl refl desk;
    after = d;
    still_legal = is-history d.job d.slots d stop' refl refl desk;
    said = refl;
    added = added;
  }

  -- a Stop was said
  pub refuses : (worker : ℕ) → is_some stop ≡ true →
      ClaimHere d.job d.slots worker Stopped (history d stop) (history d stop)
  refuses worker some = (history-stopped d stop ∙ some, unasked stop AddsNone refl)

  pub stops-before : is_some stop ≡ true → StopHere d.job d.slots Before (history d stop) (history d stop)
  stops-before some = (history-stopped d stop ∙ some, unasked stop AddsNone refl)

pub stops-now : (d : DeskState) (stop : Option ℕ) → IsDesk d → is_some stop ≡ false →
    StopHere d.job d.slots Now (history d stop) (history d (Some (length d.journal)))
stops-now d None desk none =
    (history-stopped d None, unasked d None desk (Some (length d.journal)) (Adds Stop) (history-stop d))
stops-now d (Some n) desk none = absurd (true≢false none)
