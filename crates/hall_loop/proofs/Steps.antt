-- Calls of the hall in which the loop itself admits and ends nothing leave it as it was.
use Rattle.std.proofs.Common.{◌≡◌, ℕ, ◌+◌, Bool, true, List, [], ◌∷◌, ◌++◌, length, Option, Some, None, slice_get, refl, sym, ◌∙◌, subst, append-nil}
use Rattle.std.specs.Prelude.{IsSomeAnd}
use Rattle.event_loop.specs.Loop.{IsResultOf}
use Rattle.event_loop.specs.Waiting.{Waits}
use Rattle.expr_code.specs.Claim.{Claim as Work, Done as Executed}
use Rattle.hall_loop.proofs.Given.{IsStillFirst, begins-on, still-first}
use Rattle.hall_loop.proofs.Others.{call-others}
use Rattle.hall_loop.proofs.Telling.{told-on}
use Rattle.hall_loop.proofs.Works.{history-one, one-work, works-tell}
use Rattle.hall_loop.specs.Beside.{AreResultsOf, IsToldBy, Keeps, first_of}
use Rattle.hall_loop.specs.Others.{AreWorkBut, OthersWork}
use Rattle.hive_hall.specs.Calls.{BookSays, Calls, StaysOut}
use Rattle.hive_hall.specs.Legal.{IsHistoryOf}
use Rattle.hive_hall.specs.Pass.{IsPassOf, job_of, number_of, opening_of, own, seen, slots_of}
use Rattle.hive_hall.specs.Says.{BackHere, ClaimHere, DoneHere, Histories, RetireHere, StopHere}
use Rattle.hive_hall.specs.declared.answers.Ask.{Ask}
use Rattle.hive_hall.specs.declared.answers.Ask.TheVariants.{Told, Stopped}
use Rattle.hive_hall.specs.declared.answers.Book.{Book}
use Rattle.hive_hall.specs.declared.answers.Book.TheVariants as book
use Rattle.hive_hall.specs.declared.hall.Hall.{Hall}
use Rattle.hive_hall.specs.declared.pass.Pass.{Pass}
use Rattle.hive_model.specs.EventRecord.{EventRecord}
use Rattle.hive_model.specs.History.{BeginsWith, DeskState}
use Rattle.hive_model.specs.declared.entry.Entry.{Entry}
use Rattle.hive_model.specs.declared.entry.Entry.TheVariants as entry
use Rattle.hive_model.specs.declared.item.Item.{Item}
use Rattle.hive_model.specs.declared.item.Item.TheVariants.{Entered, Stop}
use Rattle.hive_workers.specs.Items.{is_work}
use Rattle.report_text.specs.declared.counts.Counts.{Counts}
use Rattle.scheduler_core.specs.declared.answers.Claim.TheVariants.{Job as Working, Idle, Over, NoMemory as NoneToWork}
use Rattle.scheduler_core.specs.declared.answers.Finished.{Finished}
use Rattle.scheduler_core.specs.declared.answers.Give.{Give}
use Rattle.scheduler_core.specs.declared.answers.Give.TheVariants.{Booked, NotOutstanding}
use Rattle.scheduler_core.specs.declared.answers.Said.{Said}
use Rattle.scheduler_core.specs.declared.answers.Said.TheVariants.{Now, Before}

-- the scheduler core tells this history
abbrev pub Of : Hall → List Item → DeskState → Type 0
Of hall items d = IsHistoryOf (job_of hall) (slots_of hall) items d

module _ (hall : Hall) (p q : Pass) (waiting : Waits) (counts : Counts) (slots admitted handed : ℕ) (closed : Bool)
    (k : Keeps hall p waiting counts slots admitted handed closed) (pass : IsPassOf hall q) where
  abbrev pub IsTold : DeskState → Type 0
  IsTold d = IsToldBy waiting counts admitted handed closed d

  abbrev pub KeepsOn : Type 0
  KeepsOn = Keeps hall q waiting counts slots admitted handed closed

  -- the records stay the first ones
  pub still : BeginsWith (seen q) (seen p) → IsStillFirst admitted (seen p) (seen q)
  still begins = still-first admitted (seen p) (seen q) begins k.known

  pub results-still : BeginsWith (seen q) (seen p) → AreResultsOf hall (first_of q admitted) handed waiting
  results-still begins i r there =
      subst (λ (l : List EventRecord). IsSomeAnd (slice_get l (handed + i)) (λ event. IsResultOf (job_of hall) event r))
      (sym (still begins).same) (k.results i r there)

  pub record Kept : Type 0 where
    pub on : KeepsOn
    pub same : first_of q admitted ≡ first_of p admitted
    pub others : OthersWork hall q → OthersWork hall p

  keeps : BeginsWith (seen q) (seen p) → (OthersWork hall q → OthersWork hall p) →
      (OthersWork hall q → (d : DeskState) → Of hall (seen q) d → IsTold d) → Kept
  keeps begins before told = record {
    on = record {
      pass = pass;
      slots_are = k.slots_are;
      known = (still begins).known;
      results = results-still begins;
      told = told;
    };
    same = (still begins).same;
    others = before;
  }

  module _ (happened : Histories) (it : Calls happened p q) where
    -- what the call found
    pub found-told : BeginsWith (seen q) it.found → OthersWork hall q → (d : DeskState) → Of hall it.found d → IsTold d
    found-told begins others d legal =
        let o = call-others hall happened p q it k.pass pass begins others in
        let was = k.pass.knows.told in
        let t = k.told o.before was k.pass.knows.legal in
        told-on waiting counts admitted handed closed was d t
        (works-tell (job_of hall) (slots_of hall) (seen p) o.rest was d t.tally.machine k.pass.knows.legal
        (subst (λ (l : List Item). Of hall l d) o.found_is legal) o.work t.tally.led)
        legal.desk

    pub found-others : BeginsWith (seen q) it.found → OthersWork hall q → OthersWork hall p
    found-others begins others = (call-others hall happened p q it k.pass pass begins others).before

    -- nothing was added
    pub kept-none : seen q ≡ it.found → Kept
    kept-none same =
        let begins : BeginsWith (seen q) it.found = ([], same ∙ sym (append-nil it.found)) in
        keeps (begins-on (seen p) it.found (seen q) it.begins begins) (found-others begins)
        (λ others d legal. found-told begins others d (subst (λ (l : List Item). Of hall l d) same legal))

    -- a claim, a result, or a claim put back was added
    pub kept-work : (e : Entry) (before : DeskState) → seen q ≡ it.found ++ Entered e ∷ [] → is_work e ≡ true →
        Of hall it.found before → Kept
    kept-work e before more work legal =
        let begins : BeginsWith (seen q) it.found = (Entered e ∷ [], more) in
        keeps (begins-on (seen p) it.found (seen q) it.begins begins) (found-others begins)
        (λ others d now.
        let t = found-told begins others before legal in
        told-on waiting counts admitted handed closed before d t
        (works-tell (job_of hall) (slots_of hall) it.found (Entered e ∷ []) before d t.tally.machine legal
        (subst (λ (l : List Item). Of hall l d) more now) (one-work e work) t.tally.led)
        now.desk)

    -- the scheduler core wasn't changed
    pub kept-same : (item : Item) (before after : DeskState) → seen q ≡ it.found ++ item ∷ [] → after ≡ before →
        Of hall it.found before → Of hall (seen q) after → Kept
    kept-same item before after more same legal now =
        let begins : BeginsWith (seen q) it.found = (item ∷ [], more) in
        keeps (begins-on (seen p) it.found (seen q) it.begins begins) (found-others begins)
        (λ others d told.
        subst IsTold (sym (history-one (job_of hall) (slots_of hall) (seen q) d after told now ∙ same))
        (found-told begins others before legal))

  -- the calls

  pub out-kept : StaysOut p q → Kept
  out-kept out =
      let begins : BeginsWith (seen q) (seen p) = ([], out.seen_same ∙ sym (append-nil (seen p))) in
      keeps begins (same-others out) (λ others d legal.
      k.told (same-others out others) d (subst (λ (l : List Item). Of hall l d) out.seen_same legal))
    where
      same-others : StaysOut p q → OthersWork hall q → OthersWork hall p
      same-others o others = subst (λ (l : List Item). AreWorkBut (length (opening_of hall)) l (own p)) o.seen_same
          (subst (λ (l : List ℕ). AreWorkBut (length (opening_of hall)) (seen q) l) o.own_same others)

  pub claim-kept : (answer : Ask) → Calls (ClaimHere (job_of hall) (slots_of hall) (number_of p) answer) p q → Kept
  claim-kept (Told (Working v)) it =
      let s = it.step.1 in
      kept-work _ it (entry.Claim s.added.0 v.algorithm v.clone (number_of p)) s.before s.added.1 refl s.legal
  claim-kept (Told (Idle running)) it = kept-none _ it it.step.1.added
  claim-kept (Told Over) it = kept-none _ it it.step.1.added
  claim-kept (Told NoneToWork) it = kept-none _ it it.step.1.added
  claim-kept Stopped it = kept-none _ it it.step.1.added

  pub done-kept : (v : Executed) (answer : Give Executed) →
      Calls (DoneHere (job_of hall) (slots_of hall) v answer) p q → Kept
  done-kept v Booked it =
      kept-work _ it (entry.Done v.claim.ticket v.left.outcome) it.step.before it.step.added refl it.step.legal
  done-kept v (NotOutstanding back) it = kept-none _ it it.step.added

  pub back-kept : (v : Work) (answer : Give Work) → Calls (BackHere (job_of hall) (slots_of hall) v answer) p q → Kept
  back-kept v Booked it = kept-work _ it (entry.Back v.ticket) it.step.before it.step.added refl it.step.legal
  back-kept v (NotOutstanding back) it = kept-none _ it it.step.added

  pub book-kept : (answer : Book) → BookSays hall answer p q → Kept
  book-kept book.Booked it = done-kept it.value Booked it.call
  book-kept (book.NotOutstanding back) it = done-kept it.value (NotOutstanding back) it.call
  book-kept book.Empty it = out-kept it.0

  pub retire-kept : (answer : Option Finished) → ((f : Finished) → answer ≡ Some f → ⊥) →
      Calls (RetireHere (job_of hall) (slots_of hall) answer) p q → Kept
  retire-kept (Some f) none it = absurd (none f refl)
  retire-kept None none it = kept-none _ it it.step.added

  pub stop-kept : (answer : Said) → Calls (StopHere (job_of hall) (slots_of hall) answer) p q → Kept
  stop-kept Now it =
      let s = it.step.1 in
      kept-same _ it Stop s.before s.after s.added s.said s.legal s.still_legal
  stop-kept Before it = kept-none _ it it.step.1.added
