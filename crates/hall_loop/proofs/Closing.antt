-- It is said that no further event comes.
use Rattle.std.proofs.Common.{◌≡◌, ℕ, Bool, true, List, [], ◌∷◌, append-nil, length, sym, ap, ◌∙◌, subst}
use Rattle.event_loop.proofs.Moves.{has-closed}
use Rattle.event_loop.proofs.Tallying.{led-of, tallied-last}
use Rattle.event_loop.specs.Waiting.{Waits}
use Rattle.hall_loop.proofs.Given.{begins-on}
use Rattle.hall_loop.proofs.Steps.{Of, found-told, results-still, still}
use Rattle.hall_loop.proofs.Works.{history-one}
use Rattle.hall_loop.specs.Beside.{IsToldBy, Keeps, first_of}
use Rattle.hall_loop.specs.Others.{OthersWork}
use Rattle.hive_hall.specs.Calls.{Calls}
use Rattle.hive_hall.specs.Pass.{IsPassOf, job_of, seen, slots_of}
use Rattle.hive_hall.specs.Says.{LastHere}
use Rattle.hive_hall.specs.declared.hall.Hall.{Hall}
use Rattle.hive_hall.specs.declared.pass.Pass.{Pass}
use Rattle.hive_model.specs.History.{BeginsWith, DeskState}
use Rattle.hive_model.specs.declared.entry.Entry.TheVariants as entry
use Rattle.hive_model.specs.declared.item.Item.{Item}
use Rattle.hive_model.specs.declared.item.Item.TheVariants.{Entered}
use Rattle.report_text.specs.declared.counts.Counts.{Counts}
use Rattle.scheduler_core.specs.Says.{is_closed, with_entry}
use Rattle.scheduler_core.specs.State.{IsDesk}
use Rattle.scheduler_core.specs.declared.answers.Said.{Said}
use Rattle.scheduler_core.specs.declared.answers.Said.TheVariants.{Now, Before}

module _ (hall : Hall) (p q : Pass) (waiting : Waits) (counts : Counts) (slots admitted handed : ℕ) (closed : Bool)
    (k : Keeps hall p waiting counts slots admitted handed closed) (pass : IsPassOf hall q) where
  keeps : BeginsWith (seen q) (seen p) →
      (OthersWork hall q → (d : DeskState) → Of hall (seen q) d → IsToldBy waiting counts admitted handed true d) →
      Keeps hall q waiting counts slots admitted handed true
  keeps begins told = record {
    pass = pass;
    slots_are = k.slots_are;
    known = (still hall p q waiting counts slots admitted handed closed k pass begins).known;
    results = results-still hall p q waiting counts slots admitted handed closed k pass begins;
    told = told;
  }

  closes-told : (d after : DeskState) → IsToldBy waiting counts admitted handed closed d →
      after ≡ with_entry d entry.Last → IsDesk after → IsToldBy waiting counts admitted handed true after
  closes-told d after t appended desk = record {
    tally = tallied-last d after waiting handed counts t.tally appended desk;
    all = ap (λ (x : DeskState). length x.admitted) appended ∙ t.all;
    last = (has-closed d after t.tally.machine (led-of d waiting handed counts t.tally) appended desk).closed;
  }

  begins-last : (answer : Said) → Calls (LastHere (job_of hall) (slots_of hall) answer) p q →
      BeginsWith (seen q) (seen p)
  begins-last Now it =
      begins-on (seen p) it.found (seen q) it.begins (Entered entry.Last ∷ [], it.step.added)
  begins-last Before it =
      begins-on (seen p) it.found (seen q) it.begins ([], it.step.added ∙ sym (append-nil it.found))

  pub same-last : (answer : Said) → Calls (LastHere (job_of hall) (slots_of hall) answer) p q →
      first_of q admitted ≡ first_of p admitted
  same-last answer it =
      (still hall p q waiting counts slots admitted handed closed k pass (begins-last answer it)).same

  pub keeps-last : (answer : Said) → Calls (LastHere (job_of hall) (slots_of hall) answer) p q →
      Keeps hall q waiting counts slots admitted handed true
  keeps-last Now it =
      let s = it.step in
      let here : BeginsWith (seen q) it.found = (Entered entry.Last ∷ [], s.added) in
      keeps (begins-on (seen p) it.found (seen q) it.begins here)
      (λ others d legal.
      subst (λ (x : DeskState). IsToldBy waiting counts admitted handed true x)
      (sym (history-one (job_of hall) (slots_of hall) (seen q) d s.after legal s.still_legal))
      (closes-told s.before s.after
      (found-told hall p q waiting counts slots admitted handed closed k pass _ it here others s.before s.legal)
      s.said.0 s.still_legal.desk))
  keeps-last Before it =
      let s = it.step in
      let here : BeginsWith (seen q) it.found = ([], s.added ∙ sym (append-nil it.found)) in
      keeps (begins-on (seen p) it.found (seen q) it.begins here)
      (λ others d legal.
      let t = found-told hall p q waiting counts slots admitted handed closed k pass _ it here others d
      (subst (λ (l : List Item). Of hall l d) s.added legal) in
      let same = history-one (job_of hall) (slots_of hall) it.found d s.before
      (subst (λ (l : List Item). Of hall l d) s.added legal) s.legal in
      record { tally = t.tally; all = t.all; last = ap is_closed same ∙ s.said.1 })
