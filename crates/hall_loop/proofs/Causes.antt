-- What the loop has seen of why nothing will be claimed any more.
use Rattle.std.proofs.Common.{◌≡◌, ℕ, Bool, ◌||◌, true, false, List, [], ◌∷◌, Option, refl, sym, ap, ◌∙◌, subst}
use Rattle.std.proofs.lemmas.Bool.{false≢true}
use Rattle.std.proofs.lemmas.List.Folds.{list_any-append}
use Rattle.std.specs.List.{list_any}
use Rattle.std.specs.Option.{IsSomeAnd}
use Rattle.hall_loop.specs.Beside.{FindsNothing, HasNoWork}
use Rattle.hive_hall.specs.Calls.{Calls}
use Rattle.hive_hall.specs.Legal.{IsHistoryOf}
use Rattle.hive_hall.specs.Pass.{job_of, number_of, seen, slots_of}
use Rattle.hive_hall.specs.Says.{ClaimHere, StopHere}
use Rattle.hive_hall.specs.declared.answers.Ask.TheVariants.{Told, Stopped}
use Rattle.hive_hall.specs.declared.hall.Hall.{Hall}
use Rattle.hive_hall.specs.declared.pass.Pass.{Pass}
use Rattle.hive_model.specs.History.{is_stop, is_stopped}
use Rattle.hive_model.specs.Machine.{Machine}
use Rattle.hive_model.specs.declared.item.Item.{Item}
use Rattle.hive_model.specs.declared.item.Item.TheVariants.{Stop}
use Rattle.hive_workers.proofs.Moves.{replayed}
use Rattle.hive_workers.specs.Outstanding.{state_after}
use Rattle.scheduler_core.specs.Says.{IsOver}
use Rattle.scheduler_core.specs.declared.answers.Claim.{Claim}
use Rattle.scheduler_core.specs.declared.answers.Claim.TheVariants.{Idle, Over}
use Rattle.scheduler_core.specs.declared.answers.Said.{Said}
use Rattle.scheduler_core.specs.declared.answers.Said.TheVariants.{Now, Before}

true-last : (b : Bool) → (b || true) ≡ true
true-last true = refl
true-last false = refl

module _ (hall : Hall) (p q : Pass) where
  -- it has told the participants to stop, or somebody had before
  pub stop-seen : (answer : Said) → Calls (StopHere (job_of hall) (slots_of hall) answer) p q →
      is_stopped (seen q) ≡ true
  stop-seen Now it =
      ap is_stopped it.step.1.added
      ∙ (list_any-append is_stop it.found (Stop ∷ []) ∙ true-last (list_any is_stop it.found))
  stop-seen Before it = ap is_stopped it.step.1.added ∙ it.step.0

  pub over-seen : (answer : Claim) → answer ≡ Over →
      Calls (ClaimHere (job_of hall) (slots_of hall) (number_of p) (Told answer)) p q → HasNoWork hall (seen q)
  over-seen answer same call calm =
      let it : Calls (ClaimHere (job_of hall) (slots_of hall) (number_of p) (Told Over)) p q =
      subst (λ (a : Claim). Calls (ClaimHere (job_of hall) (slots_of hall) (number_of p) (Told a)) p q) same call in
      let step = it.step.1 in
      subst (λ (o : Option Machine). IsSomeAnd o IsOver)
      (replayed hall it.found step.before step.legal ∙ ap (state_after hall) (sym step.added)) step.said.1

  pub stopped-seen : Calls (ClaimHere (job_of hall) (slots_of hall) (number_of p) Stopped) p q →
      HasNoWork hall (seen q)
  stopped-seen it calm = absurd (false≢true (sym calm ∙ (ap is_stopped it.step.1.added ∙ it.step.0)))

  -- the answer stands for the history that the pass has seen then
  pub idle-seen : (answer : Claim) (running : ℕ) → answer ≡ Idle running →
      Calls (ClaimHere (job_of hall) (slots_of hall) (number_of p) (Told answer)) p q → FindsNothing hall (seen q)
  idle-seen answer running same call =
      let it : Calls (ClaimHere (job_of hall) (slots_of hall) (number_of p) (Told (Idle running))) p q =
      subst (λ (a : Claim). Calls (ClaimHere (job_of hall) (slots_of hall) (number_of p) (Told a)) p q) same call in
      let step = it.step.1 in
      record {
        on = ap is_stopped step.added ∙ it.step.0;
        core = step.before;
        legal = subst (λ (l : List Item). IsHistoryOf (job_of hall) (slots_of hall) l step.before) (sym step.added)
            step.legal;
        running = running;
        idle = step.said.1;
      }
