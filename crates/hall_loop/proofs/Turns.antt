-- A step after calls in which nothing came in and nothing went out.
use Rattle.std.proofs.Common.{ℕ, ◌+◌, List, slice_get, refl, ap, ◌∙◌, subst}
use Rattle.std.specs.Prelude.{IsSomeAnd}
use Rattle.event_loop.specs.Loop.{IsResultOf}
use Rattle.hall_loop.specs.Beside.{GoesOn, HandsOutBeside, StepSays, given_of}
use Rattle.hall_loop.specs.declared.hall_loop.HallLoop.{HallLoop}
use Rattle.hall_loop.specs.declared.step.Step.{Step}
use Rattle.hall_loop.specs.declared.step.Step.TheVariants.{Result as Came, Went, Idle, Over, NoMemory, Lost}
use Rattle.hive_hall.specs.Pass.{job_of}
use Rattle.hive_hall.specs.declared.hall.Hall.{Hall}
use Rattle.hive_model.specs.EventRecord.{EventRecord}
use Rattle.hive_model.specs.EventResult.{EventResult}

pub goes-same : (it : HallLoop) → GoesOn it it
goes-same it = record { given = refl; handed = refl }

pub goes-twice : (old mid new : HallLoop) → GoesOn old mid → GoesOn mid new → GoesOn old new
goes-twice old mid new a b = record { given = b.given ∙ a.given; handed = b.handed ∙ a.handed }

module _ (hall : Hall) (old mid new : HallLoop) (first : GoesOn old mid) where
  hands-on : (r : EventResult) → HandsOutBeside hall mid r new → HandsOutBeside hall old r new
  hands-on r it = record {
    given = it.given ∙ first.given;
    handed = it.handed ∙ ap (λ (n : ℕ). n + 1) first.handed;
    result = subst (λ (n : ℕ). IsSomeAnd (slice_get (given_of old) n) (λ event. IsResultOf (job_of hall) event r))
        first.handed
        (subst (λ (l : List EventRecord). IsSomeAnd (slice_get l mid.handed) (λ event. IsResultOf (job_of hall) event r))
        first.given it.result);
  }

  pub says-on : (step : Step) → StepSays hall mid step new → StepSays hall old step new
  says-on (Came r) says = hands-on r says
  says-on Went says = goes-twice old mid new first says
  says-on Idle says = goes-twice old mid new first says
  says-on Over says = goes-twice old mid new first says
  says-on NoMemory says = goes-twice old mid new first says
  says-on Lost says = (goes-twice old mid new first says.0, says.1)
