-- The events that are generated fit the job.
use Rattle.std.proofs.Common.{ℕ, zero, suc, ◌+◌, Bool, true, false, if◌then◌else◌, [], ◌∷◌, None, Some, pos}
use Rattle.std.specs.List.{AllByRecursion}
use Rattle.gen_laws.specs.GeneratedJob.{generated_job}
use Rattle.hive_gen.specs.Events.{divisor_of, event_of, events_from, hits_drawn, lacks_hits, state_behind}
use Rattle.hive_model.specs.Fits.{AreCellsOf, Fits}
use Rattle.hive_model.specs.declared.product.Product.TheVariants as product

event-fits : (number state : ℕ) → Fits generated_job (event_of number state)
unfolding event_of
event-fits number state = by (lacks_hits number)
  where
    by : (t : Bool) → AreCellsOf generated_job.raws
        ((if t then None else Some (product.List (hits_drawn state))) ∷ Some
        (product.Num (pos (divisor_of number))) ∷ [])
    by true = (tt, tt)
    by false = (tt, (tt, tt))

pub events-fit : (count number state : ℕ) → AllByRecursion (Fits generated_job)
    (events_from count number state)
unfolding events_from
events-fit zero number state = tt
events-fit (suc count) number state = (
  event-fits number state,
  events-fit count (number + 1)
      (state_behind number state),
)
