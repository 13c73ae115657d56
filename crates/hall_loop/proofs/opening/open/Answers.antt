use Rattle.std.proofs.Common.{ℕ, ◌*◌, refl, ap, ◌∙◌, replicate, Option, None}
use Rattle.std.specs.Arc.{arc_value}
use Rattle.hall_loop.proofs.Holding.{holds-none}
use Rattle.hall_loop.proofs.Openings.{keeps-opening, new-workers}
use Rattle.hive_model.specs.EventResult.{EventResult}
use Rattle.hive_model.specs.History.{DeskState}
use Rattle.hall_loop.proofs.opening.open.Goals as goal

pub returns : goal.returns
returns c =
    let e = c.in-Ok.ensures in
    let d = c.in_ok-desk.desk in
    let opens = c.in_ok-desk.ensures.opening in
    let new = new-workers c.in-Ok.hall d c.in-Ok.passes c.pop.new.self c.in-Some.pass c.args.workers e.count.0
    e.count.1 e.passes c.in-Some.ensures.some c.in-Some.ensures.spare in
    record {
      job_is = e.job ∙ ap (λ (x : DeskState). x.job) opens;
      slots_are = e.slots ∙ ap (λ (x : DeskState). x.slots) opens;
      count_is = new.1;
      new = new.0;
      beside = keeps-opening c.in-Ok.hall c.in-Some.pass d (arc_value c.args.job) c.args.slots _ _ opens
          c.in_ok-desk.ensures.desk e.job e.slots new.2 (c.in_ok-waiting.ensures
          ∙ ap (λ (n : ℕ). replicate {A = Option EventResult} (2 * n) None) c.from.ensures) c.new-4.ensures;
      none = refl;
      none_handed = refl;
      none_held = holds-none c.in-Ok.hall d c.in-Some.pass new.2;
    }
