-- What is known of the scheduler core, where the others only work, stays as they go on.
use Rattle.std.proofs.Common.{ℕ, ◌*◌, Bool, List, length, sym, ap, ◌∙◌, subst, arith}
use Rattle.core_laws.proofs.LastEntry.{last-closes}
use Rattle.event_loop.specs.Loop.{results_of}
use Rattle.event_loop.specs.Running.{AreWaiting, IsTallied}
use Rattle.event_loop.specs.Waiting.{Waits}
use Rattle.hall_loop.proofs.Works.{EndsNothing}
use Rattle.hall_loop.specs.Beside.{IsToldBy}
use Rattle.hive_model.specs.EventRecord.{EventRecord}
use Rattle.hive_model.specs.History.{DeskState}
use Rattle.hive_model.specs.Job.{Job}
use Rattle.hive_model.specs.Machine.{Finished}
use Rattle.report_text.specs.Tallied.{CountsAll}
use Rattle.report_text.specs.declared.counts.Counts.{Counts}
use Rattle.scheduler_core.specs.State.{IsDesk}

pub tallied-on : (d after : DeskState) (waiting : Waits) (handed : ℕ) (counts : Counts) →
    (t : IsTallied d waiting handed counts) → EndsNothing d t.machine after → IsDesk after →
    IsTallied after waiting handed counts
tallied-on d after waiting handed counts t e desk =
    let records = ap (λ (l : List EventRecord). length l) e.records_same in
    let slots = e.slots_same in
    record {
      desk = desk;
      few = omega (arith, records, t.few);
      within = omega (arith, records, t.within);
      window = omega (arith, records, slots, t.window);
      room = t.room ∙ ap (λ (n : ℕ). 2 * n) (sym slots);
      machine = e.next;
      led = e.led;
      slots = e.as_many ∙ (t.slots ∙ sym slots);
      counted = subst (λ (l : List Finished). CountsAll (results_of l) counts) (sym e.finished) t.counted;
      holds = subst (λ (j : Job). AreWaiting j after.admitted e.next.finished handed waiting) (sym e.job_same)
          (subst (λ (l : List EventRecord). AreWaiting d.job l e.next.finished handed waiting) (sym e.records_same)
          (subst (λ (l : List Finished). AreWaiting d.job d.admitted l handed waiting) (sym e.finished) t.holds));
    }

pub told-on : (waiting : Waits) (counts : Counts) (admitted handed : ℕ) (closed : Bool) (d after : DeskState) →
    (t : IsToldBy waiting counts admitted handed closed d) → EndsNothing d t.tally.machine after → IsDesk after →
    IsToldBy waiting counts admitted handed closed after
told-on waiting counts admitted handed closed d after t e desk = record {
  tally = tallied-on d after waiting handed counts t.tally e desk;
  all = ap (λ (l : List EventRecord). length l) e.records_same ∙ t.all;
  last = sym (last-closes after.job after.slots after.admitted after.journal e.next e.led)
      ∙ (e.closed ∙ (last-closes d.job d.slots d.admitted d.journal t.tally.machine t.tally.led ∙ t.last));
}
