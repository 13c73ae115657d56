-- A turn in which an event ends.
use Rattle.std.proofs.Common.{◌≡◌, ℕ, ◌-◌, set, Some, arith}
use Rattle.hive_model.specs.History.{DeskState}
use Rattle.report_text.specs.Counted.{IsCounted}
use Rattle.report_text.specs.declared.counts.Counts.{Counts}
use Rattle.scheduler_core.specs.Says.{IsRetired}
use Rattle.scheduler_core.specs.State.{IsDesk}
use Rattle.scheduler_core.specs.declared.answers.Finished.{Finished as Answer}
use Rattle.event_loop.proofs.Moves.{has-ended}
use Rattle.event_loop.proofs.Ran.{work-is}
use Rattle.event_loop.proofs.Tallying.{led-of, running-of, tallied-retires}
use Rattle.event_loop.specs.Running.{EndsOne, IsRunning}
use Rattle.event_loop.specs.Waiting.{Waits}

pub ends-one : (d after : DeskState) (waiting later : Waits) (handed index : ℕ) (counts now : Counts)
    (f : Answer) →
    IsRunning d waiting handed counts → IsRetired d f after → IsDesk after → index ≡ f.place - handed - 1 →
    IsCounted counts f.result.status now → later ≡ set waiting index (Some f.result) →
    EndsOne d after later handed now
ends-one d after waiting later handed index counts now f k it desk at counted put =
    let t = k.tally in
    let e = has-ended d after t.machine f t.desk (led-of d waiting handed counts t) it desk in
    let was = work-is d t.machine t.led in
    let will = work-is after e.next e.now.led in
    record {
      keeps = e.keeps;
      work = omega (arith, was, will, e.work);
      running = running-of after later handed now e.next
          (tallied-retires d after waiting later handed index counts now f t it desk at counted put)
          (record { led = e.now.led; slots = e.now.slots; quiet = omega (arith, e.claims, k.quiet) });
    }
