use Rattle.std.proofs.Common.{ap, refl}
use Rattle.hall_loop.proofs.Causes.{idle-seen, over-seen, stopped-seen}
use Rattle.hall_loop.proofs.Steps.{claim-kept}
use Rattle.hall_loop.proofs.Turns.{says-on}
use Rattle.hive_hall.specs.declared.answers.Ask.TheVariants.{Told}
use Rattle.hall_loop.proofs.Deeds.{call-grows, claim-done, done-before, grown-before}
use Rattle.hall_loop.proofs.Holding.{calm-holds, claim-holds, is_job, stopped-holds}
use Rattle.hall_loop.proofs.hall_loop.HallLoop.run_one.Goals as goal

pub run_claim-requires-clause-beside : goal.run_claim-requires-clause-beside
run_claim-requires-clause-beside g c κs within =
    (claim-kept c.args.hall.now c.args.self.now.pass c.claim.new.pass _ _ _ _ _ _ c.requires
    c.in-Told-Job.ensures.pass (Told c.in-Told-Job.field-0) c.in-Told-Job.ensures.call).on

pub wait-requires-clause-nothing : goal.wait-requires-clause-nothing
wait-requires-clause-nothing g c =
    idle-seen c.args.hall.now c.args.self.now.pass c.claim.new.pass _ _ c.in-Told-Idle.field-0-is c.in-Told-Idle.ensures.call

pub wait-requires-clause-beside : goal.wait-requires-clause-beside
wait-requires-clause-beside g c =
    (claim-kept c.args.hall.now c.args.self.now.pass c.claim.new.pass _ _ _ _ _ _ c.requires
    c.in-Told-Idle.ensures.pass (Told c.in-Told-Idle.field-0) c.in-Told-Idle.ensures.call).on

pub returns-in-Told-Job-clause-says : goal.returns-in-Told-Job-clause-says
returns-in-Told-Job-clause-says g c =
    says-on c.args.hall.now c.args.self.now _ c.run_claim.new.self
    (record {
      given = (claim-kept c.args.hall.now c.args.self.now.pass c.claim.new.pass _ _ _ _ _ _ c.requires
          c.in-Told-Job.ensures.pass (Told c.in-Told-Job.field-0) c.in-Told-Job.ensures.call).same;
      handed = refl;
    }) c.run_claim.result c.run_claim.ensures.says

pub returns-in-Told-Over-clause-says : goal.returns-in-Told-Over-clause-says
returns-in-Told-Over-clause-says g c = record {
  given = (claim-kept c.args.hall.now c.args.self.now.pass c.claim.new.pass _ _ _ _ _ _ c.requires
      c.claim.ensures.pass c.claim.result c.claim.ensures.call).same;
  handed = refl;
}

pub returns-in-Told-Over-clause-beside : goal.returns-in-Told-Over-clause-beside
returns-in-Told-Over-clause-beside g c =
    (claim-kept c.args.hall.now c.args.self.now.pass c.claim.new.pass _ _ _ _ _ _ c.requires
    c.claim.ensures.pass c.claim.result c.claim.ensures.call).on

pub returns-in-Told-NoMemory-clause-says : goal.returns-in-Told-NoMemory-clause-says
returns-in-Told-NoMemory-clause-says g c = record {
  given = (claim-kept c.args.hall.now c.args.self.now.pass c.claim.new.pass _ _ _ _ _ _ c.requires
      c.claim.ensures.pass c.claim.result c.claim.ensures.call).same;
  handed = refl;
}

pub returns-in-Told-NoMemory-clause-beside : goal.returns-in-Told-NoMemory-clause-beside
returns-in-Told-NoMemory-clause-beside g c =
    (claim-kept c.args.hall.now c.args.self.now.pass c.claim.new.pass _ _ _ _ _ _ c.requires
    c.claim.ensures.pass c.claim.result c.claim.ensures.call).on

pub returns-in-Stopped-clause-says : goal.returns-in-Stopped-clause-says
returns-in-Stopped-clause-says g c = record {
  given = (claim-kept c.args.hall.now c.args.self.now.pass c.claim.new.pass _ _ _ _ _ _ c.requires
      c.claim.ensures.pass c.claim.result c.claim.ensures.call).same;
  handed = refl;
}

pub returns-in-Stopped-clause-beside : goal.returns-in-Stopped-clause-beside
returns-in-Stopped-clause-beside g c =
    (claim-kept c.args.hall.now c.args.self.now.pass c.claim.new.pass _ _ _ _ _ _ c.requires
    c.claim.ensures.pass c.claim.result c.claim.ensures.call).on

pub returns-in-Told-Idle-clause-says : goal.returns-in-Told-Idle-clause-says
returns-in-Told-Idle-clause-says g c =
    says-on c.args.hall.now c.args.self.now _ c.wait.new.self
    (record {
      given = (claim-kept c.args.hall.now c.args.self.now.pass c.claim.new.pass _ _ _ _ _ _ c.requires
          c.claim.ensures.pass c.claim.result c.claim.ensures.call).same;
      handed = refl;
    }) c.wait.result c.wait.ensures.says

pub returns-in-Told-Over-clause-cause : goal.returns-in-Told-Over-clause-cause
returns-in-Told-Over-clause-cause g c =
    over-seen c.args.hall.now c.args.self.now.pass c.claim.new.pass _ c.in-Told-Over.field-0-is c.in-Told-Over.ensures.call

pub returns-in-Stopped-clause-cause : goal.returns-in-Stopped-clause-cause
returns-in-Stopped-clause-cause g c =
    stopped-seen c.args.hall.now c.args.self.now.pass c.claim.new.pass c.in-Stopped.ensures.call

pub returns-in-Told-Job-clause-none_held : goal.returns-in-Told-Job-clause-none_held
returns-in-Told-Job-clause-none_held g c it =
    c.run_claim.ensures.none_held
    (claim-holds c.args.hall.now c.args.self.now.pass c.claim.new.pass c.requires.pass c.in-Told-Job.ensures.pass _
    c.in-Told-Job.work c.in-Told-Job.field-0-is c.in-Told-Job.ensures.call it)

pub returns-in-Told-Idle-clause-none_held : goal.returns-in-Told-Idle-clause-none_held
returns-in-Told-Idle-clause-none_held g c it =
    c.wait.ensures.none_held
    (calm-holds c.args.hall.now c.args.self.now.pass c.claim.new.pass c.requires.pass c.in-Told-Idle.ensures.pass _
    (ap is_job c.in-Told-Idle.field-0-is) c.in-Told-Idle.ensures.call it)

pub returns-in-Told-Over-clause-none_held : goal.returns-in-Told-Over-clause-none_held
returns-in-Told-Over-clause-none_held g c it =
    calm-holds c.args.hall.now c.args.self.now.pass c.claim.new.pass c.requires.pass c.in-Told-Over.ensures.pass _
    (ap is_job c.in-Told-Over.field-0-is) c.in-Told-Over.ensures.call it

pub returns-in-Told-NoMemory-clause-none_held : goal.returns-in-Told-NoMemory-clause-none_held
returns-in-Told-NoMemory-clause-none_held g c it =
    calm-holds c.args.hall.now c.args.self.now.pass c.claim.new.pass c.requires.pass c.in-Told-NoMemory.ensures.pass _
    (ap is_job c.in-Told-NoMemory.field-0-is) c.in-Told-NoMemory.ensures.call it

pub returns-in-Stopped-clause-none_held : goal.returns-in-Stopped-clause-none_held
returns-in-Stopped-clause-none_held g c it =
    stopped-holds c.args.hall.now c.args.self.now.pass c.claim.new.pass c.requires.pass c.in-Stopped.ensures.pass
    c.in-Stopped.ensures.call it

pub returns-in-Told-Job-clause-done : goal.returns-in-Told-Job-clause-done
returns-in-Told-Job-clause-done g c =
    done-before c.run_claim.result c.args.self.now.pass c.claim.new.pass c.run_claim.new.self.pass
    (claim-done c.args.self.now.pass c.claim.new.pass c.args.hall.now _ c.in-Told-Job.work c.in-Told-Job.field-0-is
    c.in-Told-Job.ensures.call c.in-Told-Job.ensures.queue.1) c.run_claim.ensures.done

pub returns-in-Told-Idle-clause-done : goal.returns-in-Told-Idle-clause-done
returns-in-Told-Idle-clause-done g c =
    grown-before c.wait.result c.args.self.now.pass c.claim.new.pass c.wait.new.self.pass
    (call-grows c.args.self.now.pass c.claim.new.pass c.in-Told-Idle.ensures.call c.in-Told-Idle.ensures.queue.1)
    c.wait.ensures.done
