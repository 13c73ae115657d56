use Rattle.std.proofs.Common.{◌≡◌, ℕ, ◌≤◌, [], ◌∷◌, sym, subst}
use Rattle.expr_code.specs.Claim.{Claim as Work}
use Rattle.hive_hall.specs.Calls.{Calls, QueuesNone}
use Rattle.hive_hall.specs.Pass.{IsPassOf, job_of, number_of, slots_of}
use Rattle.hive_hall.specs.Says.{ClaimHere}
use Rattle.hive_hall.specs.declared.answers.Ask.TheVariants.{Told}
use Rattle.hive_hall.specs.declared.hall.Hall.{Hall}
use Rattle.hive_hall.specs.declared.pass.Pass.{Pass}
use Rattle.scheduler_core.specs.declared.answers.Claim.{Claim}
use Rattle.scheduler_core.specs.declared.answers.Claim.TheVariants.{Job}
use Rattle.hive_workers.proofs.Runs.{between-given, between-idle, between-starts, worked-over, worked-returned, worked-starved, worked-stopped}
use Rattle.hive_workers.proofs.Turns.{room, working-claim}
use Rattle.hive_workers.specs.Worked.{HasWorked}
use Rattle.hive_workers.specs.Working.{HasRoom, IsBetween, IsWorking}
use Rattle.hive_workers.specs.declared.ends.WorkerEnd.{WorkerEnd}
use Rattle.hive_workers.specs.declared.limits.TheConstants.{MOST_COUNTED}
use Rattle.hive_workers.specs.declared.tally.Tally.{Tally}
use Rattle.hive_workers.proofs.worker.Worker.run.Goals as goal

pub loop-init : goal.loop-init
loop-init g c =
    subst (λ (t : Tally). IsBetween c.args.hall.now c.args.pass.now c.args.steps.now t c.args.steps.now c.args.pass.now)
    (sym c.new-tally.ensures) (between-starts c.args.hall.now c.args.pass.now c.args.steps.now c.requires)

-- the answer of a claim, as the arm has it
told : (hall : Hall) (q r : Pass) (a b : Claim) → a ≡ b →
    Calls (ClaimHere (job_of hall) (slots_of hall) (number_of q) (Told a)) q r →
    Calls (ClaimHere (job_of hall) (slots_of hall) (number_of q) (Told b)) q r
told hall q r a b same call =
    subst (λ (x : Claim). Calls (ClaimHere (job_of hall) (slots_of hall) (number_of q) (Told x)) q r) same call

-- the claim is in hand
in-hand : (hall : Hall) (p : Pass) (first : ℕ) (t : Tally) (steps : ℕ) (q r : Pass) (a : Claim) (v : Work) →
    IsBetween hall p first t steps q → a ≡ Job v →
    Calls (ClaimHere (job_of hall) (slots_of hall) (number_of q) (Told a)) q r → QueuesNone q r →
    IsWorking hall p (v ∷ []) t r
in-hand hall p first t steps q r a v it same call queue =
    working-claim hall p q r t it.pass v (told hall q r a (Job v) same call) queue it.working

-- and can be counted
counted : (hall : Hall) (p : Pass) (first : ℕ) (t : Tally) (steps : ℕ) (q r : Pass) (a : Claim) (v : Work) →
    IsBetween hall p first t steps q → IsPassOf hall r → a ≡ Job v →
    Calls (ClaimHere (job_of hall) (slots_of hall) (number_of q) (Told a)) q r → QueuesNone q r →
    v.ticket ≤ MOST_COUNTED → HasRoom t
counted hall p first t steps q r a v it pass same call queue small =
    room hall p q r t v pass (told hall q r a (Job v) same call)
    (in-hand hall p first t steps q r a v it same call queue) small it.sum

pub give-requires-clause-room : goal.give-requires-clause-room
give-requires-clause-room g c =
    counted c.args.hall.now c.args.pass.now c.args.steps.now c.loop.tally c.loop.steps c.loop.pass c.claim.new.pass _
    c.in-Told-Job.claimed c.loop.invariant c.in-Told-Job.ensures.pass c.in-Told-Job.field-0-is
    c.in-Told-Job.ensures.call
    c.in-Told-Job.ensures.queue c.perform_between.ensures.ticket

pub put_back-requires-clause-room : goal.put_back-requires-clause-room
put_back-requires-clause-room g c =
    counted c.args.hall.now c.args.pass.now c.args.steps.now c.loop.tally c.loop.steps c.loop.pass c.claim.new.pass _
    c.in-Told-Job.claimed c.loop.invariant c.in-Told-Job.ensures.pass c.in-Told-Job.field-0-is
    c.in-Told-Job.ensures.call
    c.in-Told-Job.ensures.queue c.perform_between.ensures.ticket

pub returns-in-Err-clause-worked : goal.returns-in-Err-clause-worked
returns-in-Err-clause-worked g c =
    let hall = c.args.hall.now in
    let p = c.args.pass.now in
    let t = c.loop.tally in
    let r = c.claim.new.pass in
    let held = in-hand hall p c.args.steps.now t c.loop.steps c.loop.pass r _ c.in-Told-Job.claimed c.loop.invariant
    c.in-Told-Job.field-0-is c.in-Told-Job.ensures.call c.in-Told-Job.ensures.queue in
    subst (λ (e : WorkerEnd). HasWorked hall e p c.put_back.new.pass) (sym c.end.ensures)
    (worked-returned hall p c.args.steps.now t c.loop.steps c.loop.pass r c.loop.invariant c.in-Told-Job.ensures.pass
    c.in-Told-Job.ensures.queue c.put_back.new.pass c.put_back.new.tally c.put_back.ensures.pass
    c.put_back.ensures.counts
    c.put_back.ensures.given
    (c.put_back.ensures.working p
    (subst (λ (v : Work). IsWorking hall p (v ∷ []) t r) (sym c.in-Err.ensures.handed_back) held))
    c.put_back.ensures.queue)

pub loop-preserved-in-Told-Job : goal.loop-preserved-in-Told-Job
loop-preserved-in-Told-Job g c =
    let hall = c.args.hall.now in
    let p = c.args.pass.now in
    let t = c.loop.tally in
    let r = c.claim.new.pass in
    let held = in-hand hall p c.args.steps.now t c.loop.steps c.loop.pass r _ c.in-Told-Job.claimed c.loop.invariant
    c.in-Told-Job.field-0-is c.in-Told-Job.ensures.call c.in-Told-Job.ensures.queue in
    let given = c.give.ensures.working p
    (subst (λ (v : Work). IsWorking hall p (v ∷ []) t r) (sym c.in-Ok.ensures.claim) held) in
    between-given hall p c.args.steps.now t c.loop.steps c.loop.pass r c.give.new.pass c.book_waiting.new.pass
    c.give.new.tally c.book_waiting.new.tally c.perform_between.new.steps c.loop.invariant c.in-Told-Job.ensures.queue
    c.perform_between.ensures.step c.give.ensures.counts c.give.ensures.alone c.book_waiting.ensures.pass
    c.book_waiting.ensures.counts (c.book_waiting.ensures.working p given) c.book_waiting.ensures.put
    c.book_waiting.ensures.empty

pub loop-preserved : goal.loop-preserved
loop-preserved g c =
    between-idle c.args.hall.now c.args.pass.now c.args.steps.now c.loop.tally c.loop.steps c.loop.pass c.claim.new.pass
    c.book_waiting-in-Told-Idle.new.pass c.book_waiting-in-Told-Idle.new.tally _ c.loop.invariant
    (told c.args.hall.now c.loop.pass c.claim.new.pass _ _ c.in-Told-Idle.field-0-is c.in-Told-Idle.ensures.call)
    c.in-Told-Idle.ensures.queue c.book_waiting-in-Told-Idle.ensures.pass c.book_waiting-in-Told-Idle.ensures.counts
    (c.book_waiting-in-Told-Idle.ensures.working c.args.pass.now) c.book_waiting-in-Told-Idle.ensures.put
    c.book_waiting-in-Told-Idle.ensures.empty

pub returns-in-Told-Over-clause-worked : goal.returns-in-Told-Over-clause-worked
returns-in-Told-Over-clause-worked g c =
    subst (λ (e : WorkerEnd). HasWorked c.args.hall.now e c.args.pass.now c.claim.new.pass)
    (sym c.end-in-Told-Over.ensures)
    (worked-over c.args.hall.now c.args.pass.now c.args.steps.now c.loop.tally c.loop.steps c.loop.pass c.claim.new.pass
    c.loop.invariant c.in-Told-Over.ensures.pass c.in-Told-Over.ensures.queue
    (told c.args.hall.now c.loop.pass c.claim.new.pass _ _ c.in-Told-Over.field-0-is c.in-Told-Over.ensures.call))

pub returns-in-Told-NoMemory-clause-worked : goal.returns-in-Told-NoMemory-clause-worked
returns-in-Told-NoMemory-clause-worked g c =
    subst (λ (e : WorkerEnd). HasWorked c.args.hall.now e c.args.pass.now c.claim.new.pass)
    (sym c.end-in-Told-NoMemory.ensures)
    (worked-starved c.args.hall.now c.args.pass.now c.args.steps.now c.loop.tally c.loop.steps c.loop.pass
    c.claim.new.pass c.loop.invariant c.in-Told-NoMemory.ensures.pass c.in-Told-NoMemory.ensures.queue
    (told c.args.hall.now c.loop.pass c.claim.new.pass _ _ c.in-Told-NoMemory.field-0-is
    c.in-Told-NoMemory.ensures.call))

pub returns-in-Stopped-clause-worked : goal.returns-in-Stopped-clause-worked
returns-in-Stopped-clause-worked g c =
    subst (λ (e : WorkerEnd). HasWorked c.args.hall.now e c.args.pass.now c.claim.new.pass)
    (sym c.end-in-Stopped.ensures)
    (worked-stopped c.args.hall.now c.args.pass.now c.args.steps.now c.loop.tally c.loop.steps c.loop.pass
    c.claim.new.pass c.loop.invariant c.in-Stopped.ensures.pass c.in-Stopped.ensures.queue c.in-Stopped.ensures.call)
