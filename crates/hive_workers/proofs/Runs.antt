-- A run from its beginning, turn by turn, to its end.
use Rattle.std.proofs.Common.{◌≡◌, ◌≢◌, ℕ, ◌+◌, ◌≤◌, List, [], length, Option, refl, sym, ap, ◌∙◌, subst, arith, append-nil}
use Rattle.std.specs.Option.{IsSomeAnd}
use Rattle.action_queue.specs.declared.limits.TheConstants.{MOST_WAITING}
use Rattle.expr_code.specs.Claim.{Claim as Work, Done as Executed}
use Rattle.hive_hall.specs.Calls.{Calls, QueuesNone}
use Rattle.hive_hall.specs.Pass.{IsPassOf, job_of, number_of, passes_of, put, seen, slots_of, took}
use Rattle.hive_hall.specs.Says.{ClaimHere}
use Rattle.hive_hall.specs.declared.answers.Ask.TheVariants.{Told, Stopped}
use Rattle.hive_hall.specs.declared.hall.Hall.{Hall}
use Rattle.hive_hall.specs.declared.pass.Pass.{Pass}
use Rattle.hive_model.specs.History.{is_stopped}
use Rattle.hive_model.specs.Machine.{Machine}
use Rattle.hive_model.specs.declared.item.Item.{Item}
use Rattle.scheduler_core.specs.Says.{IsOver}
use Rattle.scheduler_core.specs.declared.answers.Claim.TheVariants.{Idle, Over, NoMemory as NoneToWork}
use Rattle.hive_workers.proofs.Moves.{has-led, in-state, replayed, sees-more}
use Rattle.hive_workers.proofs.Turns.{working-more, working-starts}
use Rattle.hive_workers.specs.Outstanding.{AreAccounted, state_after}
use Rattle.hive_workers.specs.Worked.{HasWorked, IsCause, works_of}
use Rattle.hive_workers.specs.Working.{Counts, CountsStrays, IsAlone, IsBetween, IsSum, IsWorking, QueuesAlone, ended, no_tally}
use Rattle.hive_workers.specs.declared.ends.WorkerCause.{WorkerCause}
use Rattle.hive_workers.specs.declared.ends.WorkerCause.TheVariants as cause
use Rattle.hive_workers.specs.declared.tally.Tally.{Tally}

pub between-starts : (hall : Hall) (p : Pass) (first : ℕ) → IsPassOf hall p → IsBetween hall p first no_tally first p
between-starts hall p first pass = record {
  pass = pass;
  working = working-starts hall p;
  sum = refl;
  none_back = refl;
  steps_are = omega arith;
  alone = λ one even. (even, omega arith);
}

-- a queue that isn't touched is as even as before
alone-same : (hall : Hall) (p : Pass) (t : Tally) (q r : Pass) → QueuesNone q r → IsAlone hall p t q →
    IsAlone hall p t r
alone-same hall p t q r same it one even =
    let was = it one even in
    let puts = ap (λ (l : List Executed). length l) same.0 in
    let takes = ap (λ (l : List Executed). length l) same.1 in
    let first = was.0 in
    let second = was.1 in
    (omega (arith, puts, takes, first), omega (arith, puts, second))

-- what a book leaves of an even queue
alone-booked : (hall : Hall) (p : Pass) (t u : Tally) (q r : Pass) → CountsStrays t u → put r ≡ put q →
    (passes_of hall ≡ 1 → length (took q) ≤ length (put q) → length (put q) ≤ length (took q) + MOST_WAITING →
    length (put r) ≡ length (took r)) →
    (ahead : ℕ) → ahead ≤ 1 →
    (passes_of hall ≡ 1 → length (put p) ≡ length (took p) →
    (length (put q) ≡ length (took q) + ahead) × (length (put q) ≡ length (put p) + t.given)) → IsAlone hall p u r
alone-booked hall p t u q r strays same empty ahead small it one even =
    let was = it one even in
    let first = was.0 in
    let second = was.1 in
    let puts = ap (λ (l : List Executed). length l) same in
    let given = ap (λ (x : Tally). x.given) strays in
    (empty one (omega (arith, first)) (omega (arith, first, small)), omega (arith, puts, second, given))

-- nothing could be claimed, and what waited was booked
pub between-idle : (hall : Hall) (p : Pass) (first : ℕ) (t : Tally) (steps : ℕ) (q r s : Pass) (u : Tally)
    (running : ℕ) →
    IsBetween hall p first t steps q →
    Calls (ClaimHere (job_of hall) (slots_of hall) (number_of q) (Told (Idle running))) q r → QueuesNone q r →
    IsPassOf hall s → CountsStrays t u → (IsWorking hall p [] t r → IsWorking hall p [] u s) → put s ≡ put r →
    (passes_of hall ≡ 1 → length (took r) ≤ length (put r) → length (put r) ≤ length (took r) + MOST_WAITING →
    length (put s) ≡ length (took s)) → IsBetween hall p first u steps s
between-idle hall p first t steps q r s u running it call same pass strays works puts empty =
    let performed = ap (λ (x : Tally). x.performed) strays in
    let backs = ap (λ (x : Tally). x.put_back) strays in
    let given = ap (λ (x : Tally). x.given) strays in
    let handed = ap (λ (x : Tally). x.handed_back) strays in
    let sum = it.sum in
    let before = it.steps_are in
    let alone = alone-same hall p t q r same it.alone in
    record {
      pass = pass;
      working = works (working-more hall p q r t it.pass [] call.found (sees-more _ q r call call.step.1.added) same
          it.working);
      sum = omega (arith, performed, backs, given, handed, sum);
      none_back = backs ∙ it.none_back;
      steps_are = omega (arith, before, performed);
      alone = alone-booked hall p t u r s strays puts empty 0 (omega arith) (λ one even.
          let was = alone one even in
          let first = was.0 in (omega (arith, first), was.1));
    }

-- a claim was performed and its result given, and what waited was booked
pub between-given : (hall : Hall) (p : Pass) (first : ℕ) (t : Tally) (steps : ℕ) (q r s z : Pass) (u v : Tally)
    (more : ℕ) →
    IsBetween hall p first t steps q → QueuesNone q r → more ≡ steps + 1 → Counts 0 t u → QueuesAlone hall t u r s →
    IsPassOf hall z → CountsStrays u v → IsWorking hall p [] v z → put z ≡ put s →
    (passes_of hall ≡ 1 → length (took s) ≤ length (put s) → length (put s) ≤ length (took s) + MOST_WAITING →
    length (put z) ≡ length (took z)) → IsBetween hall p first v more z
between-given hall p first t steps q r s z u v more it same step counts queued pass strays works puts empty =
    let performed = ap (λ (x : Tally). x.performed) strays in
    let backs = ap (λ (x : Tally). x.put_back) strays in
    let given = ap (λ (x : Tally). x.given) strays in
    let handed = ap (λ (x : Tally). x.handed_back) strays in
    let one_more = counts.0 in
    let no_back = counts.1 in
    let sum = counts.2 in
    let none = it.none_back in
    let before = it.steps_are in
    let alone = alone-same hall p t q r same it.alone in
    record {
      pass = pass;
      working = works;
      sum = omega (arith, performed, backs, given, handed, sum);
      none_back = omega (arith, backs, no_back, none);
      steps_are = omega (arith, before, performed, one_more, step);
      alone = alone-booked hall p u v s z strays puts empty 1 (omega arith) (λ one even.
          let was = alone one even in
          let first = was.0 in
          let second = was.1 in
          let gives = queued one first in
          let puts_more = gives.0 in
          let takes = ap (λ (l : List Executed). length l) gives.1 in
          let counted = gives.2 in
          (omega (arith, first, puts_more, takes), omega (arith, second, puts_more, counted)));
    }

-- the end

pub worked : (hall : Hall) (p : Pass) (t : Tally) (q : Pass) (why : WorkerCause) → IsPassOf hall q →
    IsWorking hall p [] t q → IsSum t → t.put_back ≤ 1 → (why ≢ cause.NoMemory → t.put_back ≡ 0) →
    IsCause hall (seen q) why →
    (passes_of hall ≡ 1 → length (put p) ≡ length (took p) → length (put q) ≡ length (put p) + t.given) →
    HasWorked hall (ended t why) p q
worked hall p t q why pass w sum one none because alone =
    let led = has-led hall q pass in
    record {
      added = w.added;
      items = record {
        begins = w.items.begins;
        number_same = w.items.number_same;
        own_more = w.items.own_more;
        new = w.items.new;
        only = w.items.only;
        claims_are = let all = w.items.claims_are in omega (arith, all);
        backs_are = w.items.backs_are;
      };
      queued = w.queued;
      taken = w.taken;
      queue = w.queue;
      sum = sum;
      one_back = one;
      none_back = none;
      accounted = in-state (AreAccounted (seen q) w.added (works_of w.queued)) _ led.state led.led
          (subst (λ (ws : List Work). AreAccounted (seen q) w.added ws led.state) (append-nil (works_of w.queued))
          (w.accounted led.state led.led));
      cause = because;
      alone = alone;
    }

-- the claim that ends a run
pub worked-asked : (hall : Hall) (p : Pass) (first : ℕ) (t : Tally) (steps : ℕ) (q r : Pass) (found : List Item)
    (why : WorkerCause) → IsBetween hall p first t steps q → IsPassOf hall r → IsWorking hall p [] t r →
    QueuesNone q r →
    IsCause hall (seen r) why → HasWorked hall (ended t why) p r
worked-asked hall p first t steps q r found why it pass w same because =
    let none = it.none_back in
    worked hall p t r why pass w it.sum (omega (arith, none)) (λ other. none) because
    (λ one even. (alone-same hall p t q r same it.alone one even).1)

module _ (hall : Hall) (p : Pass) (first : ℕ) (t : Tally) (steps : ℕ) (q r : Pass)
    (it : IsBetween hall p first t steps q)
    (pass : IsPassOf hall r) (same : QueuesNone q r) where
  pub worked-over : Calls (ClaimHere (job_of hall) (slots_of hall) (number_of q) (Told Over)) q r →
      HasWorked hall (ended t cause.Over) p r
  worked-over call =
      let step = call.step.1 in
      worked-asked hall p first t steps q r call.found cause.Over it pass
      (working-more hall p q r t it.pass [] call.found (sees-more _ q r call step.added) same it.working) same
      (subst (λ (o : Option Machine). IsSomeAnd o IsOver)
      (replayed hall call.found step.before step.legal ∙ ap (state_after hall) (sym step.added)) step.said.1)

  pub worked-starved : Calls (ClaimHere (job_of hall) (slots_of hall) (number_of q) (Told NoneToWork)) q r →
      HasWorked hall (ended t cause.NoMemory) p r
  worked-starved call =
      worked-asked hall p first t steps q r call.found cause.NoMemory it pass
      (working-more hall p q r t it.pass [] call.found (sees-more _ q r call call.step.1.added) same it.working) same tt

  pub worked-stopped : Calls (ClaimHere (job_of hall) (slots_of hall) (number_of q) Stopped) q r →
      HasWorked hall (ended t cause.Stopped) p r
  worked-stopped call =
      worked-asked hall p first t steps q r call.found cause.Stopped it pass
      (working-more hall p q r t it.pass [] call.found (sees-more _ q r call call.step.1.added) same it.working) same
      (ap is_stopped call.step.1.added ∙ call.step.0)

  -- memory ran out in an execution
  pub worked-returned : (s : Pass) (u : Tally) → IsPassOf hall s → Counts 1 t u → u.given ≡ t.given →
      IsWorking hall p [] u s → QueuesNone r s → HasWorked hall (ended u cause.NoMemory) p s
  worked-returned s u outside counts given w also =
      let none = it.none_back in
      let backs = counts.1 in
      worked hall p u s cause.NoMemory outside w counts.2 (omega (arith, none, backs)) (λ other. absurd (other refl)) tt
      (λ one even.
      let was = alone-same hall p t q r same it.alone one even in
      let second = was.1 in
      let puts = ap (λ (l : List Executed). length l) also.0 in
      omega (arith, second, puts, given))
