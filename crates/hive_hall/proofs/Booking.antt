-- A result that was queued, or taken from the queue, and then booked.
use Rattle.std.proofs.Common.{◌≡◌, List, [], ◌∷◌, ◌++◌, ap, ◌∙◌, subst}
use Rattle.expr_code.specs.Claim.{Done as Executed, IsOfJob}
use Rattle.hive_model.specs.History.{BeginsWith, positions_added}
use Rattle.scheduler_core.specs.declared.answers.Give.{Give}
use Rattle.hive_hall.specs.Calls.{BooksOne, BooksOwn, Calls, QueuesNone, StaysOut}
use Rattle.hive_hall.specs.Pass.{job_of, passes_of, put, seen, slots_of, took}
use Rattle.hive_hall.specs.Says.{DoneHere, Histories}
use Rattle.hive_hall.specs.declared.hall.Hall.{Hall}
use Rattle.hive_hall.specs.declared.pass.Pass.{Pass}

-- what the pass did before stayed out of the lock
calls-after : (happened : Histories) (p mid q : Pass) → StaysOut p mid → Calls happened mid q → Calls happened p q
calls-after happened p mid q out call = record {
  found = call.found;
  begins = subst (BeginsWith call.found) out.seen_same call.begins;
  step = call.step;
  own_more = call.own_more ∙ ap (λ l. l ++ positions_added call.found (seen q)) out.own_same;
  number_same = call.number_same ∙ out.number_same;
}

pub books : (hall : Hall) (p mid q : Pass) (value : Executed) (answer : Give Executed) → StaysOut p mid →
    IsOfJob (job_of hall) value.claim → took mid ≡ took p ++ value ∷ [] → put mid ≡ put p →
    (passes_of hall ≡ 1 → (rest : List Executed) × (put p ≡ took p ++ value ∷ rest)) →
    Calls (DoneHere (job_of hall) (slots_of hall) value answer) mid q → QueuesNone mid q → BooksOne hall answer p q
books hall p mid q value answer out of_job more same in_order call queue = record {
  value = value;
  of_job = of_job;
  took_more = queue.1 ∙ more;
  put_same = queue.0 ∙ same;
  call = calls-after (DoneHere (job_of hall) (slots_of hall) value answer) p mid q out call;
  in_order = in_order;
}

pub books-own : (hall : Hall) (p mid q : Pass) (value : Executed) (answer : Give Executed) → StaysOut p mid →
    QueuesNone p mid → Calls (DoneHere (job_of hall) (slots_of hall) value answer) mid q → QueuesNone mid q →
    BooksOwn hall value answer p q
books-own hall p mid q value answer out before call queue = record {
  call = calls-after (DoneHere (job_of hall) (slots_of hall) value answer) p mid q out call;
  queue = (queue.0 ∙ before.0, queue.1 ∙ before.1);
}
