-- What a worker's run says of its pass, before and after, and of its counts.
use Rattle.std.specs.Prelude.{◌≡◌, ◌≢◌, ℕ, ◌+◌, ◌≤◌, min, true, List, ◌++◌, All, length, map, IsSomeAnd}
use Rattle.expr_code.specs.Claim.{Claim as Work, Done}
use Rattle.hive_hall.specs.Pass.{number_of, own, passes_of, put, seen, took}
use Rattle.hive_hall.specs.declared.hall.Hall.{Hall}
use Rattle.hive_hall.specs.declared.pass.Pass.{Pass}
use Rattle.hive_model.specs.History.{BeginsWith, is_stopped}
use Rattle.hive_model.specs.declared.item.Item.{Item}
use Rattle.scheduler_core.specs.Says.{IsOver}
use Rattle.hive_workers.specs.Items.{count_at, is_back, is_claim, is_done, is_work, stands_at}
use Rattle.hive_workers.specs.Outstanding.{AreAccounted, state_after}
use Rattle.hive_workers.specs.declared.ends.WorkerCause.{WorkerCause}
use Rattle.hive_workers.specs.declared.ends.WorkerCause.TheVariants.{Over, NoMemory, Stopped}
use Rattle.hive_workers.specs.declared.ends.WorkerEnd.{WorkerEnd}
use Rattle.hive_workers.specs.declared.limits.TheConstants.{MOST_COUNTED}

-- The pass has seen more, and these positions are its own since: claims, results and claims put back, so many claims
-- and so many put back.
pub record HasAdded (claims backs : ℕ) (p q : Pass) (added : List ℕ) : Type 0 where
  pub begins : BeginsWith (seen q) (seen p)
  pub number_same : number_of q ≡ number_of p
  pub own_more : own q ≡ own p ++ added
  pub new : All (λ n. length (seen p) ≤ n) added
  pub only : All (λ n. stands_at is_work (seen q) n ≡ true) added
  pub claims_are : count_at is_claim (seen q) added ≡ claims
  pub backs_are : count_at is_back (seen q) added ≡ backs

-- The pass queued and took these results since. So many of its own results were given, queued or booked, and some that
-- it took were astray: no claim was outstanding for them. Given and taken are together booked, queued and astray.
pub record HasQueued (given strays : ℕ) (p q : Pass) (added : List ℕ) (queued taken : List Done) : Type 0 where
  pub put_more : put q ≡ put p ++ queued
  pub took_more : took q ≡ took p ++ taken
  pub astray : ℕ
  pub balance : given + length taken ≡ count_at is_done (seen q) added + length queued + astray
  pub strays_are : strays ≡ min astray MOST_COUNTED

-- the claims whose results these are
abbrev pub works_of : List Done → List Work
works_of results = map (λ (d : Done). d.claim) results

-- what the history shows of the cause
abbrev pub IsCause : Hall → List Item → WorkerCause → Type 0
IsCause hall items Over = IsSomeAnd (state_after hall items) IsOver
IsCause hall items NoMemory = Unit {0}
IsCause hall items Stopped = is_stopped items ≡ true

pub record HasWorked (hall : Hall) (e : WorkerEnd) (p q : Pass) : Type 0 where
  pub added : List ℕ
  pub items : HasAdded e.performed e.put_back p q added
  pub queued : List Done
  pub taken : List Done
  pub queue : HasQueued e.given e.strays p q added queued taken
  pub sum : e.performed ≡ e.given + e.put_back + e.handed_back
  pub one_back : e.put_back ≤ 1
  pub none_back : e.cause ≢ NoMemory → e.put_back ≡ 0
  -- each claim that it added isn't outstanding, or its result is queued
  pub accounted : IsSomeAnd (state_after hall (seen q)) (AreAccounted (seen q) added (works_of queued))
  pub cause : IsCause hall (seen q) e.cause
  -- the hall's only pass finds room in the queue where it finds it empty at first
  pub alone : passes_of hall ≡ 1 → length (put p) ≡ length (took p) → length (put q) ≡ length (put p) + e.given
