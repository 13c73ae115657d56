-- What a call says of its pass, before and after.
use Rattle.std.specs.Prelude.{◌≡◌, Bool, true, false, List, [], ◌∷◌, ◌++◌}
use Rattle.expr_code.specs.Claim.{Done as Executed, IsOfJob}
use Rattle.hive_model.specs.Job.{Job}
use Rattle.hive_model.specs.History.{BeginsWith, positions_added}
use Rattle.hive_model.specs.declared.item.Item.{Item}
use Rattle.scheduler_core.specs.declared.answers.Claim.TheVariants.{Job as Working, Idle, Over, NoMemory as NoneToWork}
use Rattle.scheduler_core.specs.declared.answers.Give.{Give}
use Rattle.scheduler_core.specs.declared.answers.Give.TheVariants as give
use Rattle.hive_hall.specs.Says.{DoneHere, Histories}
use Rattle.hive_hall.specs.Pass.{job_of, number_of, own, passes_of, put, seen, slots_of, took}
use Rattle.hive_hall.specs.declared.answers.Ask.{Ask}
use Rattle.hive_hall.specs.declared.answers.Ask.TheVariants.{Told, Stopped}
use Rattle.hive_hall.specs.declared.answers.Book.{Book}
use Rattle.hive_hall.specs.declared.answers.Book.TheVariants as book
use Rattle.hive_hall.specs.declared.answers.Post.{Post}
use Rattle.hive_hall.specs.declared.answers.Post.TheVariants as post
use Rattle.hive_hall.specs.declared.hall.Hall.{Hall}
use Rattle.hive_hall.specs.declared.pass.Pass.{Pass}

-- The call took the lock. What the pass had seen is a prefix of the history that was found there, it has seen what
-- the call left, and its own positions grew by exactly that of the item that was added.
pub record Calls (happened : Histories) (p q : Pass) : Type 0 where
  pub found : List Item
  pub begins : BeginsWith found (seen p)
  pub step : happened found (seen q)
  pub own_more : own q ≡ own p ++ positions_added found (seen q)
  pub number_same : number_of q ≡ number_of p

-- the call didn't take the lock
pub record StaysOut (p q : Pass) : Type 0 where
  pub seen_same : seen q ≡ seen p
  pub own_same : own q ≡ own p
  pub number_same : number_of q ≡ number_of p

-- the queue wasn't touched
abbrev pub QueuesNone : Pass → Pass → Type 0
QueuesNone p q = (put q ≡ put p) × (took q ≡ took p)

-- what is handed out is the job's
abbrev pub WorkIsOf : Job → Ask → Type 0
WorkIsOf job (Told (Working v)) = IsOfJob job v
WorkIsOf job (Told (Idle running)) = Unit {0}
WorkIsOf job (Told Over) = Unit {0}
WorkIsOf job (Told NoneToWork) = Unit {0}
WorkIsOf job Stopped = Unit {0}

-- a result was queued
pub record Queues (value : Executed) (p q : Pass) : Type 0 where
  pub out : StaysOut p q
  pub put_more : put q ≡ put p ++ value ∷ []
  pub took_same : took q ≡ took p

-- a result was booked as by `done`
pub record BooksOwn (hall : Hall) (value : Executed) (answer : Give Executed) (p q : Pass) : Type 0 where
  pub call : Calls (DoneHere (job_of hall) (slots_of hall) value answer) p q
  pub queue : QueuesNone p q

abbrev pub PostSays : Hall → Executed → Post → Pass → Pass → Type 0
PostSays hall value post.Queued p q = Queues value p q
PostSays hall value post.Booked p q = BooksOwn hall value give.Booked p q
PostSays hall value (post.NotOutstanding back) p q = BooksOwn hall value (give.NotOutstanding back) p q

abbrev pub is_queued : Post → Bool
is_queued post.Queued = true
is_queued post.Booked = false
is_queued (post.NotOutstanding back) = false

-- a result was taken from the queue, and booked as by `done`; the hall's only pass takes the oldest one
pub record BooksOne (hall : Hall) (answer : Give Executed) (p q : Pass) : Type 0 where
  pub value : Executed
  pub of_job : IsOfJob (job_of hall) value.claim
  pub took_more : took q ≡ took p ++ value ∷ []
  pub put_same : put q ≡ put p
  pub call : Calls (DoneHere (job_of hall) (slots_of hall) value answer) p q
  pub in_order : passes_of hall ≡ 1 → (rest : List Executed) × (put p ≡ took p ++ value ∷ rest)

abbrev pub BookSays : Hall → Book → Pass → Pass → Type 0
BookSays hall book.Booked p q = BooksOne hall give.Booked p q
BookSays hall (book.NotOutstanding back) p q = BooksOne hall (give.NotOutstanding back) p q
BookSays hall book.Empty p q = StaysOut p q × QueuesNone p q

abbrev pub is_empty : Book → Bool
is_empty book.Booked = false
is_empty book.Empty = true
is_empty (book.NotOutstanding back) = false
