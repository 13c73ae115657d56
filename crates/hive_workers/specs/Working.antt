-- What is true while a worker runs.
use Rattle.std.specs.Prelude.{◌≡◌, ℕ, ◌+◌, ◌<◌, ◌≤◌, min, List, [], ◌++◌, All, length, Some}
use Rattle.std.specs.List.{count_by}
use Rattle.expr_code.specs.Claim.{Claim as Work, Done}
use Rattle.hive_hall.specs.Pass.{IsPassOf, passes_of, put, seen, took}
use Rattle.hive_hall.specs.declared.hall.Hall.{Hall}
use Rattle.hive_hall.specs.declared.pass.Pass.{Pass}
use Rattle.hive_model.specs.History.{journal_of}
use Rattle.hive_model.specs.Machine.{Machine}
use Rattle.hive_workers.specs.Items.{is_claim}
use Rattle.hive_workers.specs.Outstanding.{AreAccounted, state_after}
use Rattle.hive_workers.specs.Worked.{HasAdded, HasQueued, works_of}
use Rattle.hive_workers.specs.declared.ends.WorkerCause.{WorkerCause}
use Rattle.hive_workers.specs.declared.ends.WorkerEnd.{WorkerEnd}
use Rattle.hive_workers.specs.declared.limits.TheConstants.{MOST_COUNTED}
use Rattle.hive_workers.specs.declared.tally.Tally.{Tally}

-- counts

abbrev pub no_tally : Tally
no_tally = record { performed = 0; given = 0; put_back = 0; handed_back = 0; strays = 0 }

abbrev pub one_given : Tally → Tally
one_given t = record t { performed = t.performed + 1; given = t.given + 1 }

abbrev pub one_put_back : Tally → Tally
one_put_back t = record t { performed = t.performed + 1; put_back = t.put_back + 1 }

abbrev pub one_handed_back : Tally → Tally
one_handed_back t = record t { performed = t.performed + 1; handed_back = t.handed_back + 1 }

abbrev pub one_astray : Tally → Tally
one_astray t = record t { strays = min (t.strays + 1) MOST_COUNTED }

abbrev pub ended : Tally → WorkerCause → WorkerEnd
ended t cause = record {
  performed = t.performed;
  given = t.given;
  put_back = t.put_back;
  handed_back = t.handed_back;
  strays = t.strays;
  cause = cause;
}

abbrev pub IsSum : Tally → Type 0
IsSum t = t.performed ≡ t.given + t.put_back + t.handed_back

-- one claim more can be counted
abbrev pub HasRoom : Tally → Type 0
HasRoom t = (t.performed < MOST_COUNTED) × IsSum t

-- one claim more was performed, and so many of them were put back
abbrev pub Counts : ℕ → Tally → Tally → Type 0
Counts backs t u = (u.performed ≡ t.performed + 1) × (u.put_back ≤ t.put_back + backs) × IsSum u

-- only results that went astray were counted
abbrev pub CountsStrays : Tally → Tally → Type 0
CountsStrays t u = u ≡ record t { strays = u.strays }

-- a run

-- What a run has come to since its pass was `p`, with the work that it has in hand: a claim that was added and
-- neither given nor put back.
pub record IsWorking (hall : Hall) (p : Pass) (in_hand : List Work) (t : Tally) (q : Pass) : Type 0 where
  pub added : List ℕ
  pub items : HasAdded (t.performed + length in_hand) t.put_back p q added
  pub within : All (λ n. n < length (seen q)) added
  pub queued : List Done
  pub taken : List Done
  pub queue : HasQueued t.given t.strays p q added queued taken
  -- the journal has that many claims
  pub few : t.performed + length in_hand ≤ count_by is_claim (journal_of (seen q))
  pub accounted : (m : Machine) → state_after hall (seen q) ≡ Some m →
      AreAccounted (seen q) added (works_of queued ++ in_hand) m

-- in a hall of one pass the queue was empty at first, and is so again, and all that was given went there
abbrev pub IsAlone : Hall → Pass → Tally → Pass → Type 0
IsAlone hall p t q = passes_of hall ≡ 1 → length (put p) ≡ length (took p) →
    (length (put q) ≡ length (took q)) × (length (put q) ≡ length (put p) + t.given)

-- between two turns of a run
pub record IsBetween (hall : Hall) (p : Pass) (first : ℕ) (t : Tally) (steps : ℕ) (q : Pass) : Type 0 where
  pub pass : IsPassOf hall q
  pub working : IsWorking hall p [] t q
  pub sum : IsSum t
  pub none_back : t.put_back ≡ 0
  pub steps_are : steps ≡ first + t.performed
  pub alone : IsAlone hall p t q

-- the queue, in a hall of one pass

-- a result that is given while the queue is empty is queued
abbrev pub QueuesAlone : Hall → Tally → Tally → Pass → Pass → Type 0
QueuesAlone hall t u p q = passes_of hall ≡ 1 → length (put p) ≡ length (took p) →
    (length (put q) ≡ length (put p) + 1) × (took q ≡ took p) × (u.given ≡ t.given + 1)

-- one result fewer waits
abbrev pub TakesAlone : Hall → Pass → Pass → Type 0
TakesAlone hall p q = passes_of hall ≡ 1 →
    (length (took q) ≡ length (took p) + 1) × (length (took q) ≤ length (put q))

-- so many results were booked since
pub record IsBooking (hall : Hall) (p : Pass) (t : Tally) (booked : ℕ) (u : Tally) (q : Pass) : Type 0 where
  pub pass : IsPassOf hall q
  pub counts : CountsStrays t u
  pub working : (first : Pass) → IsWorking hall first [] t p → IsWorking hall first [] u q
  pub put_same : put q ≡ put p
  pub alone : passes_of hall ≡ 1 → length (took p) ≤ length (put p) →
      (length (took q) ≡ length (took p) + booked) × (length (took q) ≤ length (put q))
