-- How the passes of a hall are made: the lock's first pass gives a right to each, and the queue a pass of its own.
use Rattle.std.specs.Prelude.{◌≡◌, ℕ, ◌≤◌, List, [], All, length}
use Rattle.action_queue.specs.declared.actions.Actions.{Actions}
use Rattle.action_queue.specs.declared.pass.QueuePass.{QueuePass}
use Rattle.action_queue.specs.Passes.{
  IsUnused,
  IsPassOf as IsQueuePassOf,
  job_of as job_of_queue,
  passes_of as passes_of_queue,
}
use Rattle.expr_code.specs.Claim.{Done}
use Rattle.hive_model.specs.History.{DeskState, Participant}
use Rattle.hive_model.specs.Many.{Many}
use Rattle.hive_model.specs.declared.item.Item.{Item}
use Rattle.turn_lock.specs.declared.kept.Kept.{Ghosts}
use Rattle.turn_lock.specs.declared.pass.TurnPass.{TurnPass}
use Rattle.turn_lock.specs.Pass.{IsIdle, rights_of, seen as seen_by, own as own_of}
use Rattle.turn_lock.specs.Turn.{IsPassOf as IsTurnPassOf, all_rights}
use Rattle.hive_hall.specs.Legal.{IsHistoryOf}
use Rattle.hive_hall.specs.Pass.{Knows, Lock, opening_in, participant, slots_in}
use Rattle.hive_hall.specs.declared.board.Board.{Board}
use Rattle.hive_hall.specs.declared.hall.Hall.{Hall}
use Rattle.hive_hall.specs.declared.pass.Pass.{Pass}

-- a queue with all of its passes, so many, and a list that has room for as many passes of a hall
pub record IsLine (count : ℕ) (queue : Actions) (dealt : Many QueuePass) (made : Many Pass) : Type 0 where
  pub passes : passes_of_queue queue ≡ count
  pub all : length dealt.items ≡ count
  pub unused : All (λ q. IsQueuePassOf queue q × IsUnused q) dealt.items
  pub none : made.items ≡ []
  pub room : count ≤ made.spare

module _ {g : Ghosts Board Item} where
  -- the lock's pass with these rights, which has seen the opening history and added nothing
  pub record IsFirst (rights : ℕ) (lock : Lock) (p : TurnPass Board Item g) : Type 0 where
    pub turn : IsTurnPassOf lock p
    pub idle : IsIdle p
    pub right : rights_of p ≡ rights
    pub all : all_rights lock ≡ rights
    pub opened : seen_by p ≡ opening_in lock
    pub none : own_of p ≡ []

-- the history with which the lock was opened is that of a scheduler core of the queue's job
pub record OpensLegally (lock : Lock) (queue : Actions) : Type 0 where
  pub told : DeskState
  pub legal : IsHistoryOf (job_of_queue queue) (slots_in (opening_in lock)) (opening_in lock) told

abbrev pub opening_participant : List Item → Participant Done
opening_participant items = record { seen = items; own = []; put = []; took = [] }

-- a pass of the lock and the queue, which has seen the opening history alone
pub record IsFresh (lock : Lock) (queue : Actions) (p : Pass) : Type 0 where
  pub knows : Knows lock queue p
  pub idle : IsIdle p.turn
  pub opened : participant p ≡ opening_participant (opening_in lock)

pub record IsHallOf (lock : Lock) (queue : Actions) (hall : Hall) : Type 0 where
  pub turn : hall.turn ≡ lock
  pub queue_is : hall.queue ≡ queue
