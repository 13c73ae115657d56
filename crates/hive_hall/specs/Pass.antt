-- What public clauses read of a hall and its passes, and what is true of each pass between two calls.
use Rattle.std.specs.Prelude.{◌≡◌, ℕ, List, [], ◌∷◌}
use Rattle.action_queue.specs.declared.actions.Actions.{Actions}
use Rattle.action_queue.specs.Passes.{
  put_of,
  took_of,
  job_of as job_of_queue,
  passes_of as passes_of_queue,
  IsPassOf as IsQueuePassOf,
}
use Rattle.expr_code.specs.Claim.{Done}
use Rattle.hive_model.specs.History.{BeginsWith, DeskState, IsParticipant, Participant, history}
use Rattle.hive_model.specs.Job.{Job}
use Rattle.hive_model.specs.declared.item.Item.{Item}
use Rattle.hive_model.specs.declared.item.Item.TheVariants.{Opening, Admitted, Entered, Stop}
use Rattle.turn_lock.specs.declared.turn.Turn.{Turn}
use Rattle.turn_lock.specs.Pass.{IsIdle, rights_of, seen as seen_by, own as own_of}
use Rattle.turn_lock.specs.Turn.{IsPassOf as IsTurnPassOf, opening}
use Rattle.hive_hall.specs.Legal.{IsHistoryOf}
use Rattle.hive_hall.specs.declared.board.Board.{Board}
use Rattle.hive_hall.specs.declared.hall.Hall.{Hall}
use Rattle.hive_hall.specs.declared.pass.Pass.{Pass}

-- passes

-- the prefix of the history that the pass has seen
abbrev pub seen : Pass → List Item
seen p = seen_by p.turn

-- the positions, from 0, of its own items in that
abbrev pub own : Pass → List ℕ
own p = own_of p.turn

-- the results that it queued, and those that it took from the queue, in order
abbrev pub put : Pass → List Done
put p = put_of p.queue

abbrev pub took : Pass → List Done
took p = took_of p.queue

abbrev pub number_of : Pass → ℕ
number_of p = p.number

abbrev pub participant : Pass → Participant Done
participant p = record { seen = seen p; own = own p; put = put p; took = took p }

-- halls

abbrev pub Lock : Type 0
Lock = Turn Board Item

-- the history of what is behind the lock
abbrev pub history_of : Board → List Item
history_of board = history board.desk board.stop

abbrev pub slots_in : List Item → ℕ
slots_in (Opening job slots ∷ items) = slots
slots_in (Admitted slot place event ∷ items) = 0
slots_in (Entered entry ∷ items) = 0
slots_in (Stop ∷ items) = 0
slots_in [] = 0

abbrev pub opening_in : Lock → List Item
opening_in lock = opening history_of lock

-- the history with which the hall was opened
abbrev pub opening_of : Hall → List Item
opening_of hall = opening_in hall.turn

abbrev pub job_of : Hall → Job
job_of hall = job_of_queue hall.queue

abbrev pub slots_of : Hall → ℕ
slots_of hall = slots_in (opening_of hall)

-- how many passes the hall was opened with
abbrev pub passes_of : Hall → ℕ
passes_of hall = passes_of_queue hall.queue

-- what a pass of this lock and this queue knows: it has seen a legal history of their job, which begins with the
-- opening one, and its own positions lie in that in order
pub record Knows (lock : Lock) (line : Actions) (p : Pass) : Type 0 where
  pub turn : IsTurnPassOf lock p.turn
  pub right : rights_of p.turn ≡ 1
  pub queue : IsQueuePassOf line p.queue
  pub begins : BeginsWith (seen p) (opening_in lock)
  pub told : DeskState
  pub legal : IsHistoryOf (job_of_queue line) (slots_in (opening_in lock)) (seen p) told
  pub in_order : IsParticipant (participant p)

-- the pass is this hall's, and outside of it
pub record IsPassOf (hall : Hall) (p : Pass) : Type 0 where
  pub knows : Knows hall.turn hall.queue p
  pub idle : IsIdle p.turn
