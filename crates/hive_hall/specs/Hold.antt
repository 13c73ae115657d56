-- What is true while a pass has what is behind the lock, and how it gets it and puts it back.
use Rattle.std.specs.Prelude.{◌≡◌, ◌++◌}
use Rattle.hive_model.specs.History.{positions_added}
use Rattle.scheduler_core.specs.State.{IsDesk}
use Rattle.turn_lock.specs.History.{MayFollow}
use Rattle.turn_lock.specs.Pass.{IsHolding, held}
use Rattle.hive_hall.specs.Pass.{IsPassOf, Knows, history_of, job_of, own, seen, slots_of}
use Rattle.hive_hall.specs.declared.board.Board.{Board}
use Rattle.hive_hall.specs.declared.hall.Hall.{Hall}
use Rattle.hive_hall.specs.declared.pass.Pass.{Pass}

-- the pass is this hall's, and what is behind the lock is out with it
pub record IsInside (hall : Hall) (p : Pass) : Type 0 where
  pub knows : Knows hall.turn hall.queue p
  pub holding : IsHolding p.turn

-- The pass got the board, whose history begins with what it has seen, and whose scheduler core is of the hall's job.
-- Else nothing has changed.
pub record IsTaken (hall : Hall) (p : Pass) (board : Board) (q : Pass) : Type 0 where
  pub inside : IsInside hall q
  pub desk : IsDesk board.desk
  pub job : board.desk.job ≡ job_of hall
  pub slots : board.desk.slots ≡ slots_of hall
  pub has : held q.turn ≡ history_of board
  pub seen_before : seen q ≡ seen p
  pub own_before : own q ≡ own p
  pub queue : q.queue ≡ p.queue
  pub number : q.number ≡ p.number

-- the board may go back: one item was added, or none
pub record IsOut (hall : Hall) (p : Pass) (board : Board) : Type 0 where
  pub inside : IsInside hall p
  pub follows : MayFollow (held p.turn) (history_of board)

-- the pass has seen the board's history, and owns the position of what was added
pub record IsBack (hall : Hall) (p : Pass) (board : Board) (q : Pass) : Type 0 where
  pub outside : IsPassOf hall q
  pub seen_now : seen q ≡ history_of board
  pub own_now : own q ≡ own p ++ positions_added (held p.turn) (history_of board)
  pub queue : q.queue ≡ p.queue
  pub number : q.number ≡ p.number
