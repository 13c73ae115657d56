use Rattle.std.proofs.Common.{◌≡◌, ◌+◌, ◌≤◌, vec_len, vec_capacity}
use Rattle.turn_lock.specs.Pass.{IsIdle, rights_of}
use Rattle.turn_lock.specs.Turn.{IsPassOf}
use Rattle.hive_rows.specs.Passes.{AreReady}
use Rattle.hive_rows.proofs.turns.split_all.Given as goal

abbrev pub invariant-loop-made : goal.invariant-loop-made
invariant-loop-made l = IsPassOf l.turn l.first × IsIdle l.first × (rights_of l.first + l.made ≡ 9) × AreReady l.turn l.passes.items × (vec_len l.passes ≡ l.made) × (8 ≤ vec_capacity l.passes)
