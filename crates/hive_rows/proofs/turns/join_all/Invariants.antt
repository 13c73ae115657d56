use Rattle.std.proofs.Common.{◌≡◌, ◌+◌, vec_len}
use Rattle.turn_lock.specs.Pass.{IsIdle, rights_of}
use Rattle.turn_lock.specs.Turn.{IsPassOf}
use Rattle.hive_rows.specs.Passes.{AreReady}
use Rattle.hive_rows.proofs.turns.join_all.Given as goal

abbrev pub invariant-loop-pass : goal.invariant-loop-pass
invariant-loop-pass l = IsPassOf l.turn l.first × IsIdle l.first × (rights_of l.first + vec_len l.passes ≡ vec_len l.initial.passes + 1) × AreReady l.turn l.passes.items

abbrev pub decreases-loop-pass : goal.decreases-loop-pass
decreases-loop-pass l = goal.left-loop-pass l
