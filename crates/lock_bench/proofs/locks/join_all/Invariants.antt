use Rattle.std.proofs.Common.{◌≡◌, ◌+◌, All, vec_len}
use Rattle.turn_lock.specs.Pass.{IsIdle, rights_of}
use Rattle.turn_lock.specs.Turn.{IsPassOf}
use Rattle.lock_bench.specs.Passes.{IsReady}
use Rattle.lock_bench.proofs.locks.join_all.Given as goal

abbrev pub invariant-loop-pass : goal.invariant-loop-pass
invariant-loop-pass l = IsPassOf l.turn l.first × IsIdle l.first
    × (rights_of l.first + vec_len l.passes ≡ vec_len l.initial.passes + 1) × All (IsReady l.turn 1) l.passes.items

abbrev pub decreases-loop-pass : goal.decreases-loop-pass
decreases-loop-pass l = goal.left-loop-pass l
