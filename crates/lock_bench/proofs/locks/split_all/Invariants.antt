use Rattle.std.proofs.Common.{◌≡◌, ◌+◌, ◌≤◌, All, vec_len, vec_capacity}
use Rattle.turn_lock.specs.Pass.{IsIdle, rights_of}
use Rattle.turn_lock.specs.Turn.{IsPassOf}
use Rattle.lock_bench.specs.Passes.{IsReady}
use Rattle.lock_bench.proofs.locks.split_all.Given as goal

abbrev pub invariant-loop-made : goal.invariant-loop-made
invariant-loop-made l = IsPassOf l.turn l.first × IsIdle l.first × (rights_of l.first + l.made ≡ l.threads + 1)
    × All (IsReady l.turn 1) l.passes.items × (vec_len l.passes ≡ l.made) × (l.threads ≤ vec_capacity l.passes)
