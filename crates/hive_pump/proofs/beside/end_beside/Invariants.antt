use Rattle.std.proofs.Common.{◌≡◌}
use Rattle.hall_loop.specs.Beside.{IsBeside, given_of}
use Rattle.hive_pump.proofs.beside.end_beside.Given as goal

abbrev pub invariant-loop : goal.invariant-loop
invariant-loop g l = (given_of l.events ≡ given_of l.fn.events) × IsBeside l.hall l.events
