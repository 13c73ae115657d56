use Rattle.std.proofs.Common.{◌≡◌, false, take}
use Rattle.std.specs.List.{enumerate_from, list_any}
use Rattle.hive_model.specs.Live.{cuts_algorithm}
use Rattle.serial_meaning.proofs.live.is_live.Given as goal

abbrev pub invariant-loop-place : goal.invariant-loop-place
invariant-loop-place l =
    list_any (cuts_algorithm l.job l.outcomes l.number) (take l.place (enumerate_from 0 l.sequence-items)) ≡ false
