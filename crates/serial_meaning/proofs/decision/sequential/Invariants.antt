use Rattle.std.proofs.Common.{◌≡◌, ◌||◌, drop}
use Rattle.std.specs.List.{find}
use Rattle.hive_model.specs.Decision.{is_undecided, is_fixing}
use Rattle.serial_meaning.proofs.decision.sequential.Given as goal

abbrev pub invariant-loop-member : goal.invariant-loop-member
invariant-loop-member l =
    find (λ d. is_undecided d || is_fixing l.mode_or d) (drop l.member-index l.members)
    ≡ find (λ d. is_undecided d || is_fixing l.mode_or d) l.members
