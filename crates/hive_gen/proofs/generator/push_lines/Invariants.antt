use Rattle.std.proofs.Common.{◌≡◌, ◌+◌, ◌++◌, ◌<◌, ◌≤◌, length}
use Rattle.hive_gen.specs.Rest.{IsWithin, rest_of}
use Rattle.hive_gen.specs.declared.generator.TheConstants.{MOST_PIECE_BYTES}
use Rattle.hive_gen.proofs.generator.push_lines.Given as goal

abbrev pub invariant-loop-at : goal.invariant-loop-at
invariant-loop-at l =
    (l.out.items ++ rest_of l.at ≡ l.fn.out.items ++ rest_of l.fn.first)
    × (0 < length (rest_of l.fn.first) → length l.fn.out.items < length l.out.items)
    × IsWithin l.at
    × (length l.out.items ≤ length l.fn.out.items + MOST_PIECE_BYTES)

abbrev pub decreases-loop-at : goal.decreases-loop-at
decreases-loop-at l = length (rest_of l.at)
