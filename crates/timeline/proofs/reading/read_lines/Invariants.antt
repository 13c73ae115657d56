-- The entries so far, and what the lines behind them say, are what the whole text says.
use Rattle.std.proofs.Common.{◌≡◌, ◌+◌, ◌≤◌, length}
use Rattle.text_model.specs.Pieces.{cut}
use Rattle.text_model.specs.TimelineRead.{entries_in}
use Rattle.text_model.specs.declared.bytes.TheConstants.{LINE_FEED}
use Rattle.timeline.proofs.Steps.{after}
use Rattle.timeline.proofs.reading.read_lines.Given as goal

abbrev pub invariant-loop-line : goal.invariant-loop-line
invariant-loop-line l = record {
  reads : after l.entries.items (entries_in l.number (cut LINE_FEED l.rest))
      ≡ entries_in 1 (cut LINE_FEED l.bytes);
  low : l.number + length l.rest ≤ length l.bytes + 1;
}

abbrev pub decreases-loop-line : goal.decreases-loop-line
decreases-loop-line l = length l.rest
