-- The lines so far gave no record, and the rest is read as the whole is.
use Rattle.std.proofs.Common.{◌≡◌, ◌≤◌, ◌-◌, ◌+◌, [], length, take, drop}
use Rattle.text_model.specs.Lines.{lines}
use Rattle.text_model.specs.declared.bytes.TheConstants.{LINE_FEED}
use Rattle.event_records.specs.Cutting.{HasNo, IsLow, Reads, further}
use Rattle.event_records.proofs.reading.read_on.Given as goal

abbrev pub invariant-lines : goal.invariant-lines
invariant-lines l = record {
  within : l.taken ≤ length l.pending;
  searched : l.seen + l.taken ≤ length l.pending;
  none : HasNo LINE_FEED (take l.seen (drop l.taken l.pending));
  low : IsLow l.place;
  reads : Reads l.raws l.most l.ended l.pending l.fn.before (further l.raws l.most [] l.place (drop l.taken l.pending));
  rests : lines l.ended l.pending ≡ [] → (l.taken ≡ 0) × (l.place ≡ l.fn.before);
}

abbrev pub decreases-lines : goal.decreases-lines
decreases-lines l = length l.pending - l.taken
