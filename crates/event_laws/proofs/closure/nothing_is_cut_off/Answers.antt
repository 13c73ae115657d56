use Rattle.event_laws.proofs.Uncut.{uncut-live, uncut-live_sequence, uncut-enabled, uncut-ready, uncut-ends}
use Rattle.event_laws.proofs.closure.nothing_is_cut_off.Goals as goal

pub returns : goal.returns
returns c = record {
  algorithms = uncut-live;
  sequences = uncut-live_sequence;
  enabled = uncut-enabled;
  ready = uncut-ready;
  ends = uncut-ends;
}
