use Rattle.std.proofs.Common.{[], refl, subst}
use Rattle.event_records.specs.Reading.{HasRead}
use Rattle.hive_model.specs.Job.{Job}
use Rattle.hive_pump.proofs.input.Input.new.Goals as goal

pub returns : goal.returns
returns c = record {
  reads = subst (λ (j : Job). HasRead j [] [] c.in_ok-reader.reader) c.in_ok-try_clone.ensures c.in_ok-reader.ensures.has_read;
  goes_on = c.in_ok-reader.ensures.open;
  none = refl;
  room = c.in_ok-buffer.ensures.len;
}
