-- One more event in the counts: in the number of all, and in that of its status.
use Rattle.std.specs.Prelude.{◌≡◌, ◌+◌, if◌then◌else◌}
use Rattle.text_model.specs.Whole.{is_ok, is_failed, is_stalled}
use Rattle.hive_model.specs.declared.decision.EventStatus.{EventStatus}
use Rattle.report_text.specs.declared.counts.Counts.{Counts}

pub record IsCounted (old : Counts) (status : EventStatus) (new : Counts) : Type 0 where
  pub events : new.events ≡ old.events + 1
  pub ok : new.ok ≡ old.ok + (if is_ok status then 1 else 0)
  pub failed : new.failed ≡ old.failed + (if is_failed status then 1 else 0)
  pub stalled : new.stalled ≡ old.stalled + (if is_stalled status then 1 else 0)
