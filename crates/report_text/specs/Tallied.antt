-- The counts so far, with those of the results that are left, make the counts of all.
use Rattle.std.specs.Prelude.{◌≡◌, ℕ, ◌+◌, ◌≤◌, List, length}
use Rattle.hive_model.specs.EventResult.{EventResult}
use Rattle.text_model.specs.Whole.{is_failed, is_ok, is_stalled, tally}
use Rattle.report_text.specs.declared.counts.Counts.{Counts}

pub record IsTallied (counts : Counts) (done : ℕ) (left all : List EventResult) : Type 0 where
  pub events : counts.events ≡ done
  pub ok : counts.ok + tally is_ok left ≡ tally is_ok all
  pub failed : counts.failed + tally is_failed left ≡ tally is_failed all
  pub stalled : counts.stalled + tally is_stalled left ≡ tally is_stalled all
  pub at_most : (counts.ok ≤ done) × (counts.failed ≤ done) × (counts.stalled ≤ done)

-- the counts are those of these results
pub record CountsAll (all : List EventResult) (counts : Counts) : Type 0 where
  pub events : counts.events ≡ length all
  pub ok : counts.ok ≡ tally is_ok all
  pub failed : counts.failed ≡ tally is_failed all
  pub stalled : counts.stalled ≡ tally is_stalled all
