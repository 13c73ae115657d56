-- The numbers that a loop keeps: how many events it admitted, how many of their results it handed out, and the counts
-- of those that ended. The results that wait have two places for each slot.
use Rattle.std.specs.Prelude.{◌≡◌, ℕ, ◌+◌, ◌*◌, ◌<◌, ◌≤◌, ◌^◌, length}
use Rattle.event_loop.specs.Waiting.{Waits}
use Rattle.hive_model.specs.declared.limits.TheConstants.{MOST_SLOTS}
use Rattle.report_text.specs.declared.counts.Counts.{Counts}

pub record IsWindow (slots admitted handed : ℕ) (counts : Counts) (waiting : Waits) : Type 0 where
  pub slots_few : slots ≤ MOST_SLOTS
  -- counts are numbers of 32 bits
  pub few : admitted < 2 ^ 32
  pub within : handed ≤ admitted
  pub window : admitted ≤ handed + 2 * slots
  pub room : length waiting ≡ 2 * slots
  pub ended : counts.events ≤ admitted
  pub ok : counts.ok ≤ counts.events
  pub failed : counts.failed ≤ counts.events
  pub stalled : counts.stalled ≤ counts.events

-- the event at this place was admitted by the loop, its result wasn't handed out, and not all that were admitted have ended
pub record IsOwnAt (admitted handed events place : ℕ) : Type 0 where
  pub above : handed < place
  pub known : place ≤ admitted
  pub fewer : events < admitted
