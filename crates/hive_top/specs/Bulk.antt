-- What came of generated records, which are run through a job in memory.
use Rattle.std.specs.Prelude.{◌≡◌, ℕ, List, Option}
use Rattle.hive_top.specs.Called.{Wrote}
use Rattle.hive_top.specs.declared.status.Status.{Status}
use Rattle.hive_top.specs.declared.status.Status.TheVariants as status

-- The line of a run in memory that ended so was written. A line for which memory had no room is want of memory.
abbrev pub WroteLine : List ℕ → Status → Status → Option (List ℕ) → Option (List ℕ) → ℕ → ℕ → Type 0
WroteLine line status.Output after got got_now sink sink_now =
    (after ≡ status.NoMemory) × (got_now ≡ got) × (sink_now ≡ sink)
WroteLine line status.NoMemory after got got_now sink sink_now =
    (after ≡ status.NoMemory) × (got_now ≡ got) × (sink_now ≡ sink)
WroteLine line other after got got_now sink sink_now =
    Wrote after got got_now sink sink_now (record { text = line; status = other })
