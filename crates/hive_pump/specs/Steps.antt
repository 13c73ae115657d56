-- Texts that are written as a step: a report, and the last line.
use Rattle.std.specs.Prelude.{◌≡◌, ℕ, Bool, List, [], ◌∷◌, ◌++◌, Option}
use Rattle.std.specs.Io.KnownBytes.{Appends}
use Rattle.hive_edge.specs.Fault.{Rose}
use Rattle.hive_model.specs.Event.{event_result}
use Rattle.hive_model.specs.EventRecord.{EventRecord}
use Rattle.hive_model.specs.Job.{Job}
use Rattle.report_text.specs.declared.counts.Counts.{Counts}
use Rattle.text_model.specs.Stops.{stop_record, stop_source}
use Rattle.text_model.specs.Whole.{done_line, reports}
use Rattle.hive_pump.specs.Written.{AppendsPrefix}
use Rattle.hive_pump.specs.declared.ending.Ending.{Ending}
use Rattle.hive_pump.specs.declared.ending.Ending.TheVariants as ending

-- A text was written whole, and what was admitted behind it still is.
pub record IsSent {K : Type 0} (got : K → Option (List ℕ)) (faults : K → ℕ) (admits : K → List ℕ → Type 0) (before now : K) (text : List ℕ) : Type 0 where
  pub bytes : Appends (got before) (got now) text
  pub room : (rest : List ℕ) → admits before (text ++ rest) → admits now rest
  pub calm : faults now ≡ faults before

-- A text was broken off by a failure of the sink.
pub record IsBroken {K : Type 0} (got : K → Option (List ℕ)) (faults : K → ℕ) (before now : K) (text : List ℕ) : Type 0 where
  pub bytes : AppendsPrefix (got before) (got now) text
  pub rose : Rose (faults before) (faults now)

-- the report of one event
abbrev pub report_on : Job → Bool → EventRecord → List ℕ
report_on job brief event = reports job brief (event_result job event ∷ [])

-- an ending that has a last line
abbrev pub HasLine : Ending → Type 0
HasLine ending.All = Unit {0}
HasLine (ending.Refused refusal) = Unit {0}
HasLine ending.Source = Unit {0}
HasLine ending.Sink = ⊥
HasLine ending.NoMemory = ⊥

-- the last line by how the run ended
abbrev pub line_at : Ending → Counts → List ℕ
line_at ending.All counts = done_line counts.events counts.ok counts.failed counts.stalled
line_at (ending.Refused refusal) counts = stop_record refusal
line_at ending.Source counts = stop_source
line_at ending.Sink counts = []
line_at ending.NoMemory counts = []

-- The last line was written, or which failure broke that off.
abbrev pub PutsLast : {K : Type 0} → (K → Option (List ℕ)) → (K → ℕ) → (K → List ℕ → Type 0) → Ending → Counts → K → K → Ending → Type 0
PutsLast got faults admits ended counts sink sink_now ending.Sink = IsBroken got faults sink sink_now (line_at ended counts)
PutsLast got faults admits ended counts sink sink_now ending.NoMemory = sink_now ≡ sink
PutsLast got faults admits ended counts sink sink_now other = (other ≡ ended) × IsSent got faults admits sink sink_now (line_at ended counts)
