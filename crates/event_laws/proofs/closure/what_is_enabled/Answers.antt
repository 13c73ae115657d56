use Rattle.event_laws.proofs.Rounds.{enabled-same, enabled-runs, none-enabled}
use Rattle.event_laws.proofs.closure.what_is_enabled.Goals as goal

pub returns : goal.returns
returns c = record { over_outcomes = enabled-same; runs = enabled-runs; none = none-enabled }
