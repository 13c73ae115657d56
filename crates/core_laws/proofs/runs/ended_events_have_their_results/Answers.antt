use Rattle.std.proofs.Common.{◌∙◌}
use Rattle.event_laws.proofs.Uncut.{uncut-result}
use Rattle.core_laws.proofs.runs.ended_events_have_their_results.Goals as goal

pub returns : goal.returns
returns c = λ job records admitted f it uncut. it.told
    ∙ uncut-result job it.event it.ran uncut it.within it.rests
