use Rattle.std.proofs.Common.{map}
use Rattle.std.specs.Arc.{arc_value}
use Rattle.event_slots.proofs.Holdings.{held-there, held-with}
use Rattle.event_slots.proofs.slots.Slots.holds.Goals as goal

pub holds_inputs-requires-clause-taken : goal.holds_inputs-requires-clause-taken
holds_inputs-requires-clause-taken c =
    let known = c.requires.known in
    (held-there c.args.job.now known.0 c.args.self.now c.args.slot c.args.algorithm c.args.ticket
    c.args.clone known.1
    ((c.holds_claim.ensures c.args.job.now known.0 known.1).0 c.if-not-holds_claim.false)).taken

pub holds_inputs-requires-clause-within : goal.holds_inputs-requires-clause-within
holds_inputs-requires-clause-within c =
    let known = c.requires.known in
    (held-there c.args.job.now known.0 c.args.self.now c.args.slot c.args.algorithm c.args.ticket
    c.args.clone known.1
    ((c.holds_claim.ensures c.args.job.now known.0 known.1).0 c.if-not-holds_claim.false)).within

pub returns : goal.returns
returns c = λ slots given.
    held-with c.args.job.now slots c.args.self.now c.args.slot c.args.algorithm c.args.ticket c.args.clone
    (map arc_value c.args.inputs.now)
    c.holds_inputs.result
    (held-there c.args.job.now slots c.args.self.now c.args.slot c.args.algorithm c.args.ticket c.args.clone
    given
    ((c.holds_claim.ensures c.args.job.now slots given).0 c.if-not-holds_claim.false))
    c.holds_inputs.ensures
