use Rattle.std.proofs.Common.{◌≡◌, [], ◌∷◌, ◌++◌, drop, Ok, Some, None, ap, refl, ◌∙◌, append-nil}
use Rattle.text_model.specs.Lines.{lines}
use Rattle.text_model.specs.Records.{most_events}
use Rattle.event_records.specs.Cutting.{Reaches, Reads, further}
use Rattle.event_records.specs.Reading.{HasRead}
use Rattle.event_records.proofs.Fitting.{given-fits}
use Rattle.event_records.proofs.Settling.{rested, stands, taken}
use Rattle.event_records.proofs.records.Records.settle.Goals as goal

pub returns-in-Ok-None-clause-tells : goal.returns-in-Ok-None-clause-tells
returns-in-Ok-None-clause-tells c = λ job fed given has.
    let old = c.args.self.now in
    let mid = c.take-in-Ok-None.new.self in
    let rest = drop c.args.reached.taken old.pending in
    let found : c.args.reached.found ≡ Ok None = c.in-Ok-None.is ∙ ap Ok c.in-Ok-None.field-0-is in
    let reaches : Reaches old.job.raws (most_events old.job) old.ended old.pending old.before (Ok None) c.args.reached.before rest = rw found at c.requires.reaches in
    let is : mid ≡ record old { pending = rest; before = c.args.reached.before } = c.take-in-Ok-None.ensures in
    let has_mid : HasRead job fed given mid =
    rw is (rw (append-nil given) at (taken job fed given [] old c.args.reached.before rest has c.requires.unrefused reaches.0)) in
    let unrefused : mid.refusal ≡ None = rw is c.requires.unrefused in
    let none : lines mid.ended mid.pending ≡ [] = rw is reaches.1 in
    let ended : mid.ended ≡ old.ended = rw is refl in
    rw ended at (rested job fed given mid c.rest.new.self c.rest.result has_mid unrefused none c.rest.ensures.more c.rest.ensures.finished c.rest.ensures.refused)

pub returns-in-Ok-None-clause-stands : goal.returns-in-Ok-None-clause-stands
returns-in-Ok-None-clause-stands c = λ found none same.
    let old = c.args.self.now in
    let mid = c.take-in-Ok-None.new.self in
    let is : mid ≡ old = c.take-in-Ok-None.ensures ∙ rw (none, same) refl in
    stands old mid c.rest.new.self c.rest.result is c.rest.ensures.more c.rest.ensures.finished

pub returns-in-Ok-Some-clause-tells : goal.returns-in-Ok-Some-clause-tells
returns-in-Ok-Some-clause-tells c = λ job fed given has.
    let old = c.args.self.now in
    let it = c.in-Ok-Some.record in
    let rest = drop c.args.reached.taken old.pending in
    let found : c.args.reached.found ≡ Ok (Some it) = c.in-Ok-Some.is ∙ ap Ok c.in-Ok-Some.field-0-is in
    let reads : Reads old.job.raws (most_events old.job) old.ended old.pending old.before (further old.job.raws (most_events old.job) (it ∷ []) c.args.reached.before rest) =
    rw found at c.requires.reaches in
    let now : HasRead job fed (given ++ it ∷ []) c.take.new.self =
    rw c.take.ensures (taken job fed given (it ∷ []) old c.args.reached.before rest has c.requires.unrefused reads) in
    (now, given-fits job fed given it c.take.new.self now)
