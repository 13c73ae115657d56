use Rattle.std.specs.Prelude.{codes, decimal, [], ◌∷◌}
use Rattle.text_model.specs.Stops.{cause_word}
use Rattle.report_text.specs.Spaced.{spaced}
use Rattle.report_text.proofs.Spaces.{joined, stop_record-is}
use Rattle.report_text.proofs.stops.push_stop_record.Goals as goal

pub returns : goal.returns
returns c =
    let words = rw (c.format.ensures.text, c.word_of_cause.ensures) at c.in_ok-push_two.ensures in
    joined _ (codes "stop record") (spaced (decimal c.args.refusal.now.line ∷ cause_word c.args.refusal.now.cause ∷ [])) (10 ∷ []) _ _ _ _
    c.in_ok-extend_from_slice.ensures.items words c.in_ok-push.ensures.items (stop_record-is c.args.refusal.now)
