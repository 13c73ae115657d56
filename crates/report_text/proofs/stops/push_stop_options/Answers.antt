use Rattle.std.specs.Prelude.{codes, [], ◌∷◌}
use Rattle.text_model.specs.Stops.{job_words}
use Rattle.report_text.specs.Spaced.{spaced}
use Rattle.report_text.proofs.Spaces.{joined, stop_options-is}
use Rattle.report_text.proofs.stops.push_stop_options.Goals as goal

pub returns : goal.returns
returns c =
    joined _ (codes "stop options") (spaced (job_words c.args.refusal.now)) (10 ∷ []) _ _ _ _
    c.in_ok-extend_from_slice.ensures.items c.in_ok-push_job.ensures c.in_ok-push.ensures.items (stop_options-is c.args.refusal.now)
