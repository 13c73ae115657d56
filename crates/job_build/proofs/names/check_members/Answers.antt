use Rattle.std.proofs.Common.{ap, ◌∙◌, map}
use Rattle.text_model.specs.RawOptions.{RawAlgorithm, RawOptions, RawSequence}
use Rattle.job_build.proofs.Repetitions.{members_listed}
use Rattle.job_build.proofs.names.check_members.Goals as goal

pub returns : goal.returns
returns c =
    members_listed c.args.raw.now c.as_slice-3.result.now c.as_slice-4.result.now c.check_both.result
    (c.as_slice-3.ensures.value ∙ c.in_ok-algorithms.ensures
    ∙ ap (map (λ (a : RawAlgorithm). a.name)) (c.as_slice.ensures ∙ ap (λ (r : RawOptions). r.algorithms) c.raw.view_is))
    (c.as_slice-4.ensures.value ∙ c.in_ok-sequences.ensures
    ∙ ap (map (λ (q : RawSequence). q.name)) (c.as_slice-2.ensures ∙ ap (λ (r : RawOptions). r.sequences) c.raw.view_is))
    c.check_both.ensures
