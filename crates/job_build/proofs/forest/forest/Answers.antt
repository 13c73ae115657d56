use Rattle.std.proofs.Common.{ap, ◌∙◌, map}
use Rattle.text_model.specs.Jobs.{branch_of}
use Rattle.text_model.specs.RawOptions.{RawAlgorithm, RawOptions}
use Rattle.job_build.proofs.Forests.{tree-told}
use Rattle.job_build.proofs.forest.forest.Goals as goal

pub returns : goal.returns
returns c =
    tree-told c.args.raw.now c.as_slice-3.result.now c.as_slice-4.result.now c.as_str.result.now c.in-Err.refusal c.from.result
    (c.as_slice-3.ensures.value ∙ c.in_ok-names.ensures
    ∙ ap (map (λ (a : RawAlgorithm). a.name)) (c.as_slice.ensures ∙ ap (λ (r : RawOptions). r.algorithms) c.raw.view_is))
    (c.as_slice-4.ensures.value ∙ c.in_ok-branches.ensures
    ∙ ap (map branch_of) (c.as_slice-2.ensures ∙ ap (λ (r : RawOptions). r.sequences) c.raw.view_is))
    (c.as_str.ensures ∙ ap (λ (r : RawOptions). r.top) c.raw.view_is) c.in-Err.ensures.meaning c.from.ensures
