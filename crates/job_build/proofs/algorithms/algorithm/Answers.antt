use Rattle.std.proofs.Common.{ap, ◌∙◌, map, sym}
use Rattle.text_model.specs.declared.named.Named.{Named}
use Rattle.job_build.proofs.Collecting.{outputs-room}
use Rattle.job_build.proofs.algorithms.algorithm.Goals as goal

pub outputs-requires : goal.outputs-requires
outputs-requires c =
    outputs-room c.in_ok-handles.handles.items c.as_slice-seen.result.now c.in_ok-inputs.inputs.items c.args.first c.len.result c.as_slice-3.result.now
    c.as_slice-4.result.now (c.in_ok-inputs.ensures ∙ ap (map (λ (n : Named). n.handle)) c.as_slice-2.ensures.value) (c.len.ensures ∙ c.in_ok-inputs.inputs.ok.0)
    (c.as_slice-seen.ensures.value ∙ c.in_ok-push_outputs.ensures) (c.as_slice-4.ensures ∙ sym c.as_slice-3.ensures)
