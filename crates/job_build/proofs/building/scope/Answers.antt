use Rattle.std.proofs.Common.{ap, ◌∙◌, map, sym}
use Rattle.std.proofs.lemmas.Result.{err_from_is_err_and}
use Rattle.hive_model.specs.declared.algorithm.Raw.{Raw}
use Rattle.text_model.specs.Jobs.{need_of}
use Rattle.text_model.specs.RawOptions.{RawOptions}
use Rattle.job_build.proofs.Phases.{few-again, graph-refused, scope-built}
use Rattle.job_build.proofs.building.scope.Goals as goal

pub returns-in_err-graph : goal.returns-in_err-graph
returns-in_err-graph c =
    let p = err_from_is_err_and c.from_residual-in_err-graph.result c.from_residual-in_err-graph.ensures.1 in
    rw p.1 (λ other. graph-refused c.args.raw.now c.as_slice-5.result.now c.as_slice-6.result.now c.in_err-graph.field-0.0 p.0
    (c.as_slice-5.ensures.value ∙ c.in_ok-raws.ensures
    ∙ ap (map (λ (r : Raw). r.name)) (c.as_slice.ensures ∙ ap (λ (r : RawOptions). r.raws) c.raw.view_is))
    (c.as_slice-6.ensures.value ∙ c.in_ok-needs.ensures
    ∙ ap (map need_of) (c.as_slice-2.ensures ∙ ap (λ (r : RawOptions). r.algorithms) c.raw.view_is))
    (few-again c.as_slice-3.result.now c.as_slice-5.result.now c.as_slice-4.result.now c.as_slice-6.result.now
    (c.as_slice-3.ensures.value ∙ sym c.as_slice-5.ensures.value) (c.as_slice-4.ensures.value ∙ sym c.as_slice-6.ensures.value)
    (sym c.has_too_many_handles.ensures ∙ c.if-has_too_many_handles.false))
    c.in_ok-resources.ensures.found c.in_err-graph.ensures.meaning p.2 other)

pub returns : goal.returns
returns c =
    scope-built c.args.raw.now c.as_slice-5.result.now c.as_slice-6.result.now c.in_ok-graph.graph c.in_ok-kinds_of.field-0.items
    c.in_ok-resources.resources
    (c.as_slice-5.ensures.value ∙ c.in_ok-raws.ensures
    ∙ ap (map (λ (r : Raw). r.name)) (c.as_slice.ensures ∙ ap (λ (r : RawOptions). r.raws) c.raw.view_is))
    (c.as_slice-6.ensures.value ∙ c.in_ok-needs.ensures
    ∙ ap (map need_of) (c.as_slice-2.ensures ∙ ap (λ (r : RawOptions). r.algorithms) c.raw.view_is))
    (few-again c.as_slice-3.result.now c.as_slice-5.result.now c.as_slice-4.result.now c.as_slice-6.result.now
    (c.as_slice-3.ensures.value ∙ sym c.as_slice-5.ensures.value) (c.as_slice-4.ensures.value ∙ sym c.as_slice-6.ensures.value)
    (sym c.has_too_many_handles.ensures ∙ c.if-has_too_many_handles.false))
    c.in_ok-resources.ensures.found c.in_ok-graph.ensures.meaning c.in_ok-kinds_of.ensures c.in_ok-resources.ensures.names
