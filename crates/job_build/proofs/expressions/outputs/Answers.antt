use Rattle.std.proofs.lemmas.Result.{err_from_is_err_and}
use Rattle.std.proofs.Common.{drop, take}
use Rattle.std.proofs.Math.Seq.{take-add}
use Rattle.text_model.specs.JobAlgorithms.{output_at}
use Rattle.job_build.proofs.Collecting.{rest-built, rest-refused}
use Rattle.job_build.proofs.expressions.outputs.Goals as goal

pub returns-in_err-output : goal.returns-in_err-output
returns-in_err-output c =
    let p = err_from_is_err_and c.from_residual-in_err-output.result c.from_residual-in_err-output.ensures.1 in
    rw (p.1, p.2) (λ other. rest-refused (output_at c.args.path.now (take c.args.inputs c.args.handles.now) (drop c.args.inputs c.args.handles.now))
    c.loop-above.found.items c.args.raws.now c.loop-above.above c.index-raws-above.result _ _ c.loop-above-test.true c.index-raws-above.is
    c.loop-above.invariant
    (c.in_err-output.ensures (take c.args.inputs c.args.handles.now) (drop c.args.inputs c.args.handles.now)
    (take-add c.args.inputs c.loop-above.above c.args.handles.now) other))

pub loop-above-preserved : goal.loop-above-preserved
loop-above-preserved c =
    rest-built (output_at c.args.path.now (take c.args.inputs c.args.handles.now) (drop c.args.inputs c.args.handles.now))
    c.loop-above.found.items c.push.new.self.items c.args.raws.now c.loop-above.above c.index-raws-above.result c.in_ok-output.output _
    c.loop-above-test.true c.index-raws-above.is c.loop-above.invariant
    (c.in_ok-output.ensures (take c.args.inputs c.args.handles.now) (drop c.args.inputs c.args.handles.now)
    (take-add c.args.inputs c.loop-above.above c.args.handles.now))
    c.in_ok-push.ensures.items
