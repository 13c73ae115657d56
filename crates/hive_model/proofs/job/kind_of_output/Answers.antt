use Rattle.std.proofs.Common.{◌∙◌, ap, sym, map, slice_get, option_map, length, arith}
use Rattle.std.proofs.lemmas.Option.{slice_get-map, slice_get-get_or}
use Rattle.hive_model.specs.declared.algorithm.Output.{Output}
use Rattle.hive_model.proofs.HandleKinds.{kind-here, kind-behind, length-behind}
use Rattle.hive_model.proofs.job.kind_of_output.Goals as goal

pub returns-then-rest-outputs : goal.returns-then-rest-outputs
returns-then-rest-outputs c =
    let e = c.outputs-outputs.ensures in
    let here = kind-here c.args.algorithms.now c.loop-algorithm.algorithm-index c.loop-algorithm.rest c.algorithm-item.result c.loop-algorithm-test.true c.algorithm-item.is (omega (arith, c.if-rest-outputs.true, ap length e)) in
    sym c.loop-algorithm.invariant.1
    ∙ here
    ∙ ap (λ os. slice_get (map (λ (o : Output). o.kind) os) c.loop-algorithm.rest) (sym e)
    ∙ slice_get-map (λ (o : Output). o.kind) c.outputs-outputs.result.now c.loop-algorithm.rest
    ∙ ap (option_map (λ (o : Output). o.kind)) (slice_get-get_or c.outputs-outputs.result.now c.loop-algorithm.rest c.index-outputs-rest.result c.if-rest-outputs.true)

pub loop-algorithm-preserved : goal.loop-algorithm-preserved
loop-algorithm-preserved c =
    let e = c.outputs-outputs.ensures in
    let split = length-behind c.args.algorithms.now c.loop-algorithm.algorithm-index c.algorithm-item.result c.loop-algorithm-test.true c.algorithm-item.is in
    let behind = kind-behind c.args.algorithms.now c.loop-algorithm.algorithm-index c.loop-algorithm.rest c.algorithm-item.result c.loop-algorithm-test.true c.algorithm-item.is (omega (arith, ap length e)) in
    rw e (omega (arith, split, ap length e), behind ∙ c.loop-algorithm.invariant.1)
