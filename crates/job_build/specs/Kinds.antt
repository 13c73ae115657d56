-- The kinds of outputs, in their order.
use Rattle.std.specs.Prelude.{ℕ, List, map}
use Rattle.std.specs.List.{enumerate_from}
use Rattle.hive_model.specs.declared.product.Kind.{Kind}
use Rattle.text_model.specs.RawOptions.{RawAlgorithm}
use Rattle.text_model.specs.declared.named.Named.{Named}
use Rattle.text_model.specs.declared.raw_options.RawOutput.{RawOutput}

abbrev pub kinds_in : List RawOutput → List Kind
kinds_in outputs = map (λ (o : RawOutput). o.kind) outputs

abbrev pub output_kinds : RawAlgorithm → List Kind
output_kinds a = kinds_in a.outputs

-- outputs as handles, the first of which is that one
abbrev pub told_from : ℕ → List RawOutput → List Named
told_from first outputs =
    map (λ (it : ℕ × RawOutput). record { name = it.1.name; handle = it.0; kind = it.1.kind }) (enumerate_from first outputs)
