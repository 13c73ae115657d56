use Rattle.std.proofs.Common.{◌≡◌, ◌++◌, drop, map}
use Rattle.text_model.specs.declared.named.Named.{Named}
use Rattle.job_build.proofs.scope.numbers_of.Given as goal

abbrev pub invariant-loop-handle : goal.invariant-loop-handle
invariant-loop-handle l =
    l.numbers.items ++ map (λ (n : Named). n.handle) (drop l.handle-index l.handles) ≡ map (λ (n : Named). n.handle) l.handles
