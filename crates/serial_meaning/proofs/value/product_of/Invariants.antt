use Rattle.std.proofs.Common.{◌≡◌, map, drop, nat_eq}
use Rattle.std.specs.Map.{lookup}
use Rattle.serial_meaning.specs.Evaluation.{bound}
use Rattle.serial_meaning.proofs.value.product_of.Given as goal

abbrev pub invariant-loop-it : goal.invariant-loop-it
invariant-loop-it l =
    lookup (nat_eq l.handle) (map bound (drop l.it-index l.held)) ≡ lookup (nat_eq l.handle) (map bound l.held)
