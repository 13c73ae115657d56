use Rattle.std.proofs.Common.{◌≡◌, drop, map}
use Rattle.std.specs.Cmp.Lexicographic.{pointwise}
use Rattle.std.specs.Option.{option_eq}
use Rattle.hive_model.specs.Store.{shown}
use Rattle.hive_model.specs.contracts.product.ProductPartialEq.TheImpl.{ghosts}
use Rattle.hive_model.proofs.store.are_same.Given as goal

abbrev pub invariant-loop-index : goal.invariant-loop-index
invariant-loop-index l =
    pointwise (option_eq ghosts.eq) (map shown (drop l.index l.places)) (map shown (drop l.index l.others))
    ≡ pointwise (option_eq ghosts.eq) (map shown l.places) (map shown l.others)
