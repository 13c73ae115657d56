-- The kinds of handles by number, as names tell them.
use Rattle.std.specs.Prelude.{◌≡◌, ℕ, List, Option, Some}
use Rattle.std.specs.List.{AllByRecursion}
use Rattle.text_model.specs.declared.named.Named.{Named}
use Rattle.hive_model.specs.declared.product.Kind.{Kind}

-- each handle that may be named has its kind
abbrev pub Knows : (ℕ → Option Kind) → List Named → Type 0
Knows see names = AllByRecursion (λ (n : Named). see n.handle ≡ Some n.kind) names
