-- A list lends its elements to be changed: once the borrow ends, they are those that it shows last. Neither their number nor the
-- room changes: a list of another length would be cut, or filled up.
use Rattle.std.specs.Prelude.{List, length}
use Rattle.std.specs.Borrow.{Array, Fml, Lends, MutBor, RattleType}
use Rattle.std.specs.List.{refill}
use Rattle.hive_model.specs.Many.{Many}
use Rattle.hive_model.specs.contracts.many.Many.{the_row}

abbrev pub with_items : {T : Type 0} → Many T → List T → Many T
with_items many items = record { items = refill (length many.items) many.items items; spare = many.spare }

module _ (T : RattleType) (many : MutBor (Many T.Denot)) where
  abbrev pub LendsItems : MutBor (List T.Denot) → Fml
  LendsItems r = Lends (the_row T) (Array T 0) many r (with_items many.now)
