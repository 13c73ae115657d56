-- Lists of numbers as vectors hold them.
use Rattle.std.specs.Prelude.{ℕ, List, map}
use Rattle.std.specs.declared.alloc.Global.{Global}
use Rattle.std.specs.declared.vec.Vec.{Vec}

abbrev pub items : List (Vec ℕ Global) → List (List ℕ)
items each = map (λ (v : Vec ℕ Global). v.items) each
