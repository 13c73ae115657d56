-- A list as contracts see it: its elements in order, and beside them the number of pushes that take no memory.
-- "Equal" and "as before" speak of the elements; only the calls that promise room speak of `spare`.
use Rattle.std.specs.Prelude.{ℕ, List, refl}
use Rattle.std.specs.Coded.{Coded, code_by, coded×, coded_ℕ, coded_list}

pub record Many (T : Type 0) : Type 0 where
  pub items : List T
  pub spare : ℕ

-- it is stored as the pair of its fields
abbrev pub many_code : {T : Type 0} → Coded T → Coded (Many T)
many_code {T} code =
    code_by (List T × ℕ) (coded× (coded_list code) coded_ℕ) (λ it. (it.items, it.spare)) (λ p. record { items = p.0; spare = p.1 }) (λ _. refl)
