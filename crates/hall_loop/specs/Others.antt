-- What the others do in a hall in which one participant admits, retires and says when to end: they claim, and give
-- back what they claimed. A participant can't see that while they are at work, but of all passes it holds when the
-- hall is closed.
use Rattle.std.specs.Prelude.{◌≡◌, ℕ, ◌<◌, ◌≤◌, true, List, All, length}
use Rattle.hive_hall.specs.Pass.{IsPassOf, opening_of, own, seen}
use Rattle.hive_hall.specs.declared.hall.Hall.{Hall}
use Rattle.hive_hall.specs.declared.pass.Pass.{Pass}
use Rattle.hive_model.specs.declared.item.Item.{Item}
use Rattle.hive_workers.specs.Items.{enters, is_work, stands_at}
use Rattle.turn_lock.specs.History.{times}

-- the items of a history, beyond the opening one, that aren't at these positions enter claims, results, and claims that
-- were put back
abbrev pub AreWorkBut : ℕ → List Item → List ℕ → Type 0
AreWorkBut opened items mine = (n : ℕ) → opened ≤ n → n < length items → times n mine ≡ 0 →
    stands_at is_work items n ≡ true

-- so it is of all that the pass has seen, but for its own
abbrev pub OthersWork : Hall → Pass → Type 0
OthersWork hall p = AreWorkBut (length (opening_of hall)) (seen p) (own p)

-- all of these items are such
abbrev pub AreWork : List Item → Type 0
AreWork items = All (λ (item : Item). enters is_work item ≡ true) items

-- the pass has entered nothing else
pub record HasOnlyWorked (hall : Hall) (p : Pass) : Type 0 where
  pub pass : IsPassOf hall p
  pub only : All (λ n. stands_at is_work (seen p) n ≡ true) (own p)
