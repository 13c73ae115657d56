-- A shelf in memory that fails where it is told to, as contracts see it: its files, and which calls fail. A name that isn't
-- there is a failure too.
use Rattle.std.specs.Prelude.{◌≡◌, ℕ, List, [], Option, Some, None, Bool, true, false, Result, Ok, Err}
use Rattle.hive_edge.specs.Failing.{Failing, counted, failed}
use Rattle.hive_edge.specs.Shelf.{Files, Puts}
use Rattle.hive_edge.specs.declared.shelf.ShelfFault.{ShelfFault}
use Rattle.hive_edge.specs.declared.shelf.ShelfFault.TheVariants.{Failed, Over, NoMemory}

pub record MemShelf : Type 0 where
  pub files : Files
  pub failing : Failing

-- the text under a name came, unless the call fails or the name isn't there
abbrev pub PutsUnless : Bool → Option (List ℕ) → ℕ → Result (Unit {0}) ShelfFault → List ℕ → Type 0
PutsUnless true text limit result out = (result ≡ Err Failed) × (out ≡ [])
PutsUnless false None limit result out = (result ≡ Err Failed) × (out ≡ [])
PutsUnless false (Some text) limit result out = Puts text limit result out

-- each call was counted, and a failure too
abbrev pub Counts : Failing → Failing → Result (Unit {0}) ShelfFault → Type 0
Counts old new (Ok it) = new ≡ counted old
Counts old new (Err Failed) = new ≡ failed old
Counts old new (Err Over) = new ≡ counted old
Counts old new (Err NoMemory) = new ≡ counted old
