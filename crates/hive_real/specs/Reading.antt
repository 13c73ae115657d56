-- Which answers of reading a file say something of what was taken.
use Rattle.std.specs.Prelude.{Result, Ok, Err}
use Rattle.hive_edge.specs.declared.shelf.ShelfFault.{ShelfFault}
use Rattle.hive_edge.specs.declared.shelf.ShelfFault.TheVariants.{Failed, Over, NoMemory}

-- what holds where the whole text was taken, or too much of it
abbrev pub Tells : Result (Unit {0}) ShelfFault → Type 0 → Type 0
Tells (Ok _) fact = fact
Tells (Err Over) fact = fact
Tells (Err Failed) fact = Unit {0}
Tells (Err NoMemory) fact = Unit {0}
