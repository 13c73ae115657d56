-- A shelf has files, texts under names, where it tells them. Where a name stands more than once, the first text counts.
use Rattle.std.specs.Prelude.{◌≡◌, ℕ, ◌<◌, ◌≤◌, List, [], Option, Some, None, Result, Ok, Err, length, find, map, IsSomeAnd}
use Rattle.std.specs.declared.alloc.Global.{Global}
use Rattle.std.specs.declared.vec.Vec.{Vec}
use Rattle.std.specs.Option.{option_map}
use Rattle.hive_model.specs.Same.{same_text}
use Rattle.hive_edge.specs.Fault.{Rose}
use Rattle.hive_edge.specs.declared.shelf.ShelfFault.{ShelfFault}
use Rattle.hive_edge.specs.declared.shelf.ShelfFault.TheVariants.{Failed, Over, NoMemory}

-- names with their texts
abbrev pub Files : Type 0
Files = List (List ℕ × List ℕ)

-- the text under a name
abbrev pub text_of : List ℕ → Files → Option (List ℕ)
text_of name files = option_map (λ (file : List ℕ × List ℕ). file.1) (find (λ (file : List ℕ × List ℕ). same_text file.0 name) files)

-- `Ok` gave the text under the name; `Over` says that it is longer than the limit. Memory runs out only for a text
-- that is within it, so a name that isn't there is `Failed`
abbrev pub Fetches : Option Files → List ℕ → ℕ → Result (Unit {0}) ShelfFault → List ℕ → Type 0
Fetches None name limit result out = Unit {0}
Fetches (Some files) name limit (Ok it) out = text_of name files ≡ Some out
Fetches (Some files) name limit (Err Failed) out = Unit {0}
Fetches (Some files) name limit (Err Over) out = IsSomeAnd (text_of name files) (λ text. limit < length text)
Fetches (Some files) name limit (Err NoMemory) out = IsSomeAnd (text_of name files) (λ text. length text ≤ limit)

-- `Failed` comes only with a risen count, and every other answer leaves it
abbrev pub ShelfCause : {T : Type 0} → ℕ → ℕ → Result T ShelfFault → Type 0
ShelfCause before now (Ok it) = now ≡ before
ShelfCause before now (Err Failed) = Rose before now
ShelfCause before now (Err Over) = now ≡ before
ShelfCause before now (Err NoMemory) = now ≡ before

-- files in memory as contracts see them
abbrev pub files_of : List (List ℕ × Vec ℕ Global) → Files
files_of files = map (λ (file : List ℕ × Vec ℕ Global). (file.0, file.1.items)) files

-- the text came whole where it is within the limit and memory sufficed; else nothing came
abbrev pub Puts : List ℕ → ℕ → Result (Unit {0}) ShelfFault → List ℕ → Type 0
Puts text limit (Ok it) out = (out ≡ text) × (length text ≤ limit)
Puts text limit (Err Failed) out = ⊥
Puts text limit (Err Over) out = (out ≡ []) × (limit < length text)
Puts text limit (Err NoMemory) out = (out ≡ []) × (length text ≤ limit)
