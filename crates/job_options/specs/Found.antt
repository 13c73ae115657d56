-- What a check of a value owes: it goes on where there is nothing to refuse, and else gives the refusal. Memory may run out at any
-- time.
use Rattle.std.specs.Prelude.{◌≡◌, ◌≢◌, ℕ, List, map, Option, Some, None, Result, Ok, Err}
use Rattle.std.specs.List.{enumerate_from}
use Rattle.hive_model.specs.Many.{Many}
use Rattle.toml.specs.Data.{Members}
use Rattle.text_model.specs.Keys.{Key, visit}
use Rattle.text_model.specs.Options.{refusal_of_tables}
use Rattle.text_model.specs.Steps.{find_map}
use Rattle.text_model.specs.TableValues.{tables_at}
use Rattle.text_model.specs.ValuePaths.{numbered}
use Rattle.text_model.specs.declared.options_refusal.OptionsRefusal.{OptionsRefusal}
use Rattle.text_model.specs.declared.options_refusal.OptionsRefusal.TheVariants.{NoMemory}

-- nothing is found, or that refusal
abbrev pub Finds : Result (Unit {0}) OptionsRefusal → Option OptionsRefusal → Type 0
Finds (Ok u) found = found ≡ None
Finds (Err e) found = e ≢ NoMemory → found ≡ Some e

-- this value where nothing is found
abbrev pub FindsOr : {A : Type 0} → Result A OptionsRefusal → Option OptionsRefusal → A → Type 0
FindsOr (Ok x) found value = (found ≡ None) × (x ≡ value)
FindsOr (Err e) found value = e ≢ NoMemory → found ≡ Some e

-- these values where nothing is found
abbrev pub FindsOrLists : {A : Type 0} → Result (Many A) OptionsRefusal → Option OptionsRefusal → List A → Type 0
FindsOrLists (Ok xs) found values = (found ≡ None) × (xs.items ≡ values)
FindsOrLists (Err e) found values = e ≢ NoMemory → found ≡ Some e

-- what the tables of an array of the tree say, each by these keys, where nothing is found in them
abbrev pub ReadsTables : {A : Type 0} → Result (Many A) OptionsRefusal → Members → Key × List Key → (Members → A) → Type 0
ReadsTables result tree (array, keys) said =
    FindsOrLists result (refusal_of_tables tree (array, keys)) (map said (tables_at array tree))

-- the first refusal of tables from a number on, each of which stands behind the path of their array
abbrev pub refusal_from : List Key → List ℕ → ℕ → List Members → Option OptionsRefusal
refusal_from keys array number tables =
    find_map (λ (it : ℕ × Members). visit keys (numbered array it.0) it.1) (enumerate_from number tables)
