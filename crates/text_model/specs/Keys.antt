-- The keys of a table. A key has a name, the rule of its value, and what is meant where it is absent. A table is visited by the list
-- of its keys: first for a key that isn't one of them, which is Unknown, and then key by key, each for being there, else Missing,
-- and for its rule. What is found first is the refusal.
use Rattle.std.specs.Prelude.{ℕ, Bool, true, ◌&&◌, if◌then◌else◌, List, map, Option, Some, None}
use Rattle.std.specs.Option.{option_map_or, option_or}
use Rattle.toml.specs.Data as toml
use Rattle.toml.specs.Data.{Data, Members, get_member}
use Rattle.text_model.specs.Names.{is_among}
use Rattle.text_model.specs.Rules.{Rule}
use Rattle.text_model.specs.Steps.{find_map}
use Rattle.text_model.specs.ValuePaths.{below, table_path}
use Rattle.text_model.specs.declared.options_refusal.OptionsRefusal.{OptionsRefusal}
use Rattle.text_model.specs.declared.options_refusal.OptionsRefusal.TheVariants.{Unknown, Missing, Field}

pub data Absent : Type 0 where
  -- the key has to be there
  Required : Absent
  -- without it nothing is said
  Optional : Absent
  -- without it this value is meant
  Default : Data → Absent

pub record Key : Type 0 where
  pub name : List ℕ
  pub rule : Rule
  pub absent : Absent

abbrev pub key : List ℕ → Rule → Absent → Key
key name rule absent = record { name = name; rule = rule; absent = absent }

-- the value of a key in a table: the one that is there, or else the one that is meant

abbrev pub default_of : Absent → Option Data
default_of Required = None
default_of Optional = None
default_of (Default value) = Some value

abbrev pub value_at : Key → Members → Option Data
value_at key table = option_or (get_member key.name table) (default_of key.absent)

-- visiting a table whose keys stand behind a path

abbrev pub refusal_of_absent : List ℕ → Absent → Option OptionsRefusal
refusal_of_absent path Required = Some (Missing path)
refusal_of_absent path Optional = None
refusal_of_absent path (Default value) = None

unfoldable pub refusal_of_key : List ℕ → Members → Key → Option OptionsRefusal
refusal_of_key path table key =
    option_map_or (key.rule (below path key.name)) (get_member key.name table) (refusal_of_absent (below path key.name) key.absent)

abbrev pub names_of : List Key → List (List ℕ)
names_of keys = map (λ (it : Key). it.name) keys

-- each key of the table is one of these
abbrev pub has_only : List (List ℕ) → Members → Bool
has_only names toml.no_members = true
has_only names (toml.member name value others) = is_among names name && has_only names others

unfoldable pub visit : List Key → List ℕ → Members → Option OptionsRefusal
visit keys path table =
    if has_only (names_of keys) table then find_map (refusal_of_key path table) keys else Some (Unknown (table_path path))

-- the rule of a table that is visited at once
abbrev pub table_with : List Key → Rule
table_with keys path (toml.table entries) = visit keys path entries
table_with keys path value = Some (Field path)
