-- The raw options of a text, or the first refusal of its shape. The top level is visited first, and then each raw, resource,
-- algorithm and sequence table, in this order and in written order. A text is TOML where `toml` reads a tree from it.
use Rattle.std.specs.Prelude.{ℕ, if◌then◌else◌, List, [], ◌∷◌, map, Option, None, Result, Ok}
use Rattle.std.specs.List.{enumerate_from}
use Rattle.std.specs.Str.{is_utf8}
use Rattle.toml.specs.Data.{Members}
use Rattle.toml.specs.Parse.{parse_document}
use Rattle.text_model.specs.Keys.{Key, visit}
use Rattle.text_model.specs.Language.{Language}
use Rattle.text_model.specs.RawOptions.{RawOptions}
use Rattle.text_model.specs.Steps.{◌>>=◌, first_of, find_map, or_refuse, refuse_found}
use Rattle.text_model.specs.TableValues.{algorithm_of, number_at, raw_of, resource_of, sequence_of, tables_at, text_at}
use Rattle.text_model.specs.Tables.{top_keys, version_key, top_key, raw_tables, resource_tables, algorithm_tables, sequence_tables, raw_keys, resource_keys, algorithm_keys, sequence_keys}
use Rattle.text_model.specs.ValuePaths.{numbered}
use Rattle.text_model.specs.declared.options_refusal.OptionsRefusal.{OptionsRefusal}
use Rattle.text_model.specs.declared.options_refusal.OptionsRefusal.TheVariants.{Toml}

-- the shape

-- the arrays of tables at the top level, each with the keys of its tables
abbrev pub arrays : Language → ℕ → List (Key × List Key)
arrays language version =
    (raw_tables, raw_keys) ∷ (resource_tables, resource_keys) ∷ (algorithm_tables version, algorithm_keys)
    ∷ (sequence_tables, sequence_keys language version) ∷ []

-- the first refusal of the tables of an array
unfoldable pub refusal_of_tables : Members → Key × List Key → Option OptionsRefusal
refusal_of_tables tree (array, keys) =
    find_map (λ (it : ℕ × Members). visit keys (numbered array.name it.0) it.1) (enumerate_from 1 (tables_at array tree))

unfoldable pub shape_refusal : Language → ℕ → Members → Option OptionsRefusal
shape_refusal language version tree =
    first_of (visit (top_keys language version) [] tree ∷ find_map (refusal_of_tables tree) (arrays language version) ∷ [])

-- the value

abbrev pub version_of : Language → Members → ℕ
version_of language tree = number_at (version_key language) tree

unfoldable pub options_of : ℕ → Members → RawOptions
options_of version tree = record {
  version = version;
  top = text_at top_key tree;
  raws = map raw_of (tables_at raw_tables tree);
  resources = map resource_of (tables_at resource_tables tree);
  algorithms = map algorithm_of (tables_at (algorithm_tables version) tree);
  sequences = map (sequence_of version) (tables_at sequence_tables tree);
}

-- a text

-- bytes that aren't UTF-8 are no TOML
abbrev pub tree_of : List ℕ → Option Members
tree_of bytes = if is_utf8 bytes then parse_document bytes else None

unfoldable pub read_tree : Language → Members → Result RawOptions OptionsRefusal
read_tree language tree = do
  shaped ← refuse_found (shape_refusal language (version_of language tree) tree)
  Ok (options_of (version_of language tree) tree)

unfoldable pub read_of : Language → List ℕ → Result RawOptions OptionsRefusal
read_of language bytes = or_refuse Toml (tree_of bytes) >>= read_tree language
