-- What the tables of options say where nothing is refused in them: for each key its value, or what is meant without it. A value of
-- another kind, which no such table has, counts as 0, false or empty.
use Rattle.std.specs.Prelude.{codes, ℕ, ◌==◌, nat_abs, Bool, false, if◌then◌else◌, List, [], map, filter_map, Option, unwrap_or}
use Rattle.std.specs.Option.{option_and_then, option_map_or}
use Rattle.toml.specs.Data.{Data, Members, as_array, as_bool, as_integer, as_str, as_table}
use Rattle.hive_model.specs.Same.{same_text}
use Rattle.hive_model.specs.declared.algorithm.Raw.{Raw}
use Rattle.hive_model.specs.declared.algorithm.Resource.{Resource}
use Rattle.hive_model.specs.declared.product.Kind.{Kind}
use Rattle.hive_model.specs.declared.product.Kind.TheVariants as kinds
use Rattle.text_model.specs.Keys.{Key, value_at}
use Rattle.text_model.specs.RawOptions.{RawAlgorithm, RawSequence}
use Rattle.text_model.specs.Rules.{listed}
use Rattle.text_model.specs.Tables.{name_key, kind_key, units_key, expression_key, cardinality_key, inputs_key, resources_key, output_key, filter_key, members_key, mode_or_key, mode_key, short_circuit_key, sequential_key, invert_key, ignore_filter_key, cut_key}
use Rattle.text_model.specs.declared.limits.TheConstants.{FIRST_VERSION}
use Rattle.text_model.specs.declared.raw_options.RawOutput.{RawOutput}

-- what a key says

abbrev pub number_at : Key → Members → ℕ
number_at key table = option_map_or nat_abs (option_and_then as_integer (value_at key table)) 0

abbrev pub flag_at : Key → Members → Bool
flag_at key table = unwrap_or (option_and_then as_bool (value_at key table)) false

abbrev pub text_if_at : Key → Members → Option (List ℕ)
text_if_at key table = option_and_then as_str (value_at key table)

abbrev pub text_at : Key → Members → List ℕ
text_at key table = unwrap_or (text_if_at key table) []

abbrev pub values_at : Key → Members → List Data
values_at key table = option_map_or listed (option_and_then as_array (value_at key table)) []

abbrev pub texts_at : Key → Members → List (List ℕ)
texts_at key table = filter_map as_str (values_at key table)

abbrev pub tables_at : Key → Members → List Members
tables_at key table = filter_map as_table (values_at key table)

abbrev pub kind_at : Members → Kind
kind_at table = if same_text (text_at kind_key table) (codes "list") then kinds.List else kinds.Num

-- whether the node is an OR, as the version tells it
abbrev pub mode_at : ℕ → Members → Bool
mode_at version table =
    if version == FIRST_VERSION then flag_at mode_or_key table else same_text (text_at mode_key table) (codes "or")

-- the tables

abbrev pub raw_of : Members → Raw
raw_of table = record { name = text_at name_key table; kind = kind_at table }

abbrev pub resource_of : Members → Resource
resource_of table = record { name = text_at name_key table; units = number_at units_key table }

abbrev pub output_of : Members → RawOutput
output_of table = record { name = text_at name_key table; kind = kind_at table; value = text_at expression_key table }

unfoldable pub algorithm_of : Members → RawAlgorithm
algorithm_of table = record {
  name = text_at name_key table;
  cardinality = number_at cardinality_key table;
  resources = texts_at resources_key table;
  inputs = texts_at inputs_key table;
  outputs = map output_of (tables_at output_key table);
  filter = text_if_at filter_key table;
}

unfoldable pub sequence_of : ℕ → Members → RawSequence
sequence_of version table = record {
  name = text_at name_key table;
  members = texts_at members_key table;
  mode_or = mode_at version table;
  short_circuit = flag_at short_circuit_key table;
  sequential = flag_at sequential_key table;
  invert = flag_at invert_key table;
  ignore_filter = flag_at ignore_filter_key table;
  cut = flag_at cut_key table;
}
