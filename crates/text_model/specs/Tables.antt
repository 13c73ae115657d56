-- The tables of an options text, each as the list of its keys in their order: what a key is called, the rule of its value with its
-- range, and whether it has to be there or what is meant without it. docs/FORMATS.md shows the same as one table.
use Rattle.std.specs.Prelude.{codes, ℕ, ◌==◌, Bool, true, false, if◌then◌else◌, pos, List, [], ◌∷◌}
use Rattle.toml.specs.Data.{string, integer, boolean, array, no_items}
use Rattle.hive_model.specs.declared.limits.TheConstants.{MOST_ALGORITHMS, MOST_SEQUENCES, MOST_RESOURCES, MOST_HANDLES, MOST_INSTANCES, MOST_UNITS}
use Rattle.text_model.specs.Keys.{Absent, Required, Optional, Default, Key, key, table_with}
use Rattle.text_model.specs.Language.{Language}
use Rattle.text_model.specs.Rules.{whole_number, truth_value, any_text, a_name, one_of, array_of, a_table}
use Rattle.text_model.specs.declared.limits.TheConstants.{FIRST_VERSION, MOST_ALGORITHMS_OF_VERSION_1, MOST_MEMBERS}

-- what is meant without a key

abbrev pub number : ℕ → Absent
number n = Default (integer (pos n))

abbrev pub truth : Bool → Absent
truth b = Default (boolean b)

abbrev pub empty : Absent
empty = Default (array no_items)

-- keys of several tables

abbrev pub name_key : Key
name_key = key (codes "name") a_name Required

abbrev pub kind_key : Key
kind_key = key (codes "kind") (one_of (codes "num" ∷ codes "list" ∷ [])) Required

-- raw handles

abbrev pub raw_keys : List Key
raw_keys = name_key ∷ kind_key ∷ []

-- resources

abbrev pub units_key : Key
units_key = key (codes "units") (whole_number 1 MOST_UNITS) (number 1)

abbrev pub resource_keys : List Key
resource_keys = name_key ∷ units_key ∷ []

-- outputs

abbrev pub expression_key : Key
expression_key = key (codes "value") any_text Required

abbrev pub output_keys : List Key
output_keys = name_key ∷ kind_key ∷ expression_key ∷ []

-- algorithms

abbrev pub cardinality_key : Key
cardinality_key = key (codes "cardinality") (whole_number 0 MOST_INSTANCES) (number 1)

abbrev pub inputs_key : Key
inputs_key = key (codes "inputs") (array_of MOST_HANDLES a_name) empty

abbrev pub resources_key : Key
resources_key = key (codes "resources") (array_of MOST_RESOURCES a_name) empty

abbrev pub output_key : Key
output_key = key (codes "output") (array_of MOST_HANDLES (table_with output_keys)) empty

abbrev pub filter_key : Key
filter_key = key (codes "filter") any_text Optional

abbrev pub algorithm_keys : List Key
algorithm_keys = name_key ∷ cardinality_key ∷ inputs_key ∷ resources_key ∷ output_key ∷ filter_key ∷ []

-- sequences: `mode_or` tells an OR in the first version, `mode` in later ones

abbrev pub members_key : Key
members_key = key (codes "members") (array_of MOST_MEMBERS a_name) empty

abbrev pub mode_or_key : Key
mode_or_key = key (codes "mode_or") truth_value (truth false)

abbrev pub mode_key : Key
mode_key = key (codes "mode") (one_of (codes "and" ∷ codes "or" ∷ [])) (Default (string (codes "and")))

abbrev pub short_circuit_key : Key
short_circuit_key = key (codes "short_circuit") truth_value (truth true)

abbrev pub sequential_key : Key
sequential_key = key (codes "sequential") truth_value (truth false)

abbrev pub invert_key : Key
invert_key = key (codes "invert") truth_value (truth false)

abbrev pub ignore_filter_key : Key
ignore_filter_key = key (codes "ignore_filter") truth_value (truth false)

abbrev pub cut_key : Key
cut_key = key (codes "cut") truth_value (truth false)

unfoldable pub sequence_keys : Language → ℕ → List Key
sequence_keys language version =
    name_key ∷ members_key ∷ (if version == FIRST_VERSION then mode_or_key else mode_key) ∷ short_circuit_key ∷ sequential_key
    ∷ invert_key ∷ ignore_filter_key ∷ (if language.has_cut then cut_key ∷ [] else [])

-- the top level: the tables of its arrays are visited later

abbrev pub version_key : Language → Key
version_key language = key (codes "version") (whole_number FIRST_VERSION language.newest) (number FIRST_VERSION)

abbrev pub top_key : Key
top_key = key (codes "top") a_name Required

abbrev pub raw_tables : Key
raw_tables = key (codes "raw") (array_of MOST_HANDLES a_table) empty

abbrev pub resource_tables : Key
resource_tables = key (codes "resource") (array_of MOST_RESOURCES a_table) empty

abbrev pub most_algorithms : ℕ → ℕ
most_algorithms version = if version == FIRST_VERSION then MOST_ALGORITHMS_OF_VERSION_1 else MOST_ALGORITHMS

abbrev pub algorithm_tables : ℕ → Key
algorithm_tables version = key (codes "algorithm") (array_of (most_algorithms version) a_table) empty

abbrev pub sequence_tables : Key
sequence_tables = key (codes "sequence") (array_of MOST_SEQUENCES a_table) empty

unfoldable pub top_keys : Language → ℕ → List Key
top_keys language version =
    version_key language ∷ top_key ∷ raw_tables ∷ resource_tables ∷ algorithm_tables version ∷ sequence_tables ∷ []
