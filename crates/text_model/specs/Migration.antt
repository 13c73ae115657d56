-- An options text in version 2: its tree has that version, and each sequence has `mode` in the place of `mode_or`, where it has
-- that key, with the same meaning. All else is as it was.
use Rattle.std.specs.Prelude.{codes, ℕ, Bool, if◌then◌else◌, pos, List, Result, Ok}
use Rattle.std.specs.Cmp.Lexicographic.{slice_cmp}
use Rattle.std.specs.Option.{option_and_then, option_map_or}
use Rattle.std.specs.Ordering.{match_ordering, nat_cmp}
use Rattle.toml.specs.Data as toml
use Rattle.toml.specs.Data.{Data, Items, Members, as_bool, get_member, same_key}
use Rattle.text_model.specs.Jobs.{job_of}
use Rattle.text_model.specs.Language.{whole_language}
use Rattle.text_model.specs.Options.{tree_of}
use Rattle.text_model.specs.Refusals.{of_options}
use Rattle.text_model.specs.Steps.{◌>>=◌, or_refuse, map_err}
use Rattle.text_model.specs.declared.job_refusal.JobRefusal.{JobRefusal}
use Rattle.text_model.specs.declared.limits.TheConstants.{SECOND_VERSION}
use Rattle.text_model.specs.declared.options_refusal.OptionsRefusal.TheVariants.{Toml}

-- the table with a value at a key; a new key goes to its place in the order
unfoldable pub with_member : List ℕ → Data → Members → Members
with_member key value toml.no_members = toml.member key value toml.no_members
with_member key value (toml.member name old others) =
    match_ordering (slice_cmp nat_cmp key name) (toml.member key value (toml.member name old others)) (toml.member name value others)
    (toml.member name old (with_member key value others))

unfoldable pub without_member : List ℕ → Members → Members
without_member key toml.no_members = toml.no_members
without_member key (toml.member name value others) =
    if same_key key name then others else toml.member name value (without_member key others)

-- sequences

abbrev pub mode_text : Bool → Data
mode_text mode_or = toml.string (if mode_or then codes "or" else codes "and")

unfoldable pub version_2_of_sequence : Members → Members
version_2_of_sequence table =
    option_map_or (λ mode_or. with_member (codes "mode") (mode_text mode_or) (without_member (codes "mode_or") table))
    (option_and_then as_bool (get_member (codes "mode_or") table)) table

abbrev pub version_2_of_item : Data → Data
version_2_of_item (toml.table entries) = toml.table (version_2_of_sequence entries)
version_2_of_item value = value

unfoldable pub version_2_of_items : Items → Items
version_2_of_items toml.no_items = toml.no_items
version_2_of_items (toml.item value others) = toml.item (version_2_of_item value) (version_2_of_items others)

abbrev pub version_2_of_array : Data → Data
version_2_of_array (toml.array items) = toml.array (version_2_of_items items)
version_2_of_array value = value

-- the whole

abbrev pub with_sequences : Members → Members
with_sequences tree =
    option_map_or (λ value. with_member (codes "sequence") (version_2_of_array value) tree) (get_member (codes "sequence") tree) tree

unfoldable pub version_2_of : Members → Members
version_2_of tree = with_member (codes "version") (toml.integer (pos SECOND_VERSION)) (with_sequences tree)

-- the tree to which a text migrates, or the refusal of its job
unfoldable pub migrated : List ℕ → Result Members JobRefusal
migrated bytes = do
  job ← job_of whole_language bytes
  tree ← map_err of_options (or_refuse Toml (tree_of bytes))
  Ok (version_2_of tree)
