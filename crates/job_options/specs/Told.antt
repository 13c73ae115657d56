-- The tables of keys of the code, as the definitions have them.
use Rattle.std.specs.Prelude.{List, map, pos}
use Rattle.toml.specs.Data.{array, boolean, integer, no_items}
use Rattle.hive_model.specs.Same.{texts}
use Rattle.text_model.specs.Keys as keys
use Rattle.text_model.specs.Keys.{table_with}
use Rattle.text_model.specs.Rules as rules
use Rattle.text_model.specs.Rules.{array_of}
use Rattle.job_options.specs.declared.key.Absent.{Absent}
use Rattle.job_options.specs.declared.key.Absent.TheVariants.{Required, Optional, Number, Truth, Empty}
use Rattle.job_options.specs.declared.key.Key.{Key}
use Rattle.job_options.specs.declared.rules.AnyValue.{AnyValue}
use Rattle.job_options.specs.declared.rules.AnyValue.TheVariants as any
use Rattle.job_options.specs.declared.rules.OneValue.{OneValue}
use Rattle.job_options.specs.declared.rules.OneValue.TheVariants as one

abbrev pub told_absent : Absent → keys.Absent
told_absent Required = keys.Required
told_absent Optional = keys.Optional
told_absent (Number n) = keys.Default (integer (pos n))
told_absent (Truth b) = keys.Default (boolean b)
told_absent Empty = keys.Default (array no_items)

abbrev pub told_key : {R : Type 0} → (R → rules.Rule) → Key R → keys.Key
told_key told k = keys.key k.name.now (told k.rule) (told_absent k.absent)

abbrev pub told_keys : {R : Type 0} → (R → rules.Rule) → List (Key R) → List keys.Key
told_keys told ks = map (told_key told) ks

abbrev pub told_of_one : OneValue → rules.Rule
told_of_one (one.Number least most) = rules.whole_number least most
told_of_one one.Truth = rules.truth_value
told_of_one one.AnyText = rules.any_text
told_of_one one.Name = rules.a_name
told_of_one (one.Word words) = rules.one_of (texts words.now)
told_of_one one.Table = rules.a_table

abbrev pub told_of_any : AnyValue → rules.Rule
told_of_any (any.One rule) = told_of_one rule
told_of_any (any.Array most element) = array_of most (told_of_one element)
told_of_any (any.Tables most element) = array_of most (table_with (told_keys told_of_one element.keys.now))
