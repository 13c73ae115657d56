-- What a value in options must be. A rule gives the refusal of the value at a path, if there is one: Field where it is of another
-- kind, Range where a number, an array or a word is out of range, Name where a text is no name. An array is looked at as a whole
-- before its elements, and these one after another.
use Rattle.std.specs.Prelude.{ℕ, nat_lt, Bool, ◌&&◌, if◌then◌else◌, pos, int_le, List, [], ◌∷◌, length, Option, Some, None}
use Rattle.std.specs.List.{enumerate_from}
use Rattle.toml.specs.Data as toml
use Rattle.toml.specs.Data.{Data, Items}
use Rattle.text_model.specs.Names.{is_among, is_name}
use Rattle.text_model.specs.Steps.{find_map}
use Rattle.text_model.specs.ValuePaths.{numbered}
use Rattle.text_model.specs.declared.options_refusal.OptionsRefusal.{OptionsRefusal}
use Rattle.text_model.specs.declared.options_refusal.OptionsRefusal.TheVariants.{Field, Name, Range}

abbrev pub Rule : Type 0
Rule = List ℕ → Data → Option OptionsRefusal

abbrev pub refuse_unless : Bool → OptionsRefusal → Option OptionsRefusal
refuse_unless fits refusal = if fits then None else Some refusal

abbrev pub whole_number : ℕ → ℕ → Rule
whole_number least most path (toml.integer z) = refuse_unless (int_le (pos least) z && int_le z (pos most)) (Range path)
whole_number least most path value = Some (Field path)

abbrev pub truth_value : Rule
truth_value path (toml.boolean b) = None
truth_value path value = Some (Field path)

abbrev pub any_text : Rule
any_text path (toml.string text) = None
any_text path value = Some (Field path)

abbrev pub a_name : Rule
a_name path (toml.string text) = refuse_unless (is_name text) (Name path)
a_name path value = Some (Field path)

abbrev pub one_of : List (List ℕ) → Rule
one_of words path (toml.string text) = refuse_unless (is_among words text) (Range path)
one_of words path value = Some (Field path)

abbrev pub listed : Items → List Data
listed toml.no_items = []
listed (toml.item value others) = value ∷ listed others

abbrev pub first_in : Rule → List ℕ → List Data → Option OptionsRefusal
first_in element path values = find_map (λ (it : ℕ × Data). element (numbered path it.0) it.1) (enumerate_from 1 values)

-- an array of at most so many elements, with a rule for each
abbrev pub array_of : ℕ → Rule → Rule
array_of most element path (toml.array items) =
    if nat_lt most (length (listed items)) then Some (Range path) else first_in element path (listed items)
array_of most element path value = Some (Field path)

-- a table, which is visited later
abbrev pub a_table : Rule
a_table path (toml.table entries) = None
a_table path value = Some (Field path)
