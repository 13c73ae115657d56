-- What is read has the shape that a job is made of, and no sequence has `cut`.
use Rattle.std.proofs.Common.{codes, ◌≡◌, ℕ, suc, ◌+◌, ◌≤◌, nat_lt, Bool, true, false, if◌then◌else◌, List, [], ◌∷◌, length, map, filter_map, Option, Some, None, Result, Ok, Err, IfOk, unwrap_or, refl, ap, sym, subst, ◌∙◌, lit≤, arith}
use Rattle.std.proofs.lemmas.Bool.Decides.{nat_tests}
use Rattle.std.proofs.lemmas.List.{length-map}
use Rattle.std.specs.List.{AllByRecursion, cons_option, enumerate_from}
use Rattle.std.specs.Option.{option_and_then, option_map_or, option_or}
use Rattle.toml.specs.Data.{Data, Members, as_array, as_str, as_table, get_member, string, integer, float, boolean, datetime, array, table, no_items}
use Rattle.hive_model.specs.declared.algorithm.Raw.{Raw}
use Rattle.hive_model.specs.declared.limits.TheConstants.{MOST_HANDLES, MOST_RESOURCES, MOST_SEQUENCES}
use Rattle.text_model.specs.Gives.{Gives}
use Rattle.text_model.specs.Keys.{Key, refusal_of_key, table_with, visit}
use Rattle.text_model.specs.Options.{arrays, options_of, read_of, read_tree, refusal_of_tables, shape_refusal, tree_of, version_of}
use Rattle.text_model.specs.RawOptions.{RawOptions}
use Rattle.text_model.specs.Rules.{Rule, a_name, a_table, array_of, first_in, listed}
use Rattle.text_model.specs.Shape.{AreNames, HasShape, IsAlgorithm, IsName, IsResource, IsSequence}
use Rattle.text_model.specs.Steps.{◌>>=◌, find_map, or_refuse, refuse_found}
use Rattle.text_model.specs.TableValues.{algorithm_of, output_of, raw_of, resource_of, sequence_of, tables_at, text_at, texts_at}
use Rattle.text_model.specs.Tables.{algorithm_keys, algorithm_tables, inputs_key, members_key, name_key, output_key, output_keys, raw_keys, raw_tables, resource_keys, resource_tables, resources_key, sequence_keys, sequence_tables, top_key, top_keys}
use Rattle.text_model.specs.ValuePaths.{below, numbered}
use Rattle.text_model.specs.declared.limits.TheConstants.{MOST_ALGORITHMS_OF_VERSION_1, MOST_MEMBERS}
use Rattle.text_model.specs.declared.options_refusal.OptionsRefusal.{OptionsRefusal}
use Rattle.text_model.specs.declared.options_refusal.OptionsRefusal.TheVariants.{Missing, NoMemory, Range, Toml}
use Rattle.text_model.specs.declared.raw_options.RawOutput.{RawOutput}
use Rattle.job_options.specs.Known.{known_language}
use Rattle.job_options.proofs.Checks.{find_map-none, neither, passes, visit-each}
use Rattle.job_options.proofs.Ranges.{cardinality-within, units-within}
use Rattle.job_options.proofs.Trees.{top_of_first, top_visited}

-- values by themselves

name-held : (path : List ℕ) (held : Option Data) → option_map_or (a_name path) held (Some (Missing path)) ≡ None →
    IsName (unwrap_or (option_and_then as_str (option_or held None)) [])
name-held path None e = cc
name-held path (Some (string s)) e = passes _ _ e
name-held path (Some (integer x)) e = cc
name-held path (Some (float x)) e = cc
name-held path (Some (boolean x)) e = cc
name-held path (Some (datetime x)) e = cc
name-held path (Some (array x)) e = cc
name-held path (Some (table x)) e = cc

name-at : (path : List ℕ) (t : Members) → refusal_of_key path t name_key ≡ None → IsName (text_at name_key t)
unfolding refusal_of_key
name-at path t e = name-held (below path (codes "name")) (get_member (codes "name") t) e

top-at : (t : Members) → refusal_of_key [] t top_key ≡ None → IsName (text_at top_key t)
unfolding refusal_of_key
top-at t e = name-held (codes "top") (get_member (codes "top") t) e

-- arrays

one_more : {Y : Type 0} (o : Option Y) (ys : List Y) (n : ℕ) → length ys ≤ n → length (cons_option o ys) ≤ suc n
one_more None ys n h = omega arith
one_more (Some y) ys n h = omega arith

filtered : {X Y : Type 0} (f : X → Option Y) (xs : List X) → length (filter_map f xs) ≤ length xs
filtered f [] = lit≤ tt
filtered f (x ∷ xs) = one_more (f x) (filter_map f xs) (length xs) (filtered f xs)

-- the elements of the array at a key that is empty where it is absent
abbrev elements : Option Data → List Data
elements held = option_map_or listed (option_and_then as_array (option_or held (Some (array no_items)))) []

few-then : (most : ℕ) (rule : Rule) (path : List ℕ) (held : Option Data) → option_map_or (array_of most rule path) held None ≡ None →
    (length (elements held) ≤ most) × (first_in rule path (elements held) ≡ None)
few-then most rule path None e = (omega arith, refl)
few-then most rule path (Some (array items)) e = by (nat_lt most (length (listed items))) refl e
  where
    by : (t : Bool) → nat_lt most (length (listed items)) ≡ t →
        (if t then Some (Range path) else first_in rule path (listed items)) ≡ None →
        (length (listed items) ≤ most) × (first_in rule path (listed items) ≡ None)
    by true test h = cc
    by false test h = (grind (arith, nat_tests), h)
few-then most rule path (Some (string x)) e = cc
few-then most rule path (Some (integer x)) e = cc
few-then most rule path (Some (float x)) e = cc
few-then most rule path (Some (boolean x)) e = cc
few-then most rule path (Some (datetime x)) e = cc
few-then most rule path (Some (table x)) e = cc

names-in : (path : List ℕ) (n : ℕ) (vs : List Data) →
    find_map (λ (it : ℕ × Data). a_name (numbered path it.0) it.1) (enumerate_from n vs) ≡ None → AllByRecursion IsName (filter_map as_str vs)
names-in path n [] e = tt
names-in path n (v ∷ vs) e = let (here, later) = neither (a_name (numbered path n) v) _ e in by v here (names-in path (n + 1) vs later)
  where
    by : (w : Data) → a_name (numbered path n) w ≡ None → AllByRecursion IsName (filter_map as_str vs) →
        AllByRecursion IsName (filter_map as_str (w ∷ vs))
    by (string s) h rest = (passes _ _ h, rest)
    by (integer x) h rest = cc
    by (float x) h rest = cc
    by (boolean x) h rest = cc
    by (datetime x) h rest = cc
    by (array x) h rest = cc
    by (table x) h rest = cc

names-held : (most : ℕ) (path : List ℕ) (held : Option Data) → option_map_or (array_of most a_name path) held None ≡ None →
    AreNames most (filter_map as_str (elements held))
names-held most path held e =
    let (few, each) = few-then most a_name path held e in
    record { few = omega (arith, filtered as_str (elements held)); names = names-in path 1 (elements held) each }

tables-held : (most : ℕ) (rule : Rule) (path : List ℕ) (held : Option Data) → option_map_or (array_of most rule path) held None ≡ None →
    length (filter_map as_table (elements held)) ≤ most
tables-held most rule path held e =
    let few = (few-then most rule path held e).0 in omega (arith, filtered as_table (elements held))

-- outputs

output-name : (path : List ℕ) (t : Members) → visit output_keys path t ≡ None → IsName (output_of t).name
output-name path t e = name-at path t (visit-each output_keys path t e).0

outputs-in : (path : List ℕ) (n : ℕ) (vs : List Data) →
    find_map (λ (it : ℕ × Data). table_with output_keys (numbered path it.0) it.1) (enumerate_from n vs) ≡ None →
    AllByRecursion (λ (o : RawOutput). IsName o.name) (map output_of (filter_map as_table vs))
outputs-in path n [] e = tt
outputs-in path n (v ∷ vs) e =
    let (here, later) = neither (table_with output_keys (numbered path n) v) _ e in by v here (outputs-in path (n + 1) vs later)
  where
    by : (w : Data) → table_with output_keys (numbered path n) w ≡ None →
        AllByRecursion (λ (o : RawOutput). IsName o.name) (map output_of (filter_map as_table vs)) →
        AllByRecursion (λ (o : RawOutput). IsName o.name) (map output_of (filter_map as_table (w ∷ vs)))
    by (table ms) h rest = (output-name (numbered path n) ms h, rest)
    by (string x) h rest = cc
    by (integer x) h rest = cc
    by (float x) h rest = cc
    by (boolean x) h rest = cc
    by (datetime x) h rest = cc
    by (array x) h rest = cc

-- tables

raw-shaped : (path : List ℕ) (t : Members) → visit raw_keys path t ≡ None → IsName (raw_of t).name
raw-shaped path t e = name-at path t (visit-each raw_keys path t e).0

resource-shaped : (path : List ℕ) (t : Members) → visit resource_keys path t ≡ None → IsResource (resource_of t)
resource-shaped path t e =
    let each = visit-each resource_keys path t e in
    let (low, high) = units-within path t each.1.0 in (name-at path t each.0, low, high)

inputs-at : (path : List ℕ) (t : Members) → refusal_of_key path t inputs_key ≡ None → AreNames MOST_HANDLES (texts_at inputs_key t)
unfolding refusal_of_key
inputs-at path t e = names-held MOST_HANDLES (below path (codes "inputs")) (get_member (codes "inputs") t) e

resources-at : (path : List ℕ) (t : Members) → refusal_of_key path t resources_key ≡ None → AreNames MOST_RESOURCES (texts_at resources_key t)
unfolding refusal_of_key
resources-at path t e = names-held MOST_RESOURCES (below path (codes "resources")) (get_member (codes "resources") t) e

members-at : (path : List ℕ) (t : Members) → refusal_of_key path t members_key ≡ None → AreNames MOST_MEMBERS (texts_at members_key t)
unfolding refusal_of_key
members-at path t e = names-held MOST_MEMBERS (below path (codes "members")) (get_member (codes "members") t) e

outputs-at : (path : List ℕ) (t : Members) → refusal_of_key path t output_key ≡ None →
    (length (map output_of (tables_at output_key t)) ≤ MOST_HANDLES)
    × AllByRecursion (λ (o : RawOutput). IsName o.name) (map output_of (tables_at output_key t))
unfolding refusal_of_key
outputs-at path t e =
    let held = get_member (codes "output") t in
    let here = below path (codes "output") in
    let few = tables-held MOST_HANDLES (table_with output_keys) here held e in
    let each = (few-then MOST_HANDLES (table_with output_keys) here held e).1 in
    (rw length-map few, outputs-in here 1 (elements held) each)

algorithm-shaped : (path : List ℕ) (t : Members) → visit algorithm_keys path t ≡ None → IsAlgorithm (algorithm_of t)
unfolding algorithm_of
algorithm-shaped path t e =
    let each = visit-each algorithm_keys path t e in
    let (few, outputs) = outputs-at path t each.1.1.1.1.0 in
    record {
      name = name-at path t each.0;
      cardinality = cardinality-within path t each.1.0;
      inputs = inputs-at path t each.1.1.0;
      resources = resources-at path t each.1.1.1.0;
      few = few;
      outputs = outputs;
    }

sequence-shaped : (path : List ℕ) (t : Members) → visit (sequence_keys known_language 1) path t ≡ None → IsSequence (sequence_of 1 t)
unfolding sequence_of sequence_keys
sequence-shaped path t e =
    let each = visit-each (sequence_keys known_language 1) path t e in
    record { name = name-at path t each.0; members = members-at path t each.1.0 }

-- the tables of an array

visited : {A : Type 0} (P : A → Type 0) (of : Members → A) (keys : List Key) → ((path : List ℕ) (t : Members) → visit keys path t ≡ None → P (of t)) →
    (place : List ℕ) (n : ℕ) (ts : List Members) →
    find_map (λ (it : ℕ × Members). visit keys (numbered place it.0) it.1) (enumerate_from n ts) ≡ None → AllByRecursion P (map of ts)
visited P of keys each place n [] e = tt
visited P of keys each place n (t ∷ ts) e =
    let (here, later) = neither (visit keys (numbered place n) t) _ e in
    (each (numbered place n) t here, visited P of keys each place (n + 1) ts later)

pub tables-visited : {A : Type 0} (P : A → Type 0) (of : Members → A) (key : Key) (keys : List Key) →
    ((path : List ℕ) (t : Members) → visit keys path t ≡ None → P (of t)) → (t : Members) → refusal_of_tables t (key, keys) ≡ None →
    AllByRecursion P (map of (tables_at key t))
unfolding refusal_of_tables
tables-visited P of key keys each t e = visited P of keys each key.name 1 (tables_at key t) e

tables-few : {A : Type 0} (of : Members → A) (most : ℕ) (path : List ℕ) (held : Option Data) → option_map_or (array_of most a_table path) held None ≡ None →
    length (map of (filter_map as_table (elements held))) ≤ most
tables-few of most path held e = rw length-map (tables-held most a_table path held e)

raws-few : (t : Members) → refusal_of_key [] t raw_tables ≡ None → length (map raw_of (tables_at raw_tables t)) ≤ MOST_HANDLES
unfolding refusal_of_key
raws-few t e = tables-few raw_of MOST_HANDLES (codes "raw") (get_member (codes "raw") t) e

resources-few : (t : Members) → refusal_of_key [] t resource_tables ≡ None → length (map resource_of (tables_at resource_tables t)) ≤ MOST_RESOURCES
unfolding refusal_of_key
resources-few t e = tables-few resource_of MOST_RESOURCES (codes "resource") (get_member (codes "resource") t) e

algorithms-few : (t : Members) → refusal_of_key [] t (algorithm_tables 1) ≡ None →
    length (map algorithm_of (tables_at (algorithm_tables 1) t)) ≤ MOST_ALGORITHMS_OF_VERSION_1
unfolding refusal_of_key
algorithms-few t e = tables-few algorithm_of MOST_ALGORITHMS_OF_VERSION_1 (codes "algorithm") (get_member (codes "algorithm") t) e

sequences-few : (t : Members) → refusal_of_key [] t sequence_tables ≡ None → length (map (sequence_of 1) (tables_at sequence_tables t)) ≤ MOST_SEQUENCES
unfolding refusal_of_key
sequences-few t e = tables-few (sequence_of 1) MOST_SEQUENCES (codes "sequence") (get_member (codes "sequence") t) e

-- the whole tree

options-shaped : (t : Members) → visit (top_keys known_language 1) [] t ≡ None →
    AllByRecursion (λ x. refusal_of_tables t x ≡ None) (arrays known_language 1) → HasShape (options_of 1 t)
unfolding options_of top_keys
options-shaped t top each =
    let keys = visit-each (top_keys known_language 1) [] t top in
    record {
      first = lit≤ tt;
      last = lit≤ tt;
      top = top-at t keys.1.0;
      few_raws = raws-few t keys.1.1.0;
      raws = tables-visited (λ (r : Raw). IsName r.name) raw_of raw_tables raw_keys raw-shaped t each.0;
      few_resources = resources-few t keys.1.1.1.0;
      resources = tables-visited IsResource resource_of resource_tables resource_keys resource-shaped t each.1.0;
      few_algorithms = algorithms-few t keys.1.1.1.1.0;
      algorithms = tables-visited IsAlgorithm algorithm_of (algorithm_tables 1) algorithm_keys algorithm-shaped t each.1.1.0;
      few_sequences = sequences-few t keys.1.1.1.1.1.0;
      sequences = tables-visited IsSequence (sequence_of 1) sequence_tables (sequence_keys known_language 1) sequence-shaped t each.1.1.1.0;
    }

settled : {A : Type 0} (o : Option OptionsRefusal) (x y : A) → (refuse_found o >>= λ _. Ok x) ≡ Ok y → (o ≡ None) × (x ≡ y)
settled None x y e = (refl, cc)
settled (Some r) x y e = cc

found : {A : Type 0} {B : Type 0} (o : Option A) (r : OptionsRefusal) (next : A → Result B OptionsRefusal) (y : B) →
    (or_refuse r o >>= next) ≡ Ok y → (x : A) × (next x ≡ Ok y)
found None r next y e = cc
found (Some x) r next y e = (x, e)

unrefused : (t : Members) → shape_refusal known_language (version_of known_language t) t ≡ None →
    (visit (top_keys known_language 1) [] t ≡ None) × (version_of known_language t ≡ 1)
    × AllByRecursion (λ x. refusal_of_tables t x ≡ None) (arrays known_language 1)
unfolding shape_refusal
unrefused t e =
    let later = find_map (refusal_of_tables t) (arrays known_language (version_of known_language t)) in
    let (top, rest) = neither (visit (top_keys known_language (version_of known_language t)) [] t) (option_or later None) e in
    let first : visit (top_keys known_language 1) [] t ≡ None = sym (top_of_first t) ∙ top in
    let version = top_visited t first in
    let arrays_none = (neither later None rest).0 in
    (first, version, find_map-none (refusal_of_tables t) (arrays known_language 1) (rw version at arrays_none))

-- what was read, and that nothing was refused in it
pub tree-read : (t : Members) (raw : RawOptions) → read_tree known_language t ≡ Ok raw →
    (visit (top_keys known_language 1) [] t ≡ None) × AllByRecursion (λ x. refusal_of_tables t x ≡ None) (arrays known_language 1)
    × (options_of 1 t ≡ raw)
unfolding read_tree
tree-read t raw e =
    let (none, same) = settled (shape_refusal known_language (version_of known_language t) t) _ raw e in
    let (top, version, each) = unrefused t none in
    (top, each, ap (λ v. options_of v t) (sym version) ∙ same)

pub text-read : (bytes : List ℕ) (raw : RawOptions) → read_of known_language bytes ≡ Ok raw → (t : Members) × (read_tree known_language t ≡ Ok raw)
unfolding read_of
text-read bytes raw e = found (tree_of bytes) Toml (read_tree known_language) raw e

text-shaped : (bytes : List ℕ) (raw : RawOptions) → read_of known_language bytes ≡ Ok raw → HasShape raw
text-shaped bytes raw e =
    let (t, read) = text-read bytes raw e in
    let (top, each, same) = tree-read t raw read in subst HasShape same (options-shaped t top each)

pub given-shaped : (bytes : List ℕ) (r : Result RawOptions OptionsRefusal) → Gives NoMemory r (read_of known_language bytes) → IfOk r HasShape
given-shaped bytes (Ok raw) e = text-shaped bytes raw e
given-shaped bytes (Err r) e = tt
