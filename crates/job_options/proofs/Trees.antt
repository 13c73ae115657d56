-- Reading a tree step by step. A version that is refused is refused first of all keys, so the other keys may be taken as those of
-- the first version.
use Rattle.std.proofs.Common.{codes, ◌≡◌, List, [], ◌∷◌, Option, Some, None, Ok, Err, refl, ap, ◌⊎◌, inl, inr, lit≤, arith}
use Rattle.toml.specs.Data.{Members, get_member}
use Rattle.text_model.specs.Keys.{Key, names_of, refusal_of_key, visit}
use Rattle.text_model.specs.Options.{options_of, read_tree, refusal_of_tables, shape_refusal, version_of}
use Rattle.text_model.specs.Tables.{top_keys, version_key, raw_tables, raw_keys, resource_tables, resource_keys, algorithm_tables, algorithm_keys, sequence_tables, sequence_keys}
use Rattle.text_model.specs.declared.options_refusal.OptionsRefusal.{OptionsRefusal}
use Rattle.job_options.specs.Known.{known_language}
use Rattle.job_options.proofs.Checks.{in_range, visit-each}

something : (o : Option OptionsRefusal) → (o ≡ None) ⊎ ((e : OptionsRefusal) × (o ≡ Some e))
something None = inl refl
something (Some e) = inr (e, refl)

version_first : (t : Members) → refusal_of_key [] t (version_key known_language) ≡ None → version_of known_language t ≡ 1
unfolding refusal_of_key
version_first t e =
    let (low, high) = in_range 1 1 1 (codes "version") (get_member (codes "version") t) e (lit≤ tt) (lit≤ tt) in omega arith

-- the first key decides
refused_first : (k : Key) (ks ls : List Key) (t : Members) (e : OptionsRefusal) → names_of ks ≡ names_of ls → refusal_of_key [] t k ≡ Some e →
    visit (k ∷ ks) [] t ≡ visit (k ∷ ls) [] t
unfolding visit
refused_first k ks ls t e names h = rw (names, h) refl

pub top_of_first : (t : Members) → visit (top_keys known_language (version_of known_language t)) [] t ≡ visit (top_keys known_language 1) [] t
unfolding top_keys
top_of_first t = by (something (refusal_of_key [] t (version_key known_language)))
  where
    by : (refusal_of_key [] t (version_key known_language) ≡ None) ⊎ ((e : OptionsRefusal) × (refusal_of_key [] t (version_key known_language) ≡ Some e)) →
        visit (top_keys known_language (version_of known_language t)) [] t ≡ visit (top_keys known_language 1) [] t
    by (inl none) = ap (λ v. visit (top_keys known_language v) [] t) (version_first t none)
    by (inr (e, some)) = refused_first (version_key known_language) _ _ t e refl some

pub top_visited : (t : Members) → visit (top_keys known_language 1) [] t ≡ None → version_of known_language t ≡ 1
unfolding top_keys
top_visited t e = version_first t (visit-each (top_keys known_language 1) [] t e).0

-- each step

pub top_refused : (t : Members) (e : OptionsRefusal) → visit (top_keys known_language 1) [] t ≡ Some e → read_tree known_language t ≡ Err e
unfolding read_tree shape_refusal
top_refused t e h = rw (top_of_first t, h) refl

pub raws_refused : (t : Members) (e : OptionsRefusal) → visit (top_keys known_language 1) [] t ≡ None →
    refusal_of_tables t (raw_tables, raw_keys) ≡ Some e → read_tree known_language t ≡ Err e
unfolding read_tree shape_refusal
raws_refused t e top h = rw (top_visited t top, top, h) refl

pub resources_refused : (t : Members) (e : OptionsRefusal) → visit (top_keys known_language 1) [] t ≡ None →
    refusal_of_tables t (raw_tables, raw_keys) ≡ None → refusal_of_tables t (resource_tables, resource_keys) ≡ Some e →
    read_tree known_language t ≡ Err e
unfolding read_tree shape_refusal
resources_refused t e top raws h = rw (top_visited t top, top, raws, h) refl

pub algorithms_refused : (t : Members) (e : OptionsRefusal) → visit (top_keys known_language 1) [] t ≡ None →
    refusal_of_tables t (raw_tables, raw_keys) ≡ None → refusal_of_tables t (resource_tables, resource_keys) ≡ None →
    refusal_of_tables t (algorithm_tables 1, algorithm_keys) ≡ Some e → read_tree known_language t ≡ Err e
unfolding read_tree shape_refusal
algorithms_refused t e top raws resources h = rw (top_visited t top, top, raws, resources, h) refl

pub sequences_refused : (t : Members) (e : OptionsRefusal) → visit (top_keys known_language 1) [] t ≡ None →
    refusal_of_tables t (raw_tables, raw_keys) ≡ None → refusal_of_tables t (resource_tables, resource_keys) ≡ None →
    refusal_of_tables t (algorithm_tables 1, algorithm_keys) ≡ None →
    refusal_of_tables t (sequence_tables, sequence_keys known_language 1) ≡ Some e → read_tree known_language t ≡ Err e
unfolding read_tree shape_refusal
sequences_refused t e top raws resources algorithms h = rw (top_visited t top, top, raws, resources, algorithms, h) refl

pub all_read : (t : Members) → visit (top_keys known_language 1) [] t ≡ None →
    refusal_of_tables t (raw_tables, raw_keys) ≡ None → refusal_of_tables t (resource_tables, resource_keys) ≡ None →
    refusal_of_tables t (algorithm_tables 1, algorithm_keys) ≡ None →
    refusal_of_tables t (sequence_tables, sequence_keys known_language 1) ≡ None → read_tree known_language t ≡ Ok (options_of 1 t)
unfolding read_tree shape_refusal
all_read t top raws resources algorithms sequences = rw (top_visited t top, top, raws, resources, algorithms, sequences) refl

pub ruleset tree_steps = (top_refused, raws_refused, resources_refused, algorithms_refused, sequences_refused, all_read)
