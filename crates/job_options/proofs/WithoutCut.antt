-- A sequence that is read in the known language has no key `cut`.
use Rattle.std.proofs.Common.{codes, ◌≡◌, ℕ, true, false, List, Option, Some, None, Result, Ok, Err, IfOk, Ordering, Less, Equal, Greater, nat_cmp, unwrap_or, refl, ap, subst}
use Rattle.std.proofs.lemmas.Bool.{and_parts}
use Rattle.std.proofs.lemmas.Map.Lookups.{exact_bytes}
use Rattle.std.specs.Cmp.Lexicographic.{slice_cmp}
use Rattle.std.specs.Option.{option_and_then, option_or}
use Rattle.std.specs.Ordering.{match_ordering}
use Rattle.toml.specs.Data.{Data, Members, as_bool, boolean, get_member, no_members, member}
use Rattle.text_model.specs.Gives.{Gives}
use Rattle.text_model.specs.Keys.{has_only, names_of, visit}
use Rattle.text_model.specs.Names.{is_among}
use Rattle.text_model.specs.Options.{options_of, read_of}
use Rattle.text_model.specs.RawOptions.{RawOptions, RawSequence}
use Rattle.text_model.specs.TableValues.{sequence_of}
use Rattle.text_model.specs.Tables.{sequence_keys, sequence_tables}
use Rattle.text_model.specs.declared.options_refusal.OptionsRefusal.{OptionsRefusal}
use Rattle.text_model.specs.declared.options_refusal.OptionsRefusal.TheVariants.{NoMemory}
use Rattle.job_options.specs.Known.{known_language}
use Rattle.job_options.specs.Uncut.{IsUncut}
use Rattle.job_options.proofs.Checks.{visit-only}
use Rattle.job_options.proofs.Shapes.{tables-visited, text-read, tree-read}

-- a key that isn't one of those that a table has only
unnamed : (names : List (List ℕ)) (k : List ℕ) (t : Members) → has_only names t ≡ true → is_among names k ≡ false → get_member k t ≡ None
unnamed names k no_members only other = refl
unnamed names k (member name value others) only other =
    let (here, later) = and_parts _ _ only in by (slice_cmp nat_cmp k name) refl here (unnamed names k others later other)
  where
    by : (o : Ordering) → slice_cmp nat_cmp k name ≡ o → is_among names name ≡ true → get_member k others ≡ None →
        match_ordering o (get_member k others) (Some value) (get_member k others) ≡ None
    by Less e here rest = rest
    by Equal e here rest = let same = exact_bytes k name e in cc (ap (is_among names) same)
    by Greater e here rest = rest

flag-absent : (held : Option Data) → held ≡ None → unwrap_or (option_and_then as_bool (option_or held (Some (boolean false)))) false ≡ false
flag-absent held e = rw e refl

sequence-uncut : (path : List ℕ) (t : Members) → visit (sequence_keys known_language 1) path t ≡ None → (sequence_of 1 t).cut ≡ false
unfolding sequence_of sequence_keys
sequence-uncut path t e =
    flag-absent (get_member (codes "cut") t)
    (unnamed (names_of (sequence_keys known_language 1)) (codes "cut") t (visit-only (sequence_keys known_language 1) path t e) refl)

text-uncut : (bytes : List ℕ) (raw : RawOptions) → read_of known_language bytes ≡ Ok raw → IsUncut raw
unfolding options_of
text-uncut bytes raw e =
    let (t, read) = text-read bytes raw e in
    let (top, each, same) = tree-read t raw read in
    subst IsUncut same
    (tables-visited (λ (q : RawSequence). q.cut ≡ false) (sequence_of 1) sequence_tables (sequence_keys known_language 1) sequence-uncut t each.1.1.1.0)

pub given-uncut : (bytes : List ℕ) (r : Result RawOptions OptionsRefusal) → Gives NoMemory r (read_of known_language bytes) → IfOk r IsUncut
given-uncut bytes (Ok raw) e = text-uncut bytes raw e
given-uncut bytes (Err r) e = tt
