-- Where nothing is refused: each element passes, and numbers are within their ranges.
use Rattle.std.proofs.Common.{◌≡◌, ℕ, ◌≤◌, nat_abs, Bool, true, false, ◌&&◌, if◌then◌else◌, ℤ, pos, negsuc, int_le, List, [], ◌∷◌, Option, Some, None, refl, arith}
use Rattle.std.proofs.lemmas.Bool.Decides.{nat_tests}
use Rattle.std.specs.List.{AllByRecursion}
use Rattle.std.specs.Option.{option_and_then, option_map_or, option_or}
use Rattle.toml.specs.Data.{Data, Members, as_integer, string, integer, float, boolean, datetime, array, table}
use Rattle.text_model.specs.Keys.{Key, has_only, names_of, refusal_of_key, visit}
use Rattle.text_model.specs.Rules.{refuse_unless, whole_number}
use Rattle.text_model.specs.Steps.{find_map}
use Rattle.text_model.specs.ValuePaths.{table_path}
use Rattle.text_model.specs.declared.options_refusal.OptionsRefusal.{OptionsRefusal}
use Rattle.text_model.specs.declared.options_refusal.OptionsRefusal.TheVariants.{Unknown}

pub neither : {B : Type 0} (o p : Option B) → option_or o p ≡ None → (o ≡ None) × (p ≡ None)
neither None p e = (refl, e)
neither (Some x) p e = cc

pub find_map-none : {A B : Type 0} (f : A → Option B) (xs : List A) → find_map f xs ≡ None → AllByRecursion (λ x. f x ≡ None) xs
find_map-none f [] e = tt
find_map-none f (x ∷ xs) e = let (here, later) = neither (f x) (find_map f xs) e in (here, find_map-none f xs later)

-- a table that is visited has no key in which something is refused
pub visit-each : (keys : List Key) (path : List ℕ) (t : Members) → visit keys path t ≡ None →
    AllByRecursion (λ k. refusal_of_key path t k ≡ None) keys
unfolding visit
visit-each keys path t e = find_map-none (refusal_of_key path t) keys (by (has_only (names_of keys) t) e)
  where
    by : (b : Bool) → (if b then find_map (refusal_of_key path t) keys else Some (Unknown (table_path path))) ≡ None →
        find_map (refusal_of_key path t) keys ≡ None
    by true h = h
    by false h = cc

-- and it has no other keys
pub visit-only : (keys : List Key) (path : List ℕ) (t : Members) → visit keys path t ≡ None → has_only (names_of keys) t ≡ true
unfolding visit
visit-only keys path t e = by (has_only (names_of keys) t) refl e
  where
    by : (b : Bool) → has_only (names_of keys) t ≡ b →
        (if b then find_map (refusal_of_key path t) keys else Some (Unknown (table_path path))) ≡ None → has_only (names_of keys) t ≡ true
    by true test h = test
    by false test h = cc

pub passes : (b : Bool) (e : OptionsRefusal) → refuse_unless b e ≡ None → b ≡ true
passes true e h = refl
passes false e h = cc

within : (least most : ℕ) (z : ℤ) → (int_le (pos least) z && int_le z (pos most)) ≡ true → (least ≤ nat_abs z) × (nat_abs z ≤ most)
within least most (pos n) e = grind (arith, nat_tests)
within least most (negsuc n) e = cc

-- a number that isn't refused, or else the one that is meant
abbrev pub counted : Option Data → ℕ → ℕ
counted held n = option_map_or nat_abs (option_and_then as_integer (option_or held (Some (integer (pos n))))) 0

pub in_range : (least most n : ℕ) (path : List ℕ) (held : Option Data) → option_map_or (whole_number least most path) held None ≡ None →
    least ≤ n → n ≤ most → (least ≤ counted held n) × (counted held n ≤ most)
in_range least most n path None e low high = (low, high)
in_range least most n path (Some (integer z)) e low high = within least most z (passes _ _ e)
in_range least most n path (Some (string x)) e low high = cc
in_range least most n path (Some (float x)) e low high = cc
in_range least most n path (Some (boolean x)) e low high = cc
in_range least most n path (Some (datetime x)) e low high = cc
in_range least most n path (Some (array x)) e low high = cc
in_range least most n path (Some (table x)) e low high = cc
