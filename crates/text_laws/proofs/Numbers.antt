-- Numbers of names: each is that of a name that is there, and no two names have the same one.
use Rattle.std.proofs.Common.{◌≡◌, ℕ, ◌<◌, true, List, [], length, get_or, map, filter_map, slice_get, Option, Some, None, option_map, option_and_then, refl, ap, sym, subst, ◌∙◌}
use Rattle.std.proofs.lemmas.List.Quantifiers.{position-Some}
use Rattle.std.proofs.lemmas.Option.{slice_get_within}
use Rattle.std.specs.Cmp.Lexicographic.{nat_list_eq_equiv}
use Rattle.std.specs.List.{AllByRecursion}
use Rattle.hive_model.specs.Same.{same_text}
use Rattle.hive_model.specs.Valid.{AreDistinctNames, AreDistinctNumbers}
use Rattle.hive_model.specs.declared.product.Kind.{Kind}
use Rattle.text_model.specs.JobAlgorithms.{Scope, handle_named}
use Rattle.text_model.specs.Names.{number_of}
use Rattle.text_model.specs.declared.named.Named.{Named}
use Rattle.text_laws.proofs.Distinct.{Tells, distinct-numbered}
use Rattle.text_laws.proofs.Lists.{all-given, mapped-given}

pub number-within : (names : List (List ℕ)) (name : List ℕ) (n : ℕ) → number_of names name ≡ Some n → n < length names
unfolding number_of
number-within names name n e = (position-Some (same_text name) names n [] e).0

pub number-same : (names : List (List ℕ)) (name : List ℕ) (n : ℕ) → number_of names name ≡ Some n → same_text name (get_or names n []) ≡ true
unfolding number_of
number-same names name n e = (position-Some (same_text name) names n [] e).1

pub numbers-within : (names wanted : List (List ℕ)) → AllByRecursion (λ n. n < length names) (filter_map (number_of names) wanted)
numbers-within names wanted = all-given (λ n. n < length names) (number_of names) wanted (number-within names)

-- two names of one number are the same
pub number-tells : (names : List (List ℕ)) → Tells same_text (number_of names)
number-tells names x y n e f =
    nat_list_eq_equiv.symm x y
    ∙ sym (nat_list_eq_equiv.congr (get_or names n []) y x (nat_list_eq_equiv.symm (get_or names n []) y ∙ number-same names y n f))
    ∙ nat_list_eq_equiv.symm (get_or names n []) x ∙ number-same names x n e

pub numbers-differ : (names wanted : List (List ℕ)) → AreDistinctNames wanted → AreDistinctNumbers (filter_map (number_of names) wanted)
numbers-differ names wanted distinct = distinct-numbered same_text (number_of names) (number-tells names) wanted distinct

-- handles by name

-- what a handle that is named has
pub record IsNamed (scope : Scope) (name : List ℕ) (n : Named) : Type 0 where
  pub numbered : number_of scope.handles name ≡ Some n.handle
  pub kind : slice_get scope.kinds n.handle ≡ Some n.kind

pub handle-named : (scope : Scope) (name : List ℕ) (n : Named) → handle_named scope name ≡ Some n → IsNamed scope name n
handle-named scope name n e = by (number_of scope.handles name) refl e
  where
    at : (h : ℕ) (o : Option Kind) → number_of scope.handles name ≡ Some h → slice_get scope.kinds h ≡ o →
        option_map (λ kind. record { name = name; handle = h; kind = kind }) o ≡ Some n → IsNamed scope name n
    at h None number there f = cc
    at h (Some k) number there f =
        let same : record { name = name; handle = h; kind = k } ≡ n = cc in
        subst (λ (it : Named). IsNamed scope name it) same (record { numbered = number; kind = there })

    by : (o : Option ℕ) → number_of scope.handles name ≡ o →
        option_and_then (λ handle. option_map (λ kind. record { name = name; handle = handle; kind = kind }) (slice_get scope.kinds handle)) o ≡ Some n →
        IsNamed scope name n
    by None number f = cc
    by (Some h) number f = at h (slice_get scope.kinds h) number refl f

pub handles-within : (scope : Scope) (wanted : List (List ℕ)) →
    AllByRecursion (λ (n : Named). n.handle < length scope.kinds) (filter_map (handle_named scope) wanted)
handles-within scope wanted =
    all-given (λ (n : Named). n.handle < length scope.kinds) (handle_named scope) wanted
    (λ name n e. slice_get_within scope.kinds n.handle n.kind (handle-named scope name n e).kind)

-- the number of a handle by its name
pub handle_number : Scope → List ℕ → Option ℕ
handle_number scope name = option_map (λ (n : Named). n.handle) (handle_named scope name)

pub handle-numbered : (scope : Scope) (name : List ℕ) (h : ℕ) → handle_number scope name ≡ Some h → number_of scope.handles name ≡ Some h
unfolding handle_number
handle-numbered scope name h e = by (handle_named scope name) refl e
  where
    by : (o : Option Named) → handle_named scope name ≡ o → option_map (λ (n : Named). n.handle) o ≡ Some h → number_of scope.handles name ≡ Some h
    by None named f = cc
    by (Some n) named f =
        let same : n.handle ≡ h = cc in (handle-named scope name n named).numbered ∙ ap Some same

handle-tells : (scope : Scope) → Tells same_text (handle_number scope)
handle-tells scope x y h e f = number-tells scope.handles x y h (handle-numbered scope x h e) (handle-numbered scope y h f)

pub handles-listed : (scope : Scope) (wanted : List (List ℕ)) →
    map (λ (n : Named). n.handle) (filter_map (handle_named scope) wanted) ≡ filter_map (handle_number scope) wanted
unfolding handle_number
handles-listed scope wanted = mapped-given (λ (n : Named). n.handle) (handle_named scope) wanted

pub handles-differ : (scope : Scope) (wanted : List (List ℕ)) → AreDistinctNames wanted →
    AreDistinctNumbers (map (λ (n : Named). n.handle) (filter_map (handle_named scope) wanted))
handles-differ scope wanted distinct =
    subst (λ (ns : List ℕ). AreDistinctNumbers ns) (sym (handles-listed scope wanted))
    (distinct-numbered same_text (handle_number scope) (handle-tells scope) wanted distinct)
