-- The examples are valid, or are not.
use Rattle.std.proofs.Common.{◌≡◌, ℕ, zero, suc, ◌+◌, ◌<◌, ◌≤◌, Bool, true, false, ◌||◌, nat_eq, List, [], ◌∷◌, ◌++◌, map, pos, Option, Some, IsSomeAnd, MatchOption, length, length-append, get_or, slice_get, refl, sym, ap, subst, ◌∙◌, arith}
use Rattle.std.specs.List.{AllByRecursion, Contains, IsDistinct, count_by, range_with_len}
use Rattle.std.proofs.lemmas.Bool.Decides.{Decides-eqb}
use Rattle.std.proofs.lemmas.List.FromFn.{length-range_with_len}
use Rattle.event_laws.proofs.Depths.{nested-deep, nested-no_cycle}
use Rattle.event_laws.proofs.Forward.{forward-acyclic}
use Rattle.event_laws.proofs.ClosedCuts.{uncut-closed}
use Rattle.event_laws.specs.Examples.{sum_and_cut, three_and_four, cut_or, own_member, own_output, above_next, tower, too_deep}
use Rattle.hive_model.specs.Below.{below, below_within}
use Rattle.hive_model.specs.ControlFlow.{HasMember, IsNestedWithin}
use Rattle.hive_model.specs.Cut.{IsCutBy}
use Rattle.hive_model.specs.DataFlow.{Takes}
use Rattle.hive_model.specs.Fits.{Fits}
use Rattle.hive_model.specs.Kinds.{tree_kind}
use Rattle.hive_model.specs.Paths.{IsChain}
use Rattle.hive_model.specs.Sequence.{Sequence, plain_sequence}
use Rattle.hive_model.specs.Tree.{Literal, Held, Operation, Unary, nodes_of}
use Rattle.hive_model.specs.Valid.{IsValidJob}
use Rattle.hive_model.specs.declared.expr.Binary.TheVariants.{Div, Gt}
use Rattle.hive_model.specs.declared.expr.Function.TheVariants.{Sum}
use Rattle.hive_model.specs.declared.sequence.Member.TheVariants.{Seq}

pub sum_and_cut-valid : IsValidJob sum_and_cut
unfolding IsDistinct nodes_of tree_kind
sum_and_cut-valid = record {
  resource_names = tt;
  member_names_differ = ((refl, (refl, tt)), ((refl, tt), (tt, tt)));
  handle_names_differ = ((refl, (refl, tt)), ((refl, tt), (tt, tt)));
  numbered = (refl, (refl, tt));
  inputs = ((omega arith, tt), ((omega arith, tt), tt));
  inputs_differ = ((tt, tt), ((tt, tt), tt));
  resources = (tt, (tt, tt));
  resources_differ = (tt, (tt, tt));
  acyclic = forward-acyclic sum_and_cut ((omega arith, tt), ((omega arith, tt), tt));
  expressions = (
    (((Unary Sum (Held 0), refl, refl, omega arith), tt), tt),
    ((tt, (Operation Gt (Held 2) (Literal (pos 5)), refl, refl, omega arith)), tt),
  );
  members = (omega arith, (omega arith, tt));
  forest = tt;
  top_is_no_member = λ c. let k = c.1 in absurd (omega (arith, k));
  top = omega arith;
  nested = nested;
  cuts = uncut-closed sum_and_cut (refl, tt);
  limits = record {
    algorithms = omega arith;
    sequences = omega arith;
    resources = omega arith;
    handles = omega arith;
    leaves = omega arith;
    cardinalities = (omega arith, (omega arith, tt));
    units = tt;
  };
}
  where
    nested : (s : ℕ) → s < length sum_and_cut.sequences → IsNestedWithin 64 sum_and_cut.sequences (Seq s)
    nested zero h = (tt, (tt, tt))
    nested (suc s) h = absurd (omega (arith, h))

pub three_and_four-fits : Fits sum_and_cut three_and_four
three_and_four-fits = (tt, (tt, tt))

-- the one cut node is the top, and what has a leaf below it is the one algorithm

or_false : (b : Bool) → (b || false) ≡ true → b ≡ true
or_false true e = refl
or_false false e = e

cut_leaf : (s number : ℕ) → IsCutBy cut_or s number → (s ≡ 1) × (0 ≡ number)
unfolding below below_within
cut_leaf zero number c = let plain = c.there in let is_cut = c.cut in cc
cut_leaf (suc zero) number c = (refl, (Decides-eqb 0 number).0 (or_false (nat_eq 0 number) c.below))
cut_leaf (suc (suc s)) number c = let none = c.there in cc

single-at : (x y k : ℕ) → k < 1 → get_or (x ∷ []) k y ≡ y → x ≡ y
single-at x y zero lt e = e
single-at x y (suc k) lt e = absurd (omega arith)

single : (x y : ℕ) → Contains (x ∷ []) y → x ≡ y
single x y c = single-at x y c.0 c.1 c.2

takes_nothing : (m n : ℕ) → Takes cut_or m n → ⊥
takes_nothing zero zero h = let is = single 0 h.0 h.1 in let from = h.2 in absurd (omega (arith, is, from))
takes_nothing zero (suc n) h = absurd h
takes_nothing (suc m) n h = absurd h

pub cut_or-valid : IsValidJob cut_or
unfolding IsDistinct nodes_of tree_kind
cut_or-valid = record {
  resource_names = tt;
  member_names_differ = ((refl, (refl, tt)), ((refl, tt), (tt, tt)));
  handle_names_differ = ((refl, tt), (tt, tt));
  numbered = (refl, tt);
  inputs = ((omega arith, tt), tt);
  inputs_differ = ((tt, tt), tt);
  resources = (tt, tt);
  resources_differ = (tt, tt);
  acyclic = forward-acyclic cut_or ((omega arith, tt), tt);
  expressions = ((((Operation Div (Literal (pos 1)) (Held 0), refl, refl, omega arith), tt), tt), tt);
  members = (omega arith, (omega arith, tt));
  forest = (tt, tt);
  top_is_no_member = not_top;
  top = omega arith;
  nested = nested;
  cuts = record {
    kind = (λ h. cc, (λ h. (refl, refl), tt));
    one_leaf = λ s number c. ap (λ n. count_by (nat_eq n) (0 ∷ [])) (sym (cut_leaf s number c).1);
    takers = λ s m n c t. absurd (takes_nothing m n t);
  };
  limits = record {
    algorithms = omega arith;
    sequences = omega arith;
    resources = omega arith;
    handles = omega arith;
    leaves = omega arith;
    cardinalities = (omega arith, tt);
    units = tt;
  };
}
  where
    nested : (s : ℕ) → s < length cut_or.sequences → IsNestedWithin 64 cut_or.sequences (Seq s)
    nested zero h = tt
    nested (suc zero) h = (tt, (tt, tt))
    nested (suc (suc s)) h = absurd (omega (arith, h))

    not_top : Contains {X = ℕ} (0 ∷ []) 1 → ⊥
    not_top c = let is = single 0 1 c in absurd (omega (arith, is))

-- refused

pub own_member-refused : IsValidJob own_member → ⊥
own_member-refused valid = nested-no_cycle 64 own_member.sequences valid.nested 1 ([], (0, omega arith, refl))

pub own_output-refused : IsValidJob own_output → ⊥
own_output-refused valid = valid.acyclic 0 ([], (0, (0, omega arith, refl), omega arith, omega arith))

-- each sequence of a tower but the last has the next one as its member

stands : (last : Sequence) (from height n : ℕ) → n < height →
    slice_get (map above_next (range_with_len from height) ++ last ∷ []) n ≡ Some (above_next (from + n))
stands last from zero n h = absurd (omega arith)
stands last from (suc height) zero h = let here : from ≡ from + 0 = omega arith in ap (λ k. Some (above_next k)) here
stands last from (suc height) (suc n) h =
    let there : from + 1 + n ≡ from + suc n = omega arith in stands last (from + 1) height n (omega arith) ∙ ap (λ k. Some (above_next k)) there

ends : (last : Sequence) (from height : ℕ) → slice_get (map above_next (range_with_len from height) ++ last ∷ []) height ≡ Some last
ends last from zero = refl
ends last from (suc height) = ends last (from + 1) height

follows : (height n : ℕ) → n < height → HasMember (tower height) n (n + 1)
follows height n h =
    let P : Option Sequence → Type 0 = λ o. IsSomeAnd o (λ q. Contains q.members (Seq (n + 1))) in
    let same : 0 + n ≡ n = omega arith in
    subst P (sym (stands (plain_sequence (height ∷ []) []) 0 height n h)) (0, omega arith, ap (λ k. Seq (k + 1)) same)

climb : (height n k : ℕ) → n + k ≤ height → IsChain (HasMember (tower height)) n (range_with_len (n + 1) k)
climb height n zero h = tt
climb height n (suc k) h = (follows height n (omega arith), climb height (n + 1) k (omega arith))

tower-deep : (height : ℕ) → IsNestedWithin height (tower height) (Seq 0) → ⊥
tower-deep height nested =
    let from : range_with_len (0 + 1) height ≡ range_with_len 1 height = refl in
    let short = nested-deep height (tower height) 0 nested (range_with_len (0 + 1) height) (climb height 0 height (omega arith)) in
    let long = length-range_with_len (0 + 1) height in
    absurd (omega (arith, short, long))

-- from any of its sequences on, a tower is as deep as there are sequences left

nests : (depth : ℕ) (sequences : List Sequence) → Option Sequence → Type 0
nests depth sequences o = MatchOption o ⊥ (λ q. AllByRecursion (IsNestedWithin depth sequences) q.members)

pub tower-nested : (height k n : ℕ) → n + k ≡ height → IsNestedWithin (suc k) (tower height) (Seq n)
unfolding nests
tower-nested height zero n e =
    let last : n ≡ height = omega (arith, e) in
    let found : slice_get (tower height) n ≡ Some (plain_sequence (height ∷ []) []) =
    ap (slice_get (tower height)) last ∙ ends (plain_sequence (height ∷ []) []) 0 height in
    subst (nests 0 (tower height)) (sym found) tt
tower-nested height (suc k) n e =
    let found : slice_get (tower height) n ≡ Some (above_next (0 + n)) =
    stands (plain_sequence (height ∷ []) []) 0 height n (omega (arith, e)) in
    let next : n + 1 ≡ 0 + n + 1 = omega arith in
    let below : IsNestedWithin (suc k) (tower height) (Seq (0 + n + 1)) =
    subst (λ m. IsNestedWithin (suc k) (tower height) (Seq m)) next (tower-nested height k (n + 1) (omega (arith, e))) in
    subst (nests (suc k) (tower height)) (sym found) (below, tt)

some : (height : ℕ) → 0 < length (tower height)
some height = let all = length-append (map above_next (range_with_len 0 height)) (plain_sequence (height ∷ []) [] ∷ []) in omega (arith, all)

pub too_deep-refused : IsValidJob too_deep → ⊥
too_deep-refused valid = tower-deep 64 (valid.nested 0 (some 64))
