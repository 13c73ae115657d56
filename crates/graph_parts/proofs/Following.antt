-- A search that follows targets, one after another.
use Rattle.std.proofs.Common.{◌≡◌, ◌≢◌, ℕ, zero, suc, ◌+◌, ◌<◌, ◌≤◌, Bool, if◌then◌else◌, true, false, List, [], ◌∷◌, ◌++◌, length, get_or, set, take, All, refl, ap, sym, ◌∙◌, subst, ⊎_elim, inl, inr, append_assoc, arith}
use Rattle.std.proofs.lemmas.Bool.{cases_eq}
use Rattle.std.proofs.lemmas.List.{append-nil, length-set, length_push, get_or-set_same, get_or-set_other, set-get_or, take_more}
use Rattle.std.proofs.lemmas.List.Elements.{All-nil, All-push, All-weaker, Contains-append_left, Contains-push}
use Rattle.std.specs.List.{Contains}
use Rattle.graph_parts.specs.Following.{Follows, is_seen, seen_count, found_with}

pub follows-none : (from : ℕ) (seen : List Bool) (found : List ℕ) → Follows [] from seen found seen found
follows-none from seen found = record {
  size = refl;
  kept = λ n e. e;
  extra = [];
  grown = sym (append-nil found);
  among = All-nil (Contains []);
  reached = All-nil (λ t. (is_seen seen t ≡ true) × (t ≢ from));
  listed = λ n e. inl e;
  many = refl;
}

-- a target that was seen
follows-seen : (xs : List ℕ) (t from : ℕ) (seen now : List Bool) (found all : List ℕ) → Follows xs from seen found now all →
    is_seen now t ≡ true → t ≢ from → Follows (xs ++ t ∷ []) from seen found now all
follows-seen xs t from seen now found all h e other = record {
  size = h.size;
  kept = h.kept;
  extra = h.extra;
  grown = h.grown;
  among = All-weaker (Contains xs) (Contains (xs ++ t ∷ [])) (λ x it. Contains-append_left xs (t ∷ []) x it) h.extra h.among;
  reached = All-push (λ t. (is_seen now t ≡ true) × (t ≢ from)) xs t h.reached (e, other);
  listed = h.listed;
  many = h.many;
}

seen-set : (seen : List Bool) (t n : ℕ) → t < length seen → is_seen seen n ≡ true → is_seen (set seen t true) n ≡ true
seen-set seen t n h e =
    ⊎_elim (λ (same : n ≡ t). rw same (get_or-set_same seen t true false h)) (λ other. get_or-set_other seen t n true false other ∙ e) (cases_eq n t)

count-set : (seen : List Bool) (t : ℕ) → t < length seen → is_seen seen t ≡ false → seen_count (set seen t true) ≡ seen_count seen + 1
count-set [] t h e = absurd (omega arith)
count-set (true ∷ seen) zero h e = cc
count-set (false ∷ seen) zero h e = omega arith
count-set (true ∷ seen) (suc t) h e = let later = count-set seen t (omega arith) e in omega (arith, later)
count-set (false ∷ seen) (suc t) h e = count-set seen t (omega arith) e

pub count-le : (seen : List Bool) → seen_count seen ≤ length seen
count-le [] = omega arith
count-le (true ∷ seen) = let later = count-le seen in omega (arith, later)
count-le (false ∷ seen) = let later = count-le seen in omega (arith, later)

-- one that is new
follows-new : (xs : List ℕ) (t from : ℕ) (seen now : List Bool) (found all : List ℕ) → Follows xs from seen found now all →
    t < length now → is_seen now t ≡ false → t ≢ from → Follows (xs ++ t ∷ []) from seen found (set now t true) (all ++ t ∷ [])
follows-new xs t from seen now found all h within e other = record {
  size = length-set now t true ∙ h.size;
  kept = λ n it. seen-set now t n within (h.kept n it);
  extra = h.extra ++ t ∷ [];
  grown = ap (λ (them : List ℕ). them ++ t ∷ []) h.grown ∙ append_assoc found h.extra (t ∷ []);
  among = All-push (Contains (xs ++ t ∷ [])) h.extra t
      (All-weaker (Contains xs) (Contains (xs ++ t ∷ [])) (λ x it. Contains-append_left xs (t ∷ []) x it) h.extra h.among) (Contains-push xs t);
  reached = All-push (λ u. (is_seen (set now t true) u ≡ true) × (u ≢ from)) xs t
      (All-weaker (λ u. (is_seen now u ≡ true) × (u ≢ from)) (λ u. (is_seen (set now t true) u ≡ true) × (u ≢ from)) (λ x it. (seen-set now t x within it.0, it.1)) xs h.reached)
      (get_or-set_same now t true false within, other);
  listed = λ n it. ⊎_elim
      (λ (same : n ≡ t). inr (rw same (Contains-push h.extra t)))
      (λ (apart : n ≡ t → ⊥). ⊎_elim (λ old. inl old) (λ new. inr (Contains-append_left h.extra (t ∷ []) n new))
      (h.listed n (sym (get_or-set_other now t n true false apart) ∙ it)))
      (cases_eq n t);
  many = let more = count-set now t within e in let longer = length_push all t in let before = h.many in omega (arith, more, longer);
}

-- any target
pub follows-more : (xs : List ℕ) (t from : ℕ) (seen now : List Bool) (found all : List ℕ) → Follows xs from seen found now all → t < length now → t ≢ from →
    Follows (xs ++ t ∷ []) from seen found (set now t true) (found_with now all t)
follows-more xs t from seen now found all h within other = by (is_seen now t) refl
  where
    by : (b : Bool) → is_seen now t ≡ b → Follows (xs ++ t ∷ []) from seen found (set now t true) (if b then all else all ++ t ∷ [])
    by true e =
        let same : set now t true ≡ now = ap (set now t) (sym e) ∙ set-get_or now t false in
        subst (λ (them : List Bool). Follows (xs ++ t ∷ []) from seen found them all) (sym same) (follows-seen xs t from seen now found all h e other)
    by false e = follows-new xs t from seen now found all h within e other

pub follows-next : (targets : List ℕ) (i from : ℕ) (seen now later : List Bool) (found all more : List ℕ) → All (λ t. t < length seen) targets →
    Follows (take i targets) from seen found now all → i < length targets → get_or targets i 0 ≢ from → later ≡ set now (get_or targets i 0) true →
    more ≡ found_with now all (get_or targets i 0) → Follows (take (i + 1) targets) from seen found later more
follows-next targets i from seen now later found all more within h lt other e f =
    let inside : get_or targets i 0 < length now = let a = within i 0 lt in let b = h.size in omega (arith, a, b) in
    rw (take_more targets i 0 lt, e, f) (follows-more (take i targets) (get_or targets i 0) from seen now found all h inside other)
