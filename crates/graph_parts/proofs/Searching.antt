-- A search from one number, at each moment: the numbers found so far, each led to in as many steps as stand before it, and the
-- targets of those that were gone through. At its end it tells whether the number leads back to itself.
use Rattle.std.proofs.Common.{◌≡◌, ◌≢◌, ◌⊎◌, ℕ, zero, suc, ◌+◌, ◌-◌, ◌<◌, ◌≤◌, Bool, true, false, List, [], ◌∷◌, ◌++◌, length, get_or, set, replicate, All, refl, ap, sym, ◌∙◌, subst, ⊎_elim, inl, inr, length-append, add-one, arith, Global}
use Rattle.std.proofs.lemmas.Bool.{cases_eq, cases_lt}
use Rattle.std.proofs.lemmas.List.{length-set, length-replicate, get_or-replicate, get_or_append_left, get_or-append_right, get_or-set_same, get_or-set_other, get_or_default, get_or_past}
use Rattle.std.proofs.lemmas.List.Elements.{All-append, All-weaker, All-get_or, All-contains, Contains-append_left, Contains-append_right, Contains-get_or}
use Rattle.graph_parts.proofs.Following.{count-le}
use Rattle.std.specs.List.{Contains}
use Rattle.std.specs.declared.vec.Vec.{Vec}
use Rattle.text_model.specs.Walks.{leads_within, is_on_cycle}
use Rattle.graph_parts.proofs.Leading.{leads-more, leads-one, leads-on, leads-never, links-within}
use Rattle.graph_parts.specs.Following.{Follows, is_seen, seen_count}
use Rattle.graph_parts.specs.Links.{links, AreWithin}

pub record IsSearched (next : List (Vec ℕ Global)) (from : ℕ) (seen : List Bool) (found : List ℕ) (at : ℕ) : Type 0 where
  pub size : length seen ≡ length next
  pub many : length found ≡ seen_count seen
  pub some : 0 < length found
  pub head : (d : ℕ) → get_or found 0 d ≡ from
  pub own : is_seen seen from ≡ true
  pub within : All (λ n. n < length next) found
  pub led : (i d : ℕ) → 0 < i → i < length found → leads_within (links next) i from (get_or found i d) ≡ true
  pub listed : (n : ℕ) → is_seen seen n ≡ true → Contains found n
  pub scanned : (i d : ℕ) → i < at → i < length found → All (λ t. (is_seen seen t ≡ true) × (t ≢ from)) (links next (get_or found i d))

-- what a vector at a number holds is what the number leads to
pub links-at : (next : List (Vec ℕ Global)) (n : ℕ) (v : Vec ℕ Global) → n < length next → v ≡ get_or next n v → links next n ≡ v.items
links-at [] n v h e = absurd (omega arith)
links-at (w ∷ next) zero v h e = ap (λ (it : Vec ℕ Global). it.items) (sym e)
links-at (w ∷ next) (suc n) v h e = links-at next n v (omega arith) e

none-seen : (n : ℕ) → seen_count (replicate n false) ≡ 0
none-seen zero = refl
none-seen (suc n) = none-seen n

one-seen : (n t : ℕ) → t < n → seen_count (set (replicate n false) t true) ≡ 1
one-seen zero t h = absurd (omega arith)
one-seen (suc n) zero h = ap suc (none-seen n)
one-seen (suc n) (suc t) h = one-seen n t (omega arith)

begun : (next : List (Vec ℕ Global)) (from : ℕ) → from < length next → IsSearched next from (set (replicate (length next) false) from true) (from ∷ []) 0
begun next from h = record {
  size = length-set (replicate (length next) false) from true ∙ length-replicate (length next) false;
  many = sym (one-seen (length next) from h);
  some = omega arith;
  head = λ d. refl;
  own = get_or-set_same (replicate (length next) false) from true false (rw (length-replicate (length next) false) h);
  within = λ k d lt. let zero_is : k ≡ 0 = omega arith in rw zero_is h;
  led = λ i d positive lt. absurd (omega arith);
  listed = λ n it. ⊎_elim (λ (same : n ≡ from). rw same (0, omega arith, refl))
      (λ (other : n ≡ from → ⊥). absurd (let dark = sym (get_or-set_other (replicate (length next) false) from n true false other ∙ unseen n) ∙ it in cc))
      (cases_eq n from);
  scanned = λ i d lt. absurd (omega arith);
}
  where
    unseen : (n : ℕ) → get_or (replicate (length next) false) n false ≡ false
    unseen n = ⊎_elim (λ (lt : n < length next). get_or-replicate (length next) n false false lt)
        (λ past. get_or_past (replicate (length next) false) n false (rw (length-replicate (length next) false) past)) (cases_lt n (length next))

pub searched-none : (next : List (Vec ℕ Global)) (from : ℕ) (seen : List Bool) (found : List ℕ) → from < length next →
    seen ≡ replicate (length next) false → found ≡ from ∷ [] → IsSearched next from (set seen from true) found 0
searched-none next from seen found h dark one = rw (dark, one) (begun next from h)

-- what the number at a place leads to is led to in one step more
led-on : (next : List (Vec ℕ Global)) (from at t m : ℕ) (seen : List Bool) (found : List ℕ) → IsSearched next from seen found at → at < length found →
    Contains (links next (get_or found at 0)) t → at < m → leads_within (links next) m from t ≡ true
led-on next from zero t m seen found h lt there less =
    leads-more (links next) 1 m from t (omega arith) (leads-one (links next) 0 from t (rw (h.head 0) at there))
led-on next from (suc at) t m seen found h lt there less =
    leads-more (links next) (suc (suc at)) m from t (omega arith)
    (leads-on (links next) (suc at) from (get_or found (suc at) 0) t (h.led (suc at) 0 (omega arith) lt) there)

pub searched-more : (next : List (Vec ℕ Global)) (from at : ℕ) (seen now : List Bool) (found all : List ℕ) → AreWithin next → IsSearched next from seen found at →
    at < length found → Follows (links next (get_or found at 0)) from seen found now all → IsSearched next from now all (at + 1)
searched-more next from at seen now found all inside h lt f = subst (λ (them : List ℕ). IsSearched next from now them (at + 1)) (sym f.grown) (record {
  size = f.size ∙ h.size;
  many = let a = f.many in let b = h.many in let c = ap length f.grown in omega (arith, a, b, c);
  some = let s = h.some in let l = length-append found f.extra in omega (arith, s, l);
  head = λ d. get_or_append_left found f.extra d 0 h.some ∙ h.head d;
  own = f.kept from h.own;
  within = All-append (λ n. n < length next) found f.extra h.within
      (All-weaker (Contains (links next (get_or found at 0))) (λ n. n < length next)
      (λ t there. All-contains (λ n. n < length next) (links next (get_or found at 0)) t (links-within (length next) next (get_or found at 0) inside) there) f.extra f.among);
  led = λ i d positive less. led i d positive less (cases_lt i (length found));
  listed = λ n it. ⊎_elim (λ old. Contains-append_left found f.extra n (h.listed n old)) (λ new. Contains-append_right found f.extra n new) (f.listed n it);
  scanned = λ i d less there. scanned i d less there (cases_lt i at);
})
  where
    targets : List ℕ
    targets = links next (get_or found at 0)

    led : (i d : ℕ) → 0 < i → i < length (found ++ f.extra) → (i < length found) ⊎ (length found ≤ i) → leads_within (links next) i from (get_or (found ++ f.extra) i d) ≡ true
    led i d positive less (inl old) = rw (get_or_append_left found f.extra d i old) (h.led i d positive old)
    led i d positive less (inr new) =
        let size = length-append found f.extra in
        let inside_extra : i - length found < length f.extra = omega (arith, size) in
        rw (get_or-append_right found f.extra (length found) i d refl new)
        (led-on next from at (get_or f.extra (i - length found) d) i seen found h lt
        (f.among (i - length found) d inside_extra) (omega arith))

    scanned : (i d : ℕ) → i < at + 1 → i < length (found ++ f.extra) → (i < at) ⊎ (at ≤ i) →
        All (λ t. (is_seen now t ≡ true) × (t ≢ from)) (links next (get_or (found ++ f.extra) i d))
    scanned i d less there (inl before) =
        let in_found : i < length found = omega arith in
        rw (get_or_append_left found f.extra d i in_found)
        (All-weaker (λ t. (is_seen seen t ≡ true) × (t ≢ from)) (λ t. (is_seen now t ≡ true) × (t ≢ from)) (λ t it. (f.kept t it.0, it.1))
        (links next (get_or found i d)) (h.scanned i d before in_found))
    scanned i d less there (inr here) =
        let same : i ≡ at = omega arith in
        rw (same, get_or_append_left found f.extra d at lt, get_or_default found at d 0 lt) f.reached

-- at the end

-- it came back to the number
pub searched-back : (next : List (Vec ℕ Global)) (from at : ℕ) (seen : List Bool) (found : List ℕ) → IsSearched next from seen found at → at < length found →
    at < length next → Contains (links next (get_or found at 0)) from → true ≡ is_on_cycle (links next) (length next) from
searched-back next from at seen found h lt less there = sym (led-on next from at from (length next) seen found h lt there less)

pub searched-never : (next : List (Vec ℕ Global)) (from at : ℕ) (seen : List Bool) (found : List ℕ) → IsSearched next from seen found at → length found ≤ at →
    (steps : ℕ) → leads_within (links next) steps from from ≡ false
searched-never next from at seen found h all steps =
    leads-never (links next) from (λ n. is_seen seen n ≡ true) closed steps from h.own
  where
    closed : (n : ℕ) → is_seen seen n ≡ true → All (λ t. (is_seen seen t ≡ true) × (t ≢ from)) (links next n)
    closed n it =
        let place = h.listed n it in
        let inside : place.0 < length found = place.1 in
        subst (λ (m : ℕ). All (λ t. (is_seen seen t ≡ true) × (t ≢ from)) (links next m)) place.2 (h.scanned place.0 n (omega arith) inside)

-- no more numbers are found than there are
pub searched-few : (next : List (Vec ℕ Global)) (from at : ℕ) (seen : List Bool) (found : List ℕ) → IsSearched next from seen found at → length found ≤ length next
searched-few next from at seen found h = let a = h.many in let b = h.size in let c = count-le seen in omega (arith, a, b, c)

-- the same, where the targets are those of the vector that is read

targets-are : (next : List (Vec ℕ Global)) (from at : ℕ) (seen : List Bool) (found : List ℕ) (v : Vec ℕ Global) (targets : List ℕ) →
    IsSearched next from seen found at → at < length found → v ≡ get_or next (get_or found at 0) v → targets ≡ v.items → targets ≡ links next (get_or found at 0)
targets-are next from at seen found v targets h lt e same = same ∙ sym (links-at next (get_or found at 0) v (h.within at 0 lt) e)

pub searched-back-by : (next : List (Vec ℕ Global)) (from at : ℕ) (seen : List Bool) (found : List ℕ) (v : Vec ℕ Global) (targets : List ℕ) →
    IsSearched next from seen found at → at < length found → at < length next → v ≡ get_or next (get_or found at 0) v → targets ≡ v.items →
    Contains targets from → true ≡ is_on_cycle (links next) (length next) from
searched-back-by next from at seen found v targets h lt less e same there =
    searched-back next from at seen found h lt less
    (subst (λ (them : List ℕ). Contains them from) (targets-are next from at seen found v targets h lt e same) there)

pub searched-more-by : (next : List (Vec ℕ Global)) (from at : ℕ) (seen now : List Bool) (found all : List ℕ) (v : Vec ℕ Global) (targets : List ℕ) → AreWithin next →
    IsSearched next from seen found at → at < length found → v ≡ get_or next (get_or found at 0) v → targets ≡ v.items →
    Follows targets from seen found now all → IsSearched next from now all (at + 1)
searched-more-by next from at seen now found all v targets inside h lt e same f =
    searched-more next from at seen now found all inside h lt
    (subst (λ (them : List ℕ). Follows them from seen found now all) (targets-are next from at seen found v targets h lt e same) f)
