-- The table after a handle has arrived.
use Rattle.std.proofs.Common.{◌≡◌, ◌≢◌, ⊎_elim, ℕ, zero, suc, ◌+◌, ◌<◌, ◌≤◌, nat_eq, Bool, true, false, not, List, [], ◌∷◌, length, get_or, set, refl, ap, sym, subst, ◌∙◌, arith, Option, length-set, get_or-set_other}
use Rattle.std.specs.List.{count_by}
use Rattle.std.proofs.lemmas.Bool.Decides.{eqb_tells}
use Rattle.std.proofs.lemmas.Grind.{get_or-set_at}
use Rattle.std.proofs.lemmas.List.{length-map}
use Rattle.hive_model.specs.Many.{Many}
use Rattle.hive_model.specs.declared.outcome.Outcome.{Outcome}
use Rattle.number_set.specs.declared.NumberSet.{NumberSet}
use Rattle.algo_states.specs.Table.{IsReadySet, IsTable, is_missing, lists_of, mentions}
use Rattle.algo_states.proofs.Mentions.{bit, count-cons, count-none}

-- each mention of the handle is missing no more

one-missing : (arrived : List Bool) (h x : ℕ) → h < length arrived → get_or arrived h false ≡ false →
    bit (is_missing arrived x) ≡ bit (is_missing (set arrived h true) x) + bit (nat_eq h x)
one-missing arrived h x lt new =
    ⊎_elim
    (λ (e : (nat_eq h x ≡ true) × (h ≡ x)).
    let before : bit (is_missing arrived x) ≡ 1 = ap (λ (k : ℕ). bit (is_missing arrived k)) (sym e.1) ∙ ap (λ (b : Bool). bit (not b)) new in
    let after : bit (is_missing (set arrived h true) x) ≡ 0 = ap (λ (b : Bool). bit (not b)) (get_or-set_at arrived h x true false (sym e.1) lt) in
    let one : bit (nat_eq h x) ≡ 1 = ap bit e.0 in
    omega arith)
    (λ (e : (nat_eq h x ≡ false) × (h ≢ x)).
    let after : bit (is_missing (set arrived h true) x) ≡ bit (is_missing arrived x) =
    ap (λ (b : Bool). bit (not b)) (get_or-set_other arrived h x true false (λ same. e.1 (sym same))) in
    let none : bit (nat_eq h x) ≡ 0 = ap bit e.0 in
    omega arith)
    (eqb_tells h x)

missing-less : (arrived : List Bool) (h : ℕ) (xs : List ℕ) → h < length arrived → get_or arrived h false ≡ false →
    count_by (is_missing arrived) xs ≡ count_by (is_missing (set arrived h true)) xs + mentions h xs
missing-less arrived h [] lt new =
    let a = count-none (is_missing arrived) in
    let b = count-none (is_missing (set arrived h true)) in
    let c = count-none (nat_eq h) in
    omega arith
missing-less arrived h (x ∷ xs) lt new =
    let a = count-cons (is_missing arrived) x xs in
    let b = count-cons (is_missing (set arrived h true)) x xs in
    let c = count-cons (nat_eq h) x xs in
    let one = one-missing arrived h x lt new in
    let rest = missing-less arrived h xs lt new in
    omega arith

pub mapped : (consumers : List (Many ℕ)) (m : ℕ) (it : Many ℕ) → m < length consumers → get_or (lists_of consumers) m [] ≡ (get_or consumers m it).items
mapped [] m it lt = absurd (omega arith)
mapped (x ∷ consumers) zero it lt = refl
mapped (x ∷ consumers) (suc m) it lt = mapped consumers m it (omega arith)

pub consumers-read : (consumers : List (Many ℕ)) (h m : ℕ) (it : Many ℕ) (seen : List ℕ) → m ≡ h → m < length consumers → it ≡ get_or consumers m it → seen ≡ it.items →
    seen ≡ get_or (lists_of consumers) h []
consumers-read consumers h m it seen same lt at is =
    is ∙ ap (λ (x : Many ℕ). x.items) at ∙ sym (mapped consumers m it lt)
    ∙ ap (λ (k : ℕ). get_or (lists_of consumers) k []) same

pub within-index : (consumers : List (Many ℕ)) (arrived : List Bool) (h : ℕ) → length (lists_of consumers) ≡ length arrived → h < length arrived →
    h < length consumers
within-index consumers arrived h same lt =
    subst (λ (n : ℕ). h < n) (sym same ∙ length-map consumers (λ (x : Many ℕ). x.items)) lt

module _ (needs consumers : List (List ℕ)) (missing : List ℕ) (reached scheduled : List Bool) (outcomes : List (Option Outcome)) (arrived : List Bool)
    (ready : NumberSet) (h : ℕ) (seen : List ℕ) (it : IsTable needs consumers missing reached scheduled outcomes arrived ready) (lt : h < length arrived)
    (new : get_or arrived h false ≡ false) (is : seen ≡ get_or consumers h []) where
  named : (a : ℕ) → mentions a seen ≡ mentions h (get_or needs a [])
  named a = ap (mentions a) is ∙ it.index a h (omega (arith, lt, it.sizes.indexed))

  pub there-told : (a : ℕ) → mentions a seen ≤ get_or missing a 0
  there-told a =
      let less = missing-less arrived h (get_or needs a []) lt new in
      let count = it.counts a in
      let same = named a in
      omega arith

  pub arrive-told : (later : List ℕ) (after : NumberSet) → length later ≡ length missing → ((a : ℕ) → get_or later a 0 + mentions a seen ≡ get_or missing a 0) →
      IsReadySet reached scheduled outcomes later after → IsTable needs consumers later reached scheduled outcomes (set arrived h true) after
  arrive-told later after len counts ready-set = record {
    sizes = record {
      few = it.sizes.few;
      indexed = it.sizes.indexed ∙ sym (length-set arrived h true);
      counted = len ∙ it.sizes.counted;
      reach = it.sizes.reach;
      schedule = it.sizes.schedule;
      outcome = it.sizes.outcome;
    };
    index = it.index;
    counts = λ a.
        let less = missing-less arrived h (get_or needs a []) lt new in
        let before = it.counts a in
        let now = counts a in
        let same = named a in
        omega arith;
    set = ready-set;
  }
