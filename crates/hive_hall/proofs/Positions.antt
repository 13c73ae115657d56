-- A participant's own positions, as its history grows.
use Rattle.std.proofs.Common.{◌≡◌, ℕ, suc, zero, ◌-◌, ◌<◌, ◌≤◌, List, [], ◌∷◌, ◌++◌, length, slice_get, Some, refl, sym, ap, ◌∙◌, subst, ⊎_elim, arith, append-nil, length-append}
use Rattle.std.proofs.lemmas.Bool.{cases_lt}
use Rattle.std.proofs.lemmas.Option.{none-some, same_Some}
use Rattle.std.specs.List.{range_with_len}
use mathlib.Core.List.{IsPrefix}
use Rattle.hive_model.proofs.Lists.{slice_get-append_back, slice_get-append_front}
use Rattle.hive_model.specs.History.{IsParticipant, Participant, positions_added}
use Rattle.hive_model.specs.declared.item.Item.{Item}
use Rattle.turn_lock.specs.History.{MayFollow}

-- an element of a list with one more is one of the list, or the last
at-end : (xs : List ℕ) (x i m : ℕ) → slice_get (xs ++ x ∷ []) i ≡ Some m → length xs ≤ i →
    (i ≡ length xs) × (m ≡ x)
at-end xs x i m there past = go (i - length xs) refl (sym (slice_get-append_back xs (x ∷ []) i past) ∙ there)
  where
    go : (k : ℕ) → i - length xs ≡ k → slice_get (x ∷ []) (i - length xs) ≡ Some m →
        (i ≡ length xs) × (m ≡ x)
    go zero is at = (omega arith, sym (same_Some x m (ap (slice_get (x ∷ [])) (sym is) ∙ at)))
    go (suc k) is at = absurd (none-some m (ap (slice_get (x ∷ [])) (sym is) ∙ at))

-- no position was added
none-added : (own : List ℕ) (held after : List Item) → after ≡ held → own ++ positions_added held after ≡ own
none-added own held after same =
    let none : length after - length held ≡ 0 = omega (arith, ap length same) in
    ap (λ n. own ++ range_with_len (length held) n) none ∙ append-nil own

one-added : (own : List ℕ) (held after : List Item) (item : Item) → after ≡ held ++ item ∷ [] →
    own ++ positions_added held after ≡ own ++ length held ∷ []
one-added own held after item more =
    let one : length after - length held ≡ 1 = omega (arith, ap length more, length-append held (item ∷ [])) in
    ap (λ n. own ++ range_with_len (length held) n) one

module _ {R : Type 0} where
  pub same-participant : (p q : Participant R) → q.seen ≡ p.seen → q.own ≡ p.own → IsParticipant p → IsParticipant q
  same-participant p q seen own it = record {
    increasing = λ i j m n less a b. it.increasing i j m n less (ap (λ l. slice_get l i) (sym own) ∙ a)
        (ap (λ l. slice_get l j) (sym own) ∙ b);
    within = λ i n a. subst (λ l. n < length l) (sym seen) (it.within i n (ap (λ l. slice_get l i) (sym own) ∙ a));
  }

  -- it has seen more
  later-participant : (p q : Participant R) → length p.seen ≤ length q.seen → q.own ≡ p.own → IsParticipant p →
      IsParticipant q
  later-participant p q longer own it = record {
    increasing = λ i j m n less a b. it.increasing i j m n less (ap (λ l. slice_get l i) (sym own) ∙ a)
        (ap (λ l. slice_get l j) (sym own) ∙ b);
    within = λ i n a. let h = it.within i n (ap (λ l. slice_get l i) (sym own) ∙ a) in omega arith;
  }

  -- it has seen more, and owns one position behind all that it had seen
  more-participant : (p q : Participant R) (x : ℕ) → length p.seen ≤ x → x < length q.seen → q.own ≡ p.own ++ x ∷ [] →
      IsParticipant p → IsParticipant q
  more-participant p q x behind within own it = record {
    increasing = λ i j m n less a b.
        ordered i j m n less (ap (λ l. slice_get l i) (sym own) ∙ a) (ap (λ l. slice_get l j) (sym own) ∙ b);
    within = λ i n a. inside i n (ap (λ l. slice_get l i) (sym own) ∙ a);
  }
    where
      front : (i m : ℕ) → slice_get (p.own ++ x ∷ []) i ≡ Some m → i < length p.own → slice_get p.own i ≡ Some m
      front i m a less = sym (slice_get-append_front p.own (x ∷ []) i less) ∙ a

      inside : (i n : ℕ) → slice_get (p.own ++ x ∷ []) i ≡ Some n → n < length q.seen
      inside i n a = ⊎_elim
          (λ (less : i < length p.own). let h = it.within i n (front i n a less) in omega arith)
          (λ (past : length p.own ≤ i). let e = at-end p.own x i n a past in omega (arith, e.1))
          (cases_lt i (length p.own))

      ordered : (i j m n : ℕ) → i < j → slice_get (p.own ++ x ∷ []) i ≡ Some m →
          slice_get (p.own ++ x ∷ []) j ≡ Some n → m < n
      ordered i j m n less a b = ⊎_elim
          (λ (near : j < length p.own).
          it.increasing i j m n less (front i m a (omega arith)) (front j n b near))
          (λ (past : length p.own ≤ j).
          let e = at-end p.own x j n b past in
          let first : i < length p.own = omega (arith, e.0) in
          let h = it.within i m (front i m a first) in
          omega (arith, e.1))
          (cases_lt j (length p.own))

  -- it has seen the history that it held, with one item more or none, and owns the position of that
  pub grown-participant : (p q : Participant R) (held : List Item) → IsPrefix p.seen held → MayFollow held q.seen →
      q.own ≡ p.own ++ positions_added held q.seen → IsParticipant p → IsParticipant q
  grown-participant p q held begins follows own it =
      let shorter : length p.seen ≤ length held = omega (arith, length-append p.seen begins.0, ap length begins.1) in
      ⊎_elim
      (λ (same : q.seen ≡ held).
      later-participant p q (omega (arith, ap length same)) (own ∙ none-added p.own held q.seen same) it)
      (λ (more : (x : Item) × (q.seen ≡ held ++ x ∷ [])).
      more-participant p q (length held) shorter
      (omega (arith, ap length more.1, length-append held (more.0 ∷ [])))
      (own ∙ one-added p.own held q.seen more.0 more.1) it)
      follows
