-- The lock at its beginning, and at its end, when one pass has all rights.
use Rattle.std.proofs.Common.{◌≡◌, ℕ, zero, suc, ◌+◌, ◌^◌, ◌<◌, List, [], ◌∷◌, ◌++◌, length, Option, Some, None, refl, sym, ap, ◌∙◌, subst, arith}
use mathlib.Core.List.{IsPrefix}
use mathlib.Core.Option.{some, some-injective, some-ne-none}
use lib.ListN.{get_elem?}
use Rattle.atomic_table.specs.Table.{opening, Final, Seen}
use Rattle.turn_lock.specs.declared.view.Knows.{Knows}
use Rattle.turn_lock.specs.declared.view.Stage.TheVariants.{Idle}
use Rattle.turn_lock.specs.History.{times, below}
use Rattle.turn_lock.specs.View.{ticket_of, queued, IsOut, newcomer, rights_held, tickets_held, owners}
use Rattle.turn_lock.specs.Tickets.{Fits, Turns}
use Rattle.turn_lock.proofs.Sums.{part-le, alone}
use Rattle.turn_lock.proofs.Prefixes.{prefix_refl}
use Rattle.turn_lock.proofs.Seats.{Each, AreApart, out_queued}

only : {A : Type 0} (P : A → Type 0) (x : A) → P x → Each P (x ∷ [])
only P x holds zero u at = subst P (some-injective x u at) holds
only P x holds (suc j) u at = absurd (some-ne-none u (sym at))

only_apart : {I : Type 0} (v : Knows I) → ticket_of v.stage ≡ None → AreApart (v ∷ [])
only_apart {I} v idle i j t a b ai bj ta tb =
    let none : ticket_of a.stage ≡ None = only (λ (u : Knows I). ticket_of u.stage ≡ None) v idle i a ai in
    absurd (cc)

module _ {V I : Type 0} (list : V → List I) where
  abbrev K : Type 0
  K = Knows I

  opens_with : (value : V) (rights count : ℕ) → rights < 2 ^ 32
      → count ≡ length (list value) → length (list value) < 2 ^ 64
      → Turns list rights (length (list value))
      (opening (0 ∷ 0 ∷ count ∷ []) (Some value ∷ []) (newcomer rights (list value)))
  opens_with value rights count few is small =
      let v : K = newcomer rights (list value) in record {
        drawn = 0;
        served = 0;
        history = list value;
        words = ap (λ n. 0 ∷ 0 ∷ n ∷ []) is;
        small = small;
        one_slot = refl;
        few = few;
        all_rights = omega arith;
        queue = refl;
        apart = only_apart v refl;
        each = only (Fits 0 0 (list value)) v
            (record {
              seen = prefix_refl (list value);
              told = (list value, refl);
              stands = tt;
              enough = omega arith;
              spent = λ _. refl;
            });
        home = λ _. (value, refl, refl);
        owned = λ p. omega arith;
      }

  -- the value was put into the one slot, and it is the one that the lock was told
  pub opens : (value told : V) (before slots : List (Option V)) (rights count : ℕ) → told ≡ value
      → before ≡ [] → slots ≡ before ++ Some value ∷ []
      → rights < 2 ^ 32 → count ≡ length (list value) → length (list value) < 2 ^ 64
      → Turns list rights (length (list told)) (opening (0 ∷ 0 ∷ count ∷ []) slots (newcomer rights (list told)))
  opens value told before slots rights count same empty put few is small =
      let Opened : V × List (Option V) → Type 0 = λ x.
      Turns list rights (length (list x.0)) (opening (0 ∷ 0 ∷ count ∷ []) x.1 (newcomer rights (list x.0))) in
      let lies : slots ≡ Some value ∷ [] = put ∙ ap (λ l. l ++ Some value ∷ []) empty in
      subst Opened (λ i. (sym same i, sym lies i)) (opens_with value rights count few is small)

  -- what `close` promises of the value, to a pass with all rights
  abbrev pub IsLast : ℕ → K → V → Type 0
  IsLast from v x = IsPrefix v.seen (list x) × (length (list x) < 2 ^ 64)
      × ((p : ℕ) → times p v.own + below p from ≡ below p (length (list x)))

  -- an idle pass with all rights: no other has any, so nobody holds the value
  pub closes : (rights from id : ℕ) (v : K) (words : List ℕ) (slots : List (Option V)) (result : Option V)
      → v.stage ≡ Idle → v.rights ≡ rights → Final (Seen (Turns list rights from) id v) words slots
      → get_elem? slots 0 ≡ some result → (x : V) × (result ≡ Some x) × IsLast from v x
  closes rights from id v words slots result idle all end lies =
      let s = end.0 in
      let r = end.1.0 in
      let at = end.1.1 in
      let whole : rights_held s.views ≡ v.rights = r.all_rights ∙ sym all in
      let queue : tickets_held s.views ≡ queued v.stage =
      alone (λ (u : K). u.rights) (λ (u : K). queued u.stage) s.views id v
      (λ j u there no_rights. let enough = (r.each j u there).enough in omega arith) at whole in
      let none : queued v.stage ≡ 0 = ap queued idle in
      let nobody : Each (λ (u : K). ¬ IsOut u.stage) s.views = λ j u there out.
      let part = part-le (λ (y : K). queued y.stage) s.views j u there in
      let is = out_queued u.stage out in
      absurd (omega arith) in
      let x = r.home nobody in
      let own : (p : ℕ) → owners p s.views ≡ times p v.own = λ p.
      alone (λ (u : K). u.rights) (λ (u : K). times p u.own) s.views id v
      (λ j u there no_rights. ap (times p) ((r.each j u there).spent no_rights)) at whole in (
        x.0,
        sym (some-injective (Some x.0) result (sym (end.4 0 (Some x.0) x.1) ∙ lies)),
        (
          subst (IsPrefix v.seen) (sym x.2) (r.each id v at).seen,
          subst (λ h. length h < 2 ^ 64) (sym x.2) r.small,
          λ p. ap (λ n. n + below p from) (sym (own p)) ∙ (r.owned p ∙ ap (λ h. below p (length h)) (sym x.2)),
        ),
      )
