-- The steps on two passes: one is split, and two are joined.
use Rattle.std.proofs.Common.{◌≡◌, ℕ, ◌≤◌, List, [], ◌∷◌, ◌++◌, length, set, Option, Bool, true, false, cond, nat_lt, refl, sym, ap, ◌∙◌, arith}
use Rattle.std.proofs.lemmas.List.Sums.{sum_by_push}
use mathlib.Core.List.{IsPrefix}
use mathlib.Core.Option.{some}
use lib.ListN.{get_elem?}
use Rattle.atomic_table.specs.Table.{Splits, Joins}
use Rattle.atomic_table.proofs.Lists.{at_longer, set_else}
use Rattle.turn_lock.specs.declared.view.Knows.{Knows}
use Rattle.turn_lock.specs.declared.view.Stage.TheVariants.{Idle}
use Rattle.turn_lock.specs.History.{times, longer, shorter}
use Rattle.turn_lock.specs.View.{queued, IsOut}
use Rattle.turn_lock.specs.Tickets.{Fits, Turns}
use Rattle.turn_lock.specs.Steps.{split_left, split_right, joined, spent}
use Rattle.turn_lock.proofs.Positions.{times-append}
use Rattle.turn_lock.proofs.Seats.{each_set, each_snoc, each_before, rights-set, tickets-set, tickets-kept, owners-set, owners-kept, apart_kept, apart_idle, apart_snoc, not_out}

module _ {I : Type 0} where
  -- what holds of two lists holds of the one with more items, and of the other
  of_either : (P : List I → Type 0) (xs ys : List I) → P xs → P ys → P (longer xs ys) × P (shorter xs ys)
  of_either P xs ys px py = by (nat_lt (length xs) (length ys))
    where
      by : (less : Bool) → P (cond less ys xs) × P (cond less xs ys)
      by true = (py, px)
      by false = (px, py)

module _ {V I : Type 0} (list : V → List I) (rights from : ℕ) where
  abbrev K : Type 0
  K = Knows I

  -- an idle pass with two rights gives one of them to a new pass
  pub splits : (id : ℕ) (v : K) → v.stage ≡ Idle → 2 ≤ v.rights
      → Splits {S = Option V} (Turns list rights from) id v (split_left v) (split_right v)
  splits id v idle two s r at =
      let left : K = split_left v in
      let right : K = split_right v in
      let vs : List K = set s.views id left in
      let f = r.each id v at in
      let queued_is : queued v.stage ≡ 0 = ap queued idle in
      let rights_left = rights-set s.views id v left at in
      let rights_both = sum_by_push (λ (u : K). u.rights) vs right in
      let tickets_left = tickets-kept s.views id v left at refl in
      let tickets_both = sum_by_push (λ (u : K). queued u.stage) vs right in
      let queue = r.queue in
      let all = r.all_rights in record {
        drawn = r.drawn;
        served = r.served;
        history = r.history;
        words = r.words;
        small = r.small;
        one_slot = r.one_slot;
        few = r.few;
        all_rights = omega arith;
        queue = omega arith;
        apart = apart_snoc vs right refl (apart_kept s.views id v left at refl r.apart);
        each = each_snoc (Fits r.drawn r.served r.history) vs right
            (record { seen = f.seen; told = (r.history, refl); stands = tt; enough = omega arith; spent = λ _. refl })
            (each_set (Fits r.drawn r.served r.history) s.views id left
            (record {
              seen = f.seen;
              told = f.told;
              stands = f.stands;
              enough = omega arith;
              spent = λ no_rights. absurd (omega arith);
            })
            (λ j u _ there. r.each j u there));
        home = λ nobody. r.home
            (each_before (λ (u : K). ¬ IsOut u.stage) s.views id v left at (not_out Idle v.stage idle (λ x. x))
            (λ j u there. nobody j u (at_longer vs (right ∷ []) j u there)));
        owned = λ p.
            let own_left = owners-kept s.views id v left at refl p in
            let own_both = sum_by_push (λ (u : K). times p u.own) vs right in
            let owned = r.owned p in
            omega arith;
      }

  -- an idle pass takes in another, which is spent
  pub joins : (id : ℕ) (v : K) (other : ℕ) (w : K) → v.stage ≡ Idle → w.stage ≡ Idle
      → Joins {S = Option V} (Turns list rights from) id v other w (joined v w) spent
  joins id v other w v_idle w_idle s r at apart there =
      let both : K = joined v w in
      let none : K = spent in
      let vs : List K = set s.views id both in
      let was : get_elem? s.views other ≡ some w = sym (set_else s.views id other both apart) ∙ there in
      let f = r.each id v at in
      let g = r.each other w was in
      let v_queued : queued v.stage ≡ 0 = ap queued v_idle in
      let w_queued : queued w.stage ≡ 0 = ap queued w_idle in
      let rights_both = rights-set s.views id v both at in
      let rights_spent = rights-set vs other w none there in
      let tickets_both = tickets-kept s.views id v both at refl in
      let tickets_spent = tickets-set vs other w none there in
      let queue = r.queue in
      let all = r.all_rights in
      let seen = of_either (λ xs. IsPrefix xs r.history) v.seen w.seen f.seen g.seen in record {
        drawn = r.drawn;
        served = r.served;
        history = r.history;
        words = r.words;
        small = r.small;
        one_slot = r.one_slot;
        few = r.few;
        all_rights = omega arith;
        queue = omega arith;
        apart = apart_idle vs other none refl (apart_kept s.views id v both at refl r.apart);
        each = each_set (Fits r.drawn r.served r.history) vs other none
            (record {
              seen = (r.history, refl);
              told = (r.history, refl);
              stands = tt;
              enough = omega arith;
              spent = λ _. refl;
            })
            (λ j u _ now. each_set (Fits r.drawn r.served r.history) s.views id both
            (record {
              seen = seen.0;
              told = seen.1;
              stands = f.stands;
              enough = omega arith;
              spent = λ no_rights. λ i. f.spent (omega arith) i ++ g.spent (omega arith) i;
            })
            (λ k y _ before. r.each k y before) j u now);
        home = λ nobody. r.home
            (each_before (λ (u : K). ¬ IsOut u.stage) s.views id v both at (not_out Idle v.stage v_idle (λ x. x))
            (each_before (λ (u : K). ¬ IsOut u.stage) vs other w none there (not_out Idle w.stage w_idle (λ x. x)) nobody));
        owned = λ p.
            let own_both = owners-set s.views id v both at p in
            let own_spent = owners-set vs other w none there p in
            let appended = times-append p v.own w.own in
            let owned = r.owned p in
            omega arith;
      }
