-- The step on the count: the holder adds the items by which the history grew.
use Rattle.std.proofs.Common.{◌≡◌, ℕ, ◌+◌, ◌%◌, ◌^◌, ◌<◌, List, [], ◌∷◌, ◌++◌, length, set, get_or, Option, Some, None, unwrap_or, refl, sym, ap, ◌∙◌, subst, arith}
use Rattle.std.specs.List.{range_with_len}
use mathlib.Core.List.{IsPrefix}
use mathlib.Core.Option.{none}
use Rattle.atomic_table.specs.Table.{rest, step, keeps, Allows}
use Rattle.turn_lock.specs.declared.view.Knows.{Knows}
use Rattle.turn_lock.specs.declared.view.Stage.TheVariants.{Idle, Holds}
use Rattle.turn_lock.specs.History.{below}
use Rattle.turn_lock.specs.View.{ticket_of, queued, staged, ready}
use Rattle.turn_lock.specs.Tickets.{Stands, Fits, Turns}
use Rattle.turn_lock.specs.Steps.{Knower, MayRaise, Raised}
use Rattle.turn_lock.proofs.Prefixes.{prefix_refl, prefix_trans}
use Rattle.turn_lock.proofs.Positions.{times-append, times-range, remainder-small}
use Rattle.turn_lock.proofs.Seats.{set_there, each_set, rights-kept, tickets-kept, owners-set, apart_kept, stands_beside}

-- the value in the first slot that is out, or else d
abbrev value_in : {V : Type 0} → V → List (ℕ × Option V) → V
value_in d [] = d
value_in d (slot ∷ slots) = unwrap_or slot.1 d

module _ {V I : Type 0} where
  -- the holder after it has put a value into the empty slot that is out with it
  pub filled : (before after : Knower V I) (x : V) (t : ℕ) (known : List I)
      → before.0.stage ≡ Holds t known → before.1 ≡ (0, None) ∷ [] → after ≡ (before.0, (0, Some x) ∷ rest before.1)
      → (after.0.stage ≡ Holds t known) × (after.1 ≡ (0, Some x) ∷ [])
  filled before after x t known is out now = (
    ap (λ (m : Knower V I). m.0.stage) now ∙ is,
    ap (λ (m : Knower V I). m.1) now ∙ ap (λ slots. (0, Some x) ∷ rest slots) out,
  )

-- what the holder knows once it has raised the count and passed on
pub released : {I : Type 0} (v raised after : Knows I) (t : ℕ) (history : List I) (more : List ℕ)
    → raised ≡ ready t history more v → after ≡ staged Idle raised
    → (after.rights ≡ v.rights) × (after.seen ≡ history) × (after.own ≡ v.own ++ more)
released {I} v raised after t history more is is' =
    let same = is' ∙ ap (staged Idle) is in
    (ap (λ (u : Knows I). u.rights) same, ap (λ (u : Knows I). u.seen) same, ap (λ (u : Knows I). u.own) same)

module _ {V I : Type 0} (list : V → List I) (rights from : ℕ) where
  -- the holder counts the items that were added, and owns their positions
  pub raises : (slots id k : ℕ) (me : Knower V I) → MayRaise list k me
      → Allows (Turns list rights from) slots id me 2 (λ n. (n + k) % 2 ^ 64) (Raised list (step slots 2 k 0 none) me)
  raises slots id k me may s r _ at _ =
      let t : ℕ = may.ticket in
      let known : List I = may.known in
      let x : V = may.value in
      let v : Knows I = me.0 in
      let more : List ℕ = range_with_len (length known) k in
      let w : Knows I = ready t (list x) more v in
      let f = r.each id v at in
      let stands : (t ≡ r.served) × (t < r.drawn) × (known ≡ r.history) =
      subst (Stands r.drawn r.served r.history) may.stage f.stands in
      let mine : ticket_of v.stage ≡ Some t = ap ticket_of may.stage in
      let queued_is : queued v.stage ≡ 1 = ap queued may.stage in
      let enough = f.enough in
      let begins : IsPrefix r.history (list x) = subst (λ h. IsPrefix h (list x)) stands.2 may.grows in
      let count : length r.history ≡ length known = ap length (sym stands.2) in
      let counted : (length r.history + k) % 2 ^ 64 ≡ length (list x) =
      ap (λ n. (n + k) % 2 ^ 64) count
      ∙ (ap (λ n. n % 2 ^ 64) (sym may.count) ∙ remainder-small (length (list x)) may.small) in (
        w,
        keeps,
        tt,
        record {
          drawn = r.drawn;
          served = r.served;
          history = list x;
          words = ap (λ ws. set ws 2 ((get_or ws 2 0 + k) % 2 ^ 64)) r.words
              ∙ ap (λ n. r.drawn % 2 ^ 64 ∷ r.served % 2 ^ 64 ∷ n ∷ []) counted;
          small = may.small;
          one_slot = r.one_slot;
          few = r.few;
          all_rights = rights-kept s.views id v w at refl ∙ r.all_rights;
          queue = ap (λ n. r.served + n) (tickets-kept s.views id v w at (sym queued_is)) ∙ r.queue;
          apart = apart_kept s.views id v w at (sym mine) r.apart;
          each = each_set (Fits r.drawn r.served (list x)) s.views id w
              (record {
                seen = prefix_refl (list x);
                told = prefix_trans v.told r.history (list x) f.told begins;
                stands = (stands.0, stands.1, refl);
                enough = omega arith;
                spent = λ no_rights. absurd (omega arith);
              })
              (λ j u other there. let g = r.each j u there in record {
                seen = prefix_trans u.seen r.history (list x) g.seen begins;
                told = prefix_trans u.told r.history (list x) g.told begins;
                stands = stands_beside r.drawn r.served r.history (list x) u.stage
                    (λ ticket. other (r.apart j id t u v there at (ticket ∙ ap Some (sym stands.0)) mine)) g.stands;
                enough = g.enough;
                spent = g.spent;
              });
          home = λ none_out. absurd (none_out id w (set_there s.views id v w at) tt);
          owned = λ p.
              let own = owners-set s.views id v w at p in
              let positions = times-range p (length known) k in
              let both = times-append p v.own more in
              let all = r.owned p in
              let before : below p (length r.history) ≡ below p (length known) = ap (below p) count in
              let after : below p (length known + k) ≡ below p (length (list x)) = ap (below p) (sym may.count) in
              omega arith;
        },
        λ t' known' x' is' out'.
            let holds = sym may.stage ∙ is' in
            let ticket : t ≡ t' = cc in
            let same : known ≡ known' = cc in
            let value : x ≡ x' = ap (value_in x) (sym may.slot ∙ out') in
            ((λ i. ready (ticket i) (list (value i)) (range_with_len (length (same i)) k) v), refl),
      )
