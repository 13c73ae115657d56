-- The steps on the words of tickets: a ticket is drawn, a look at what is served, and the next one is served.
use Rattle.std.proofs.Common.{◌≡◌, ℕ, ◌+◌, ◌%◌, ◌^◌, ◌<◌, ◌≤◌, List, [], ◌∷◌, length, set, get_or, Option, Some, refl, sym, ap, ◌∙◌, subst, arith, length-set}
use mathlib.Core.Logic.{dite}
use mathlib.Core.List.{IsPrefix}
use mathlib.Core.Option.{some, none, some-injective}
use native.Mathlib.Decide.{ℕ_discrete}
use lib.ListN.{get_elem?}
use lib.Seq.{set-get_or}
use Rattle.atomic_table.specs.Table.{State, step, Act, keeps, takes, gives, Valid, put_back, stepped, carried_after, Allows}
use Rattle.atomic_table.proofs.Lists.{one_turn, set_again, set_here}
use Rattle.turn_lock.specs.declared.view.Knows.{Knows}
use Rattle.turn_lock.specs.declared.view.Stage.{Stage}
use Rattle.turn_lock.specs.declared.view.Stage.TheVariants.{Idle, Waits, Holds}
use Rattle.turn_lock.specs.History.{below}
use Rattle.turn_lock.specs.View.{ticket_of, queued, IsOut, staged}
use Rattle.turn_lock.specs.Tickets.{Stands, Fits, Turns}
use Rattle.turn_lock.specs.Steps.{Knower, Drew, Looked, MayGoHome, PassedOn}
use Rattle.turn_lock.proofs.Sums.{part-le, sum_by-le_each}
use Rattle.turn_lock.proofs.Prefixes.{both_prefixes}
use Rattle.turn_lock.proofs.Positions.{remainder-next}
use Rattle.turn_lock.proofs.Seats.{Each, set_there, each_set, each_before, rights-kept, tickets-set, tickets-kept, owners-kept, apart_set, apart_kept, apart_idle, ticket_within, stands_later, stands_next, out_ticket, not_out}

module _ {V I : Type 0} (list : V → List I) (rights from : ℕ) where
  abbrev K : Type 0
  K = Knows I

  abbrev S : Type 0
  S = State (Option V) K

  abbrev Rule : S → Type 0
  Rule = Turns list rights from

  -- fewer tickets are drawn and not done with than there are rights
  queue_is_short : (s : S) (r : Rule s) → r.drawn ≤ r.served + rights
  queue_is_short s r =
      let enough = λ (j : ℕ) (u : K) (at : get_elem? s.views j ≡ some u). (r.each j u at).enough in
      let short = sum_by-le_each (λ (v : K). queued v.stage) (λ (v : K). v.rights) s.views enough in
      let all = r.all_rights in
      let queue = r.queue in
      omega arith

  -- where the pass whose ticket is served doesn't hold the value, nobody does
  nobody_out : (s : S) (r : Rule s) (id : ℕ) (v : K) → get_elem? s.views id ≡ some v
      → ticket_of v.stage ≡ Some r.served → ¬ IsOut v.stage → Each (λ (u : K). ¬ IsOut u.stage) s.views
  nobody_out s r id v there mine home j u at out =
      let ticket = out_ticket r.drawn r.served r.history u.stage (r.each j u at).stands out in
      let same : j ≡ id = r.apart j id r.served u v at there ticket mine in
      let is : u ≡ v = some-injective u v (sym at ∙ (ap (get_elem? s.views) same ∙ there)) in
      home (subst (λ (z : K). IsOut z.stage) is out)

  -- an idle pass with a right draws the next ticket
  pub draws : (slots id : ℕ) (me : Knower V I) → me.0.stage ≡ Idle → 0 < me.0.rights
      → Allows Rule slots id me 0 (λ n. (n + 1) % 2 ^ 64) (Drew (step slots 0 1 0 none) me)
  draws slots id me idle some_rights s r _ at _ =
      let v : K = me.0 in
      let w : K = staged (Waits r.drawn) v in
      let f = r.each id v at in
      let before : queued v.stage ≡ 0 = ap queued idle in
      let tickets = tickets-set s.views id v w at in
      let queue = r.queue in (
        w,
        keeps,
        tt,
        record {
          drawn = r.drawn + 1;
          served = r.served;
          history = r.history;
          words = ap (λ ws. set ws 0 ((get_or ws 0 0 + 1) % 2 ^ 64)) r.words
              ∙ ap (λ n. n ∷ r.served % 2 ^ 64 ∷ length r.history ∷ []) (remainder-next r.drawn);
          small = r.small;
          one_slot = r.one_slot;
          few = r.few;
          all_rights = rights-kept s.views id v w at refl ∙ r.all_rights;
          queue = omega arith;
          apart = apart_set s.views id w r.apart (λ j t u other there tu tw.
              let drawn_is : r.drawn ≡ t = cc in
              let within = ticket_within r.drawn r.served r.history u.stage t (r.each j u there).stands tu in
              absurd (omega arith));
          each = each_set (Fits (r.drawn + 1) r.served r.history) s.views id w
              (record {
                seen = f.seen;
                told = f.told;
                stands = (omega arith, omega arith);
                enough = omega arith;
                spent = f.spent;
              })
              (λ j u other there. let g = r.each j u there in record {
                seen = g.seen;
                told = g.told;
                stands = stands_later r.drawn r.served r.history u.stage g.stands;
                enough = g.enough;
                spent = g.spent;
              });
          home = λ nobody. r.home
              (each_before (λ (u : K). ¬ IsOut u.stage) s.views id v w at (not_out Idle v.stage idle (λ x. x)) nobody);
          owned = λ p. ap (λ n. n + below p from) (owners-kept s.views id v w at refl p) ∙ r.owned p;
        },
        (r.drawn, ap (λ ws. get_or ws 0 0) r.words, refl, refl),
      )

  -- what a look at the serving word has to give
  abbrev Looks : S → ℕ → ℕ → Knower V I → Type 0
  Looks s slots id me = (w : K) × (a : Act (Option V)) × Valid s.homes me.1 a
      × Rule (stepped s 1 (get_or s.words 1 0) id me.1 w a)
      × Looked list (step slots 1 0 0 none) me (get_or s.words 1 0) (w, carried_after me.1 a)

  few_rights : (s : S) (r : Rule s) (id : ℕ) (v : K) → get_elem? s.views id ≡ some v → v.rights < 2 ^ 32
  few_rights s r id v at =
      let part = part-le (λ (u : K). u.rights) s.views id v at in
      let all = r.all_rights in
      let few = r.few in
      omega arith

  told_begins : (s : S) (r : Rule s) (id : ℕ) (v : K) → get_elem? s.views id ≡ some v
      → length v.told ≤ length v.seen → IsPrefix v.told v.seen
  told_begins s r id v at = let f = r.each id v at in both_prefixes v.told v.seen r.history f.told f.seen

  -- nothing changes where it isn't this pass's turn
  stays : (slots id : ℕ) (me : Knower V I) (s : S) (r : Rule s) → get_elem? s.views id ≡ some me.0
      → ((t : ℕ) → me.0.stage ≡ Waits t → get_or s.words 1 0 ≡ t % 2 ^ 64 → ⊥) → Looks s slots id me
  stays slots id me s r at not_mine = (
    me.0,
    keeps,
    tt,
    subst (λ (x : List ℕ × List K). Rule record { words = x.0; homes = s.homes; views = x.1 })
        (λ i. (sym (set-get_or s.words 1 0) i, sym (set_again s.views id me.0 at) i)) r,
    record {
      idle = λ _. refl;
      served = λ t is found. absurd (not_mine t is found);
      waits = λ _ _ _. refl;
      few = few_rights s r id me.0 at;
      told = told_begins s r id me.0 at;
    },
  )

  -- the value comes out to the pass whose ticket is served
  takes_value : (slots id : ℕ) (me : Knower V I) (s : S) (r : Rule s) → get_elem? s.views id ≡ some me.0
      → (t : ℕ) → me.0.stage ≡ Waits t → get_or s.words 1 0 ≡ t % 2 ^ 64 → Looks s slots id me
  takes_value slots id me s r at t is hit =
      let v : K = me.0 in
      let f = r.each id v at in
      let stands : (r.served ≤ t) × (t < r.drawn) = subst (Stands r.drawn r.served r.history) is f.stands in
      let short = queue_is_short s r in
      let few = r.few in
      let found : get_or s.words 1 0 ≡ r.served % 2 ^ 64 = ap (λ ws. get_or ws 1 0) r.words in
      let same : r.served ≡ t = one_turn r.served t (2 ^ 64) stands.0 (omega arith) (sym found ∙ hit) in
      let ticket : ticket_of v.stage ≡ Some r.served = ap ticket_of is ∙ ap Some (sym same) in
      let x = r.home (nobody_out s r id v at ticket (not_out (Waits t) v.stage is (λ h. h))) in
      let w : K = staged (Holds t (list x.0)) v in
      let queued_is : queued v.stage ≡ 1 = ap queued is in
      let enough = f.enough in (
        w,
        takes 0 (Some x.0),
        x.1,
        record {
          drawn = r.drawn;
          served = r.served;
          history = r.history;
          words = set-get_or s.words 1 0 ∙ r.words;
          small = r.small;
          one_slot = length-set s.homes 0 none ∙ r.one_slot;
          few = r.few;
          all_rights = rights-kept s.views id v w at refl ∙ r.all_rights;
          queue = ap (λ n. r.served + n) (tickets-kept s.views id v w at (sym queued_is)) ∙ r.queue;
          apart = apart_kept s.views id v w at (sym (ap ticket_of is)) r.apart;
          each = each_set (Fits r.drawn r.served r.history) s.views id w
              (record {
                seen = f.seen;
                told = f.told;
                stands = (sym same, stands.1, x.2);
                enough = omega arith;
                spent = f.spent;
              })
              (λ j u _ there. r.each j u there);
          home = λ none_out. absurd (none_out id w (set_there s.views id v w at) tt);
          owned = λ p. ap (λ n. n + below p from) (owners-kept s.views id v w at refl p) ∙ r.owned p;
        },
        record {
          idle = λ other. let none : ⊥ = cc in elim none [ ];
          served = λ t' is' _. let same' : t ≡ t' = cc in (
            x.0,
            ap (λ (z : ℕ). staged (Holds z (list x.0)) v) same',
            refl,
            subst (IsPrefix v.seen) (sym x.2) f.seen,
            subst (λ h. length h < 2 ^ 64) (sym x.2) r.small,
          );
          waits = λ t' is' miss. let same' : t ≡ t' = cc in elim (miss (hit ∙ ap (λ (z : ℕ). z % 2 ^ 64) same')) [ ];
          few = few_rights s r id v at;
          told = told_begins s r id v at;
        },
      )

  look_at : (slots id : ℕ) (me : Knower V I) (s : S) (r : Rule s) → get_elem? s.views id ≡ some me.0
      → (stage : Stage I) → me.0.stage ≡ stage → Looks s slots id me
  look_at slots id me s r at Idle is = stays slots id me s r at (λ t other _. absurd (cc))
  look_at slots id me s r at (Holds u known) is = stays slots id me s r at (λ t other _. absurd (cc))
  look_at slots id me s r at (Waits t) is = dite (ℕ_discrete (get_or s.words 1 0) (t % 2 ^ 64))
      (λ hit. takes_value slots id me s r at t is hit)
      (λ miss. stays slots id me s r at (λ t' other found.
      let same : t' ≡ t = cc in
      miss (found ∙ ap (λ (z : ℕ). z % 2 ^ 64) same)))

  -- any pass may look at what is served
  pub looks : (slots id : ℕ) (me : Knower V I)
      → Allows Rule slots id me 1 (λ n. n) (Looked list (step slots 1 0 0 none) me)
  looks slots id me s r _ at _ = look_at slots id me s r at me.0.stage refl

  -- the holder of a value that may go home lets the next ticket be served
  pub passes : (slots id : ℕ) (me : Knower V I) → MayGoHome list me
      → Allows Rule slots id me 1 (λ n. (n + 1) % 2 ^ 64) (PassedOn (step slots 1 1 0 none) me)
  passes slots id me may s r _ at _ =
      let t : ℕ = may.0 in
      let x : V = may.1 in
      let is : me.0.stage ≡ Holds t (list x) = may.2 in
      let v : K = me.0 in
      let w : K = staged Idle v in
      let f = r.each id v at in
      let stands : (t ≡ r.served) × (t < r.drawn) × (list x ≡ r.history) =
      subst (Stands r.drawn r.served r.history) is f.stands in
      let served_is : t ≡ r.served = stands.0 in
      let mine : ticket_of v.stage ≡ Some t = ap ticket_of is in
      let queued_is : queued v.stage ≡ 1 = ap queued is in
      let tickets = tickets-set s.views id v w at in
      let queue = r.queue in
      let deep : 0 < length s.homes = let one = r.one_slot in omega arith in
      let back : put_back s.homes me.1 ≡ set s.homes 0 (some (Some x)) = ap (put_back s.homes) may.3 in (
        w,
        gives,
        tt,
        record {
          drawn = r.drawn;
          served = r.served + 1;
          history = r.history;
          words = ap (λ ws. set ws 1 ((get_or ws 1 0 + 1) % 2 ^ 64)) r.words
              ∙ ap (λ n. r.drawn % 2 ^ 64 ∷ n ∷ length r.history ∷ []) (remainder-next r.served);
          small = r.small;
          one_slot = ap length back ∙ (length-set s.homes 0 (some (Some x)) ∙ r.one_slot);
          few = r.few;
          all_rights = rights-kept s.views id v w at refl ∙ r.all_rights;
          queue = omega arith;
          apart = apart_idle s.views id w refl r.apart;
          each = each_set (Fits r.drawn (r.served + 1) r.history) s.views id w
              (record { seen = f.seen; told = f.told; stands = tt; enough = omega arith; spent = f.spent })
              (λ j u other there. let g = r.each j u there in record {
                seen = g.seen;
                told = g.told;
                stands = stands_next r.drawn r.served r.history u.stage g.stands
                    (λ ticket. other (r.apart j id t u v there at (ticket ∙ ap Some (sym served_is)) mine));
                enough = g.enough;
                spent = g.spent;
              });
          home = λ _. (x, ap (λ hs. get_elem? hs 0) back ∙ set_here s.homes 0 (some (Some x)) deep, stands.2);
          owned = λ p. ap (λ n. n + below p from) (owners-kept s.views id v w at refl p) ∙ r.owned p;
        },
        (refl, refl),
      )
