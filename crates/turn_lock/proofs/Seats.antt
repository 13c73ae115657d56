-- What holds of all passes after one of them changed, or a new one came.
use Rattle.std.proofs.Common.{◌≡◌, ◌≢◌, ℕ, zero, suc, ◌+◌, ◌≤◌, ◌<◌, List, [], ◌∷◌, ◌++◌, set, Some, None, refl, sym, ap, ◌∙◌, subst, ⊎_elim, arith}
use mathlib.Core.Logic.{dite}
use mathlib.Core.Option.{some, some-injective, some-ne-none}
use native.Mathlib.Decide.{ℕ_discrete}
use lib.ListN.{get_elem?}
use Rattle.atomic_table.proofs.Lists.{at_set, at_snoc, set_else}
use Rattle.turn_lock.specs.declared.view.Knows.{Knows}
use Rattle.turn_lock.specs.declared.view.Stage.{Stage}
use Rattle.turn_lock.specs.declared.view.Stage.TheVariants.{Idle, Waits, Holds}
use Rattle.turn_lock.specs.History.{times}
use Rattle.turn_lock.specs.Tickets.{Stands}
use Rattle.turn_lock.specs.View.{ticket_of, queued, IsOut, rights_held, tickets_held, owners}
use Rattle.turn_lock.proofs.Sums.{sum_by-set_at}

module _ {A : Type 0} where
  pub set_there : (xs : List A) (i : ℕ) (v w : A) → get_elem? xs i ≡ some v → get_elem? (set xs i w) i ≡ some w
  set_there [] i v w at = absurd (some-ne-none v (sym at))
  set_there (x ∷ xs) zero v w at = refl
  set_there (x ∷ xs) (suc i) v w at = set_there xs i v w at

  -- P holds of each element
  abbrev pub Each : (A → Type 0) → List A → Type 0
  Each P xs = (j : ℕ) (u : A) → get_elem? xs j ≡ some u → P u

  pub each_set : (P : A → Type 0) (xs : List A) (i : ℕ) (w : A) → P w
      → ((j : ℕ) (u : A) → j ≢ i → get_elem? xs j ≡ some u → P u) → Each P (set xs i w)
  each_set P xs i w mine others j u at = ⊎_elim
      (λ (t : (j ≡ i) × (w ≡ u)). subst P t.1 mine)
      (λ (t : (j ≢ i) × (get_elem? xs j ≡ some u)). others j u t.0 t.1)
      (at_set xs i j w u at)

  pub each_snoc : (P : A → Type 0) (xs : List A) (w : A) → P w → Each P xs → Each P (xs ++ w ∷ [])
  each_snoc P xs w new others j u at = ⊎_elim (others j u) (λ (t : w ≡ u). subst P t new) (at_snoc xs w u j at)

  -- what holds of each after one changed held of each before, if it did of that one
  pub each_before : (P : A → Type 0) (xs : List A) (i : ℕ) (v w : A) → get_elem? xs i ≡ some v → P v
      → Each P (set xs i w) → Each P xs
  each_before P xs i v w there mine all j u at = dite (ℕ_discrete j i)
      (λ same. subst P (some-injective v u (sym there ∙ (ap (get_elem? xs) (sym same) ∙ at))) mine)
      (λ apart. all j u (set_else xs i j w apart ∙ at))

-- the pass v becomes w
module _ {I : Type 0} (vs : List (Knows I)) (id : ℕ) (v w : Knows I) (there : get_elem? vs id ≡ some v) where
  pub rights-set : rights_held (set vs id w) + v.rights ≡ rights_held vs + w.rights
  rights-set = sum_by-set_at (λ (u : Knows I). u.rights) vs id v w there

  pub tickets-set : tickets_held (set vs id w) + queued v.stage ≡ tickets_held vs + queued w.stage
  tickets-set = sum_by-set_at (λ (u : Knows I). queued u.stage) vs id v w there

  pub owners-set : (p : ℕ) → owners p (set vs id w) + times p v.own ≡ owners p vs + times p w.own
  owners-set p = sum_by-set_at (λ (u : Knows I). times p u.own) vs id v w there

  pub rights-kept : w.rights ≡ v.rights → rights_held (set vs id w) ≡ rights_held vs
  rights-kept same = let s = rights-set in omega arith

  pub tickets-kept : queued w.stage ≡ queued v.stage → tickets_held (set vs id w) ≡ tickets_held vs
  tickets-kept same = let s = tickets-set in omega arith

  pub owners-kept : w.own ≡ v.own → (p : ℕ) → owners p (set vs id w) ≡ owners p vs
  owners-kept same p =
      let s = owners-set p in
      let is : times p w.own ≡ times p v.own = ap (times p) same in
      omega arith

module _ {I : Type 0} where
  -- no two passes have one ticket
  abbrev pub AreApart : List (Knows I) → Type 0
  AreApart vs = (i j t : ℕ) (v w : Knows I) → get_elem? vs i ≡ some v → get_elem? vs j ≡ some w
      → ticket_of v.stage ≡ Some t → ticket_of w.stage ≡ Some t → i ≡ j

  same_ticket : (v w : Knows I) (t : ℕ) → w ≡ v → ticket_of v.stage ≡ Some t → ticket_of w.stage ≡ Some t
  same_ticket v w t same is = ap (λ (u : Knows I). ticket_of u.stage) same ∙ is

  pub apart_set : (vs : List (Knows I)) (id : ℕ) (w : Knows I) → AreApart vs
      → ((j t : ℕ) (u : Knows I) → j ≢ id → get_elem? vs j ≡ some u
      → ticket_of u.stage ≡ Some t → ticket_of w.stage ≡ Some t → ⊥)
      → AreApart (set vs id w)
  apart_set vs id w apart new i j t v u ei ej ti tj =
      ⊎_elim first other (at_set vs id i w v ei)
    where
      first : (i ≡ id) × (w ≡ v) → i ≡ j
      first x = ⊎_elim
          (λ (y : (j ≡ id) × (w ≡ u)). x.0 ∙ sym y.0)
          (λ (y : (j ≢ id) × (get_elem? vs j ≡ some u)). absurd (new j t u y.0 y.1 tj (same_ticket v w t x.1 ti)))
          (at_set vs id j w u ej)

      other : (i ≢ id) × (get_elem? vs i ≡ some v) → i ≡ j
      other x = ⊎_elim
          (λ (y : (j ≡ id) × (w ≡ u)). absurd (new i t v x.0 x.1 ti (same_ticket u w t y.1 tj)))
          (λ (y : (j ≢ id) × (get_elem? vs j ≡ some u)). apart i j t v u x.1 y.1 ti tj)
          (at_set vs id j w u ej)

  pub apart_kept : (vs : List (Knows I)) (id : ℕ) (v w : Knows I) → get_elem? vs id ≡ some v
      → ticket_of w.stage ≡ ticket_of v.stage → AreApart vs → AreApart (set vs id w)
  apart_kept vs id v w there same apart = apart_set vs id w apart
      (λ j t u other at tu tw. other (apart j id t u v at there tu (sym same ∙ tw)))

  pub apart_idle : (vs : List (Knows I)) (id : ℕ) (w : Knows I) → ticket_of w.stage ≡ None
      → AreApart vs → AreApart (set vs id w)
  apart_idle vs id w none apart = apart_set vs id w apart (λ j t u other at tu tw. absurd (cc))

  pub apart_snoc : (vs : List (Knows I)) (w : Knows I) → ticket_of w.stage ≡ None
      → AreApart vs → AreApart (vs ++ w ∷ [])
  apart_snoc vs w none apart i j t v u ei ej ti tj = ⊎_elim
      (λ (x : get_elem? vs i ≡ some v). ⊎_elim
      (λ (y : get_elem? vs j ≡ some u). apart i j t v u x y ti tj)
      (λ (y : w ≡ u). let has = same_ticket u w t y tj in absurd (cc))
      (at_snoc vs w u j ej))
      (λ (x : w ≡ v). let has = same_ticket v w t x ti in absurd (cc))
      (at_snoc vs w v i ei)

  -- a ticket lies from the one that is served on, and below the next one to be drawn
  pub ticket_within : (drawn served : ℕ) (history : List I) (stage : Stage I) (t : ℕ)
      → Stands drawn served history stage → ticket_of stage ≡ Some t → (served ≤ t) × (t < drawn)
  ticket_within drawn served history Idle t stands is = absurd (cc)
  ticket_within drawn served history (Waits u) t stands is = let same : u ≡ t = cc in (omega arith, omega arith)
  ticket_within drawn served history (Holds u known) t stands is = let same : u ≡ t = cc in (omega arith, omega arith)

  -- another ticket was drawn
  pub stands_later : (drawn served : ℕ) (history : List I) (stage : Stage I)
      → Stands drawn served history stage → Stands (drawn + 1) served history stage
  stands_later drawn served history Idle stands = tt
  stands_later drawn served history (Waits t) stands = (stands.0, omega arith)
  stands_later drawn served history (Holds t known) stands = (stands.0, omega arith, stands.2)

  -- the next ticket is served, and this pass had another than the one before
  pub stands_next : (drawn served : ℕ) (history : List I) (stage : Stage I) → Stands drawn served history stage
      → (ticket_of stage ≡ Some served → ⊥) → Stands drawn (served + 1) history stage
  stands_next drawn served history Idle stands other = tt
  stands_next drawn served history (Waits t) stands other =
      let apart : t ≢ served = λ same. other (ap Some same) in
      (omega arith, stands.1)
  stands_next drawn served history (Holds t known) stands other = absurd (other (ap Some stands.0))

  -- the holder changed the history, and this pass isn't the holder
  pub stands_beside : (drawn served : ℕ) (before after : List I) (stage : Stage I)
      → (ticket_of stage ≡ Some served → ⊥) → Stands drawn served before stage → Stands drawn served after stage
  stands_beside drawn served before after Idle other stands = tt
  stands_beside drawn served before after (Waits t) other stands = stands
  stands_beside drawn served before after (Holds t known) other stands = absurd (other (ap Some stands.0))

  -- the holder has a ticket, and it is served
  pub out_ticket : (drawn served : ℕ) (history : List I) (stage : Stage I) → Stands drawn served history stage
      → IsOut stage → ticket_of stage ≡ Some served
  out_ticket drawn served history Idle stands out = absurd out
  out_ticket drawn served history (Waits t) stands out = absurd out
  out_ticket drawn served history (Holds t known) stands out = ap Some stands.0

  pub out_queued : (stage : Stage I) → IsOut stage → queued stage ≡ 1
  out_queued Idle out = absurd out
  out_queued (Waits t) out = absurd out
  out_queued (Holds t known) out = refl

  pub not_out : (stage here : Stage I) → here ≡ stage → ¬ IsOut stage → ¬ IsOut here
  not_out stage here is none = subst (λ (s : Stage I). ¬ IsOut s) (sym is) none
