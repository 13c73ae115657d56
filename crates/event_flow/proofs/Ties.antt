-- The two tables and the claims stay tied, whatever is told of an event.
use Rattle.std.proofs.Common.{◌≡◌, ◌≢◌, ⊎_elim, ℕ, ◌+◌, ◌-◌, ◌<◌, ◌≤◌, ◌&&◌, ◌||◌, nat_eq, Bool, true, false, not, is_some, List, length, set, Option, Some, None, IsSome, refl, sym, ap, ◌∙◌, subst, length-set, get_or-set_other, arith}
use Rattle.std.proofs.lemmas.Bool.{eq-eqb, ne_eqb}
use Rattle.std.proofs.lemmas.Bool.Decides.{eqb_tells}
use Rattle.std.proofs.lemmas.Grind.{get_or-set_at}
use Rattle.algo_states.proofs.Mentions.{bit}
use Rattle.algo_states.specs.States.{States, holds, with_scheduled}
use Rattle.decision_nodes.specs.Tree.{Tree}
use Rattle.number_set.specs.Numbers.{has}
use Rattle.number_set.specs.declared.NumberSet.{NumberSet}
use Rattle.event_flow.specs.Claims.{claim_among}
use Rattle.event_flow.specs.Flow.{Flow, claim_in}
use Rattle.event_flow.specs.Keeping.{IsTied}
use Rattle.event_flow.specs.declared.held.Held.{Held}
use Rattle.event_flow.proofs.Counted.{claim-other, claim-written, count-written}

-- one claim is written, and the set and the flag of its algorithm go with it

-- the set is as before but for one number
abbrev pub Puts : NumberSet → ℕ → Bool → NumberSet → Type 0
Puts before n is_in after =
    ((m : ℕ) → m ≡ n → has after m ≡ is_in) × ((m : ℕ) → m ≢ n → has after m ≡ has before m)

pub puts-in : (before after : NumberSet) (n : ℕ) → ((m : ℕ) → has after m ≡ (nat_eq m n || has before m)) → Puts before n true after
puts-in before after n told = (
  λ m same. told m ∙ ap (λ (b : Bool). b || has before m) (eq-eqb m n same),
  λ m other. told m ∙ ap (λ (b : Bool). b || has before m) (ne_eqb m n other),
)

pub puts-out : (before after : NumberSet) (n : ℕ) → ((m : ℕ) → has after m ≡ (not (nat_eq m n) && has before m)) → Puts before n false after
puts-out before after n told = (
  λ m same. told m ∙ ap (λ (b : Bool). not b && has before m) (eq-eqb m n same),
  λ m other. told m ∙ ap (λ (b : Bool). not b && has before m) (ne_eqb m n other),
)

flag-written : (flags : List Bool) (n m : ℕ) (flag : Bool) → n < length flags → m ≡ n → holds (set flags n flag) m ≡ flag
flag-written flags n m flag lt same = get_or-set_at flags n m flag false same lt

-- what contracts see
abbrev pub shown : Tree → States → List (Option Held) → Flow
shown tree states claims = record {
  sequences = tree.sequences;
  top = tree.top;
  needs = states.needs;
  outcomes = states.outcomes;
  claims = claims;
  arrived = states.arrived;
}

module _ (tree : Tree) (states : States) (claims : List (Option Held)) (claimed : NumberSet) (outstanding nodes : ℕ)
    (tied : IsTied tree states claims claimed outstanding nodes) (f : Flow) (view : shown tree states claims ≡ f) (n : ℕ)
    (within : n < length f.needs) where
  pub in-needs : n < length states.needs
  in-needs = subst (λ (g : Flow). n < length g.needs) (sym view) within

  pub in-claims : n < length claims
  in-claims = let lt = in-needs in omega (arith, lt, tied.sizes.claim)

  in-scheduled : n < length states.scheduled
  in-scheduled = let lt = in-needs in omega (arith, lt, tied.sizes.schedule)

  scheduled-written : (it : Option Held) (m : ℕ) →
      holds (set states.scheduled n (is_some it)) m ≡ is_some (claim_among (set claims n it) m)
  scheduled-written it m =
      ⊎_elim
      (λ (e : (nat_eq m n ≡ true) × (m ≡ n)).
      flag-written states.scheduled n m (is_some it) in-scheduled e.1
      ∙ sym (ap is_some (claim-written claims n m it in-claims e.1)))
      (λ (e : (nat_eq m n ≡ false) × (m ≢ n)).
      get_or-set_other states.scheduled n m (is_some it) false e.1 ∙ tied.scheduled_are m
      ∙ sym (ap is_some (claim-other claims n m it e.1)))
      (eqb_tells m n)

  claimed-written : (it : Option Held) (after : NumberSet) → Puts claimed n (is_some it) after → (m : ℕ) →
      has after m ≡ is_some (claim_among (set claims n it) m)
  claimed-written it after put m =
      ⊎_elim
      (λ (e : (nat_eq m n ≡ true) × (m ≡ n)). put.0 m e.1 ∙ sym (ap is_some (claim-written claims n m it in-claims e.1)))
      (λ (e : (nat_eq m n ≡ false) × (m ≢ n)).
      put.1 m e.1 ∙ tied.claimed_are m ∙ sym (ap is_some (claim-other claims n m it e.1)))
      (eqb_tells m n)

  retied : (it : Option Held) (later : States) (after : NumberSet) (more : ℕ) → later ≡ with_scheduled states n (is_some it) →
      Puts claimed n (is_some it) after → more + bit (is_some (claim_among claims n)) ≡ outstanding + bit (is_some it) →
      IsTied tree later (set claims n it) after more nodes
  retied it later after more told put count =
      subst (λ (t : States). IsTied tree t (set claims n it) after more nodes) (sym told)
      (record {
        sizes = record {
          few = tied.sizes.few;
          few_handles = tied.sizes.few_handles;
          nodes_are = tied.sizes.nodes_are;
          reach = tied.sizes.reach;
          schedule = length-set states.scheduled n (is_some it) ∙ tied.sizes.schedule;
          outcome = tied.sizes.outcome;
          claim = length-set claims n it ∙ tied.sizes.claim;
        };
        within = tied.within;
        outcomes_are = tied.outcomes_are;
        reached_are = tied.reached_are;
        scheduled_are = scheduled-written it;
        claimed_are = claimed-written it after put;
        counted = let written = count-written claims n it in-claims in let before = tied.counted in omega arith;
      })

  pub claim-tied : (held : Held) (k : ℕ) (later : States) (after : NumberSet) → k ≡ n → claim_in f n ≡ None →
      later ≡ with_scheduled states n true → ((m : ℕ) → has after m ≡ (nat_eq m n || has claimed m)) →
      IsTied tree later (set claims k (Some held)) after (outstanding + 1) nodes
  claim-tied held k later after same free told put =
      let none : bit (is_some (claim_among claims n)) ≡ 0 =
      ap (λ (g : Flow). bit (is_some (claim_in g n))) view ∙ ap (λ (it : Option Held). bit (is_some it)) free in
      let count : outstanding + 1 + bit (is_some (claim_among claims n)) ≡ outstanding + 1 = omega arith in
      subst (λ (i : ℕ). IsTied tree later (set claims i (Some held)) after (outstanding + 1) nodes) (sym same)
      (retied (Some held) later after (outstanding + 1) told (puts-in claimed after n put) count)

  one : IsSome (claim_in f n) → bit (is_some (claim_among claims n)) ≡ 1
  one there =
      ap (λ (g : Flow). bit (is_some (claim_in g n))) view ∙ some-bit (claim_in f n) there
    where
      some-bit : (it : Option Held) → IsSome it → bit (is_some it) ≡ 1
      some-bit None h = cc
      some-bit (Some held) h = refl

  pub some-outstanding : IsSome (claim_in f n) → 1 ≤ outstanding
  some-outstanding there =
      let bits = one there in
      let written = count-written claims n None in-claims in
      let before = tied.counted in
      omega arith

  pub put_back-tied : (k : ℕ) (later : States) (after : NumberSet) → k ≡ n → IsSome (claim_in f n) →
      later ≡ with_scheduled states n false → ((m : ℕ) → has after m ≡ (not (nat_eq m n) && has claimed m)) →
      IsTied tree later (set claims k None) after (outstanding - 1) nodes
  put_back-tied k later after same there told put =
      let bits = one there in
      let some = some-outstanding there in
      let count : outstanding - 1 + bit (is_some (claim_among claims n)) ≡ outstanding + 0 = omega arith in
      subst (λ (i : ℕ). IsTied tree later (set claims i None) after (outstanding - 1) nodes) (sym same)
      (retied None later after (outstanding - 1) told (puts-out claimed after n put) count)
