-- The ties where an algorithm has run, and where another event begins.
use Rattle.std.proofs.Common.{◌≡◌, ℕ, zero, suc, ◌-◌, ◌<◌, ◌&&◌, ◌||◌, nat_eq, Bool, true, false, not, List, [], ◌∷◌, length, set, Option, Some, None, IsSome, refl, sym, ap, ap₂, ◌∙◌, subst, length-set, arith}
use Rattle.std.proofs.lemmas.Bool.{and_parts}
use Rattle.algo_states.specs.States.{States, holds, with_outcome, with_scheduled}
use Rattle.decision_nodes.specs.Tree.{Tree, is_reached_in, job_of, settled}
use Rattle.event_laws.proofs.Reaching.{reached-stays}
use Rattle.event_laws.proofs.Staying.{AreOutcomesWithin, Stays, stays-same}
use Rattle.hive_model.specs.Reached.{is_leaf_of}
use Rattle.hive_model.specs.Results.{outcome_at}
use Rattle.hive_model.specs.declared.outcome.Outcome.{Outcome}
use Rattle.number_set.specs.Numbers.{has}
use Rattle.number_set.specs.declared.NumberSet.{NumberSet}
use Rattle.event_flow.specs.Arriving.{HasReached}
use Rattle.event_flow.specs.Flow.{Flow, claim_in}
use Rattle.event_flow.specs.Keeping.{AreSizes, IsTied}
use Rattle.event_flow.specs.Steps.{flagged}
use Rattle.event_flow.specs.declared.held.Held.{Held}
use Rattle.event_flow.proofs.Marking.{length-flagged}
use Rattle.event_flow.proofs.Ties.{in-needs, put_back-tied, shown}

-- what is reached with one outcome more

outcomes-stay : (outcomes : List (Option Outcome)) (n : ℕ) (o : Option Outcome) → outcome_at outcomes n ≡ None →
    AreOutcomesWithin outcomes (set outcomes n o)
outcomes-stay [] n o e m = tt
outcomes-stay (x ∷ outcomes) zero o e zero = subst (λ (it : Option Outcome). Stays it o) (sym e) tt
outcomes-stay (x ∷ outcomes) zero o e (suc m) = stays-same (outcome_at outcomes m)
outcomes-stay (x ∷ outcomes) (suc n) o e zero = stays-same x
outcomes-stay (x ∷ outcomes) (suc n) o e (suc m) = outcomes-stay outcomes n o e m

pub settled-stays : (tree : Tree) (n : ℕ) (o : Outcome) (m : ℕ) → outcome_at tree.outcomes n ≡ None → is_reached_in tree m ≡ true →
    is_reached_in (settled tree n o) m ≡ true
unfolding job_of
settled-stays tree n o m none e =
    reached-stays (is_leaf_of m) (job_of tree) tree.outcomes (set tree.outcomes n (Some o))
    (outcomes-stay tree.outcomes n (Some o) none) e

newly : (a b : Bool) → (a ≡ true → b ≡ true) → (a || (b && not a)) ≡ b
newly true true h = refl
newly true false h = sym (h refl)
newly false true h = refl
newly false false h = refl

module _ (tree : Tree) (states : States) (claims : List (Option Held)) (claimed : NumberSet) (outstanding nodes : ℕ)
    (tied : IsTied tree states claims claimed outstanding nodes) (f : Flow) (view : shown tree states claims ≡ f) (n : ℕ)
    (within : n < length f.needs) (outcome : Outcome) (unrun : outcome_at f.outcomes n ≡ None) where
  tree-unrun : outcome_at tree.outcomes n ≡ None
  tree-unrun =
      ap (λ (them : List (Option Outcome)). outcome_at them n) tied.outcomes_are
      ∙ ap (λ (g : Flow). outcome_at g.outcomes n) view ∙ unrun

  lt : n < length states.needs
  lt = in-needs tree states claims claimed outstanding nodes tied f view n within

  module _ (finished : States) (after : Tree) (reached : NumberSet) (finish : finished ≡ with_outcome states n outcome)
      (settle : after ≡ settled tree n outcome)
      (newly_are : (m : ℕ) → has reached m ≡ (is_reached_in after m && not (is_reached_in tree m))) where
    pub reach-within : (m : ℕ) → has reached m ≡ true → m < length finished.needs
    reach-within m e =
        let now : is_reached_in after m ≡ true = (and_parts _ _ (sym (newly_are m) ∙ e)).0 in
        subst (λ (t : States). m < length t.needs) (sym finish)
        (tied.within (set tree.outcomes n (Some outcome)) m (subst (λ (t : Tree). is_reached_in t m ≡ true) settle now))

    module _ (entered : States) (enter : HasReached finished reached entered) where
      entered-needs : entered.needs ≡ states.needs
      entered-needs = ap (λ (t : States). t.needs) enter.rest ∙ ap (λ (t : States). t.needs) finish

      entered-arrived : entered.arrived ≡ states.arrived
      entered-arrived = ap (λ (t : States). t.arrived) enter.rest ∙ ap (λ (t : States). t.arrived) finish

      entered-scheduled : entered.scheduled ≡ set states.scheduled n false
      entered-scheduled = ap (λ (t : States). t.scheduled) enter.rest ∙ ap (λ (t : States). t.scheduled) finish

      entered-outcomes : entered.outcomes ≡ set states.outcomes n (Some outcome)
      entered-outcomes = ap (λ (t : States). t.outcomes) enter.rest ∙ ap (λ (t : States). t.outcomes) finish

      entered-reached : (m : ℕ) → holds entered.reached m ≡ is_reached_in after m
      entered-reached m =
          enter.reached_are m
          ∙ ap₂ (λ (x y : Bool). x || y)
          (ap (λ (t : States). holds t.reached m) finish ∙ tied.reached_are m) (newly_are m)
          ∙ newly (is_reached_in tree m) (is_reached_in after m) (λ e.
          subst (λ (t : Tree). is_reached_in t m ≡ true) (sym settle) (settled-stays tree n outcome m tree-unrun e))

      module _ (first count : ℕ) where
        module _ (arrived : States) (arrive : arrived ≡ record entered { arrived = flagged first count entered.arrived }) where
          -- with the claim still there
          abbrev between : States
          between = record arrived { scheduled = states.scheduled }

          arrived-needs : arrived.needs ≡ states.needs
          arrived-needs = ap (λ (t : States). t.needs) arrive ∙ entered-needs

          arrived-outcomes : arrived.outcomes ≡ set states.outcomes n (Some outcome)
          arrived-outcomes = ap (λ (t : States). t.outcomes) arrive ∙ entered-outcomes

          arrived-reached : arrived.reached ≡ entered.reached
          arrived-reached = ap (λ (t : States). t.reached) arrive

          handles : length arrived.arrived ≡ length states.arrived
          handles =
              ap (λ (t : States). length t.arrived) arrive ∙ length-flagged first count entered.arrived
              ∙ ap length entered-arrived

          sizes-between : AreSizes after between claims nodes
          sizes-between =
              let needs : length arrived.needs ≡ length states.needs = ap length arrived-needs in
              let outcomes : length arrived.outcomes ≡ length states.outcomes =
              ap length arrived-outcomes ∙ length-set states.outcomes n (Some outcome) in
              let reaches : length arrived.reached ≡ length states.reached =
              ap length arrived-reached ∙ enter.size ∙ ap (λ (t : States). length t.reached) finish in
              let more = handles in
              record {
                few = let few = tied.sizes.few in omega arith;
                few_handles = let few = tied.sizes.few_handles in omega arith;
                nodes_are = tied.sizes.nodes_are ∙ sym (ap (λ (t : Tree). length t.sequences) settle);
                reach = reaches ∙ tied.sizes.reach ∙ sym needs;
                schedule = tied.sizes.schedule ∙ sym needs;
                outcome = outcomes ∙ tied.sizes.outcome ∙ sym needs;
                claim = tied.sizes.claim ∙ sym needs;
              }

          tied-between : IsTied after between claims claimed outstanding nodes
          tied-between = record {
            sizes = sizes-between;
            within = λ ran m e.
                subst (λ (k : ℕ). m < k) (sym (ap length arrived-needs))
                (tied.within ran m
                (subst (λ (t : Tree). is_reached_in t m ≡ true) (ap (λ (t : Tree). record t { outcomes = ran }) settle) e));
            outcomes_are =
                ap (λ (t : Tree). t.outcomes) settle
                ∙ ap (λ (them : List (Option Outcome)). set them n (Some outcome)) tied.outcomes_are
                ∙ sym arrived-outcomes;
            reached_are = λ m. ap (λ (flags : List Bool). holds flags m) arrived-reached ∙ entered-reached m;
            scheduled_are = tied.scheduled_are;
            claimed_are = tied.claimed_are;
            counted = tied.counted;
          }

          unscheduled : arrived ≡ with_scheduled between n false
          unscheduled =
              ap (λ (flags : List Bool). record arrived { scheduled = flags })
              (ap (λ (t : States). t.scheduled) arrive ∙ entered-scheduled)

          pub completed-tied : (k : ℕ) (removed : NumberSet) → k ≡ n → IsSome (claim_in f n) →
              ((m : ℕ) → has removed m ≡ (not (nat_eq m n) && has claimed m)) →
              IsTied after arrived (set claims k None) removed (outstanding - 1) nodes
          completed-tied k removed same there put =
              put_back-tied after between claims claimed outstanding nodes tied-between (shown after between claims) refl n
              (subst (λ (k : ℕ). n < k) (sym (ap length arrived-needs)) lt) k arrived removed same
              (subst (λ (g : Flow). IsSome (claim_in g n)) (sym view) there) unscheduled put
