-- The ties where an event begins, in a new flow or in one that served another event.
use Rattle.std.proofs.Common.{◌≡◌, ℕ, ◌<◌, ◌≤◌, ◌||◌, Bool, true, false, is_some, List, length, replicate, get_or, slice_get, zero, suc, Option, None, refl, sym, ap, ap₂, ◌∙◌, subst, arith}
use Rattle.std.specs.List.{count_by}
use Rattle.std.proofs.lemmas.List.{length-map, length-replicate}
use Rattle.algo_states.specs.States.{States, holds, inputs_of, opening, opening_of}
use Rattle.decision_nodes.proofs.Found.{valid_members}
use Rattle.decision_nodes.specs.Tree.{Tree, cleared, is_reached_in, job_of}
use Rattle.event_laws.proofs.Entering.{place-member}
use Rattle.event_laws.proofs.Placing.{algorithm-place}
use Rattle.hive_model.specs.Algorithm.{Algorithm}
use Rattle.hive_model.specs.Handles.{handle_count}
use Rattle.hive_model.specs.Job.{Job}
use Rattle.hive_model.specs.Valid.{IsValidJob}
use Rattle.hive_model.specs.declared.limits.TheConstants.{MOST_ALGORITHMS, MOST_HANDLES}
use Rattle.hive_model.specs.declared.sequence.Member.TheVariants.{Alg}
use Rattle.number_set.specs.Numbers.{has}
use Rattle.number_set.specs.declared.NumberSet.{NumberSet}
use Rattle.event_flow.specs.Arriving.{HasReached}
use Rattle.event_flow.specs.Claims.{claim_among}
use Rattle.event_flow.specs.Keeping.{AreSizes, IsTied, ReachesWithin}
use Rattle.event_flow.specs.Steps.{filled}
use Rattle.event_flow.specs.declared.held.Held.{Held}
use Rattle.event_flow.proofs.Counted.{claim-none, count-empty, nobody}
use Rattle.event_flow.proofs.Marking.{length-filled}

-- in a valid job only algorithms of it are reached
pub reached-within : (job : Job) (tree : Tree) → IsValidJob job → tree.sequences ≡ job.sequences → ReachesWithin tree (length job.algorithms)
unfolding job_of
reached-within job tree valid same ran n e =
    let place = algorithm-place (job_of (record tree { outcomes = ran })) ran n e in
    valid_members job valid (record { sequence = place.0; place = place.1 }) (Alg n) (record {
      node = place.2.node;
      there = ap (λ them. slice_get them place.0) (sym same) ∙ place.2.there;
      stands = place-member (job_of (record tree { outcomes = ran })) ran place.0 place.1 (Alg n) place.2;
    })

none-flagged : (count n : ℕ) → get_or (replicate count false) n false ≡ false
none-flagged zero n = refl
none-flagged (suc count) zero = refl
none-flagged (suc count) (suc n) = none-flagged count n

module _ (tree : Tree) (before entered states : States) (reached claimed : NumberSet) (claims : List (Option Held)) (nodes count handles : ℕ)
    (needs : List (List ℕ)) (flags : List Bool)
    (outcomes_are : tree.outcomes ≡ replicate count None) (before_is : before ≡ opening needs handles) (all : count ≡ length needs)
    (enter : HasReached before reached entered) (arrive : states ≡ record entered { arrived = flags })
    (few : count ≤ MOST_ALGORITHMS) (few_handles : length flags ≤ MOST_HANDLES) (nodes_are : nodes ≡ length tree.sequences)
    (reached_are : (n : ℕ) → has reached n ≡ is_reached_in tree n) (within : ReachesWithin tree count) (claims_are : claims ≡ nobody count)
    (claimed_are : (n : ℕ) → has claimed n ≡ false) where
  states-needs : states.needs ≡ needs
  states-needs = ap (λ (t : States). t.needs) arrive ∙ ap (λ (t : States). t.needs) enter.rest ∙ ap (λ (t : States). t.needs) before_is

  states-scheduled : states.scheduled ≡ replicate (length needs) false
  states-scheduled =
      ap (λ (t : States). t.scheduled) arrive ∙ ap (λ (t : States). t.scheduled) enter.rest ∙ ap (λ (t : States). t.scheduled) before_is

  states-outcomes : states.outcomes ≡ replicate (length needs) None
  states-outcomes =
      ap (λ (t : States). t.outcomes) arrive ∙ ap (λ (t : States). t.outcomes) enter.rest ∙ ap (λ (t : States). t.outcomes) before_is

  states-reached : states.reached ≡ entered.reached
  states-reached = ap (λ (t : States). t.reached) arrive

  begun-sizes : AreSizes tree states claims nodes
  begun-sizes =
      let long : length states.needs ≡ length needs = ap length states-needs in
      record {
        few = omega (arith, few, all, long);
        few_handles = subst (λ (them : List Bool). length them ≤ MOST_HANDLES) (sym (ap (λ (t : States). t.arrived) arrive)) few_handles;
        nodes_are = nodes_are;
        reach = ap length states-reached ∙ enter.size ∙ ap (λ (t : States). length t.reached) before_is
            ∙ length-replicate (length needs) false ∙ sym long;
        schedule = ap length states-scheduled ∙ length-replicate (length needs) false ∙ sym long;
        outcome = ap length states-outcomes ∙ length-replicate (length needs) None ∙ sym long;
        claim = ap length claims_are ∙ length-replicate count None ∙ all ∙ sym long;
      }

  begun-tied : IsTied tree states claims claimed 0 nodes
  begun-tied = record {
    sizes = begun-sizes;
    within = subst (ReachesWithin tree) (all ∙ sym (ap length states-needs)) within;
    outcomes_are = outcomes_are ∙ ap (λ (k : ℕ). replicate k None) all ∙ sym states-outcomes;
    reached_are = λ n.
        ap (λ (them : List Bool). holds them n) states-reached ∙ enter.reached_are n
        ∙ ap₂ (λ (x y : Bool). x || y) (ap (λ (t : States). holds t.reached n) before_is ∙ none-flagged (length needs) n) (reached_are n);
    scheduled_are = λ n.
        ap (λ (them : List Bool). holds them n) states-scheduled ∙ none-flagged (length needs) n
        ∙ sym (ap is_some (ap (λ (them : List (Option Held)). claim_among them n) claims_are ∙ claim-none count n));
    claimed_are = λ n.
        claimed_are n ∙ sym (ap is_some (ap (λ (them : List (Option Held)). claim_among them n) claims_are ∙ claim-none count n));
    counted = sym (ap (λ (them : List (Option Held)). count_by is_some them) claims_are ∙ count-empty count);
  }

-- in a flow that served another event

module _ (tree : Tree) (states : States) (claims : List (Option Held)) (claimed : NumberSet) (outstanding nodes : ℕ)
    (tied : IsTied tree states claims claimed outstanding nodes) (after : Tree) (before : States) (reached : NumberSet)
    (clear_tree : after ≡ cleared tree.sequences tree.top (length tree.outcomes))
    (clear_states : before ≡ opening states.needs (length states.arrived))
    (reached_are : (n : ℕ) → has reached n ≡ is_reached_in after n) where
  still-within : ReachesWithin after (length states.needs)
  still-within ran n e =
      tied.within ran n
      (subst (λ (t : Tree). is_reached_in t n ≡ true) (ap (λ (t : Tree). record t { outcomes = ran }) clear_tree) e)

  pub begin-within : (n : ℕ) → has reached n ≡ true → n < length before.needs
  begin-within n e =
      subst (λ (t : States). n < length t.needs) (sym clear_states) (still-within after.outcomes n (sym (reached_are n) ∙ e))

  pub anew-tied : (entered later : States) (empty : NumberSet) (none : List (Option Held)) (present : List Bool) → HasReached before reached entered →
      later ≡ record entered { arrived = filled (length entered.arrived) present } → none ≡ replicate (length claims) None →
      ((n : ℕ) → has empty n ≡ false) → IsTied after later none empty 0 nodes
  anew-tied entered later empty none present enter arrive none_are empty_is =
      let outcomes : length tree.outcomes ≡ length states.needs = ap length tied.outcomes_are ∙ tied.sizes.outcome in
      let handles : length entered.arrived ≡ length states.arrived =
      ap (λ (t : States). length t.arrived) enter.rest ∙ ap (λ (t : States). length t.arrived) clear_states
      ∙ length-replicate (length states.arrived) false in
      let filled_size = length-filled (length entered.arrived) present in
      begun-tied after before entered later reached empty none nodes (length states.needs) (length states.arrived) states.needs
      (filled (length entered.arrived) present)
      (ap (λ (t : Tree). t.outcomes) clear_tree ∙ ap (λ (k : ℕ). replicate k None) outcomes) clear_states refl enter arrive tied.sizes.few
      (omega (arith, tied.sizes.few_handles, handles, filled_size)) (tied.sizes.nodes_are ∙ sym (ap (λ (t : Tree). length t.sequences) clear_tree)) reached_are
      still-within (none_are ∙ ap nobody tied.sizes.claim) empty_is

-- in a new flow

module _ (job : Job) (valid : IsValidJob job) (tree after : Tree) (states : States) (reached : NumberSet)
    (new_tree : tree ≡ cleared job.sequences job.top (length job.algorithms)) (clear_tree : after ≡ cleared tree.sequences tree.top (length tree.outcomes))
    (new_states : states ≡ opening_of job) (reached_are : (n : ℕ) → has reached n ≡ is_reached_in after n) where
  same-sequences : after.sequences ≡ job.sequences
  same-sequences = ap (λ (t : Tree). t.sequences) clear_tree ∙ ap (λ (t : Tree). t.sequences) new_tree

  all-needs : length (inputs_of job.algorithms) ≡ length job.algorithms
  all-needs = length-map job.algorithms (λ (a : Algorithm). a.inputs)

  pub new-within : (n : ℕ) → has reached n ≡ true → n < length states.needs
  new-within n e =
      subst (λ (k : ℕ). n < k) (sym (ap (λ (t : States). length t.needs) new_states ∙ all-needs))
      (reached-within job after valid same-sequences after.outcomes n (sym (reached_are n) ∙ e))

  pub new-tied : (entered : States) (empty : NumberSet) (claims : List (Option Held)) (nodes : ℕ) → HasReached states reached entered →
      claims ≡ replicate (length job.algorithms) None → ((n : ℕ) → has empty n ≡ false) → nodes ≡ length job.sequences →
      IsTied after entered claims empty 0 nodes
  new-tied entered empty claims nodes enter claims_are empty_is nodes_are =
      let count : length tree.outcomes ≡ length job.algorithms =
      ap (λ (t : Tree). length t.outcomes) new_tree ∙ length-replicate (length job.algorithms) None in
      let handles : length entered.arrived ≡ handle_count job =
      ap (λ (t : States). length t.arrived) enter.rest ∙ ap (λ (t : States). length t.arrived) new_states
      ∙ length-replicate (handle_count job) false in
      begun-tied after states entered entered reached empty claims nodes (length job.algorithms) (handle_count job) (inputs_of job.algorithms)
      entered.arrived
      (ap (λ (t : Tree). t.outcomes) clear_tree ∙ ap (λ (k : ℕ). replicate k None) count) new_states (sym all-needs) enter refl
      valid.limits.algorithms (omega (arith, valid.limits.handles, handles)) (nodes_are ∙ sym (ap length same-sequences)) reached_are
      (reached-within job after valid same-sequences) claims_are empty_is
