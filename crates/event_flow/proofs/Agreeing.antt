-- What follows from a flow is what the definitions say of its event: what can be claimed, whether it is settled, its claims, and
-- what is told of it.
use Rattle.std.proofs.Common.{◌≡◌, ℕ, zero, suc, ◌+◌, ◌<◌, ◌≤◌, ◌&&◌, ◌||◌, Bool, true, false, not, is_some, List, [], ◌∷◌, length, map, get_or, slice_get, Option, Some, None, refl, sym, ap, ap₂, ◌∙◌, arith}
use Rattle.std.specs.List.{count_by, list_all, list_any, range_with_len}
use Rattle.std.specs.Option.{option_flatten, option_map, option_map_or}
use Rattle.std.proofs.lemmas.List.{length-map}
use Rattle.std.proofs.lemmas.Bool.{false≢true}
use Rattle.std.proofs.lemmas.Option.{same_Some}
use Rattle.std.proofs.Math.Bool.{and-true, not-not}
use Rattle.algo_states.proofs.Mentions.{bit, count-cons, count-none}
use Rattle.algo_states.specs.States.{holds, inputs_of}
use Rattle.decision_nodes.specs.Tree.{job_of}
use Rattle.hive_model.specs.Algorithm.{Algorithm}
use Rattle.hive_model.specs.Below.{below}
use Rattle.hive_model.specs.Decision.{decision}
use Rattle.hive_model.specs.Enabled.{all_there, is_enabled, is_ready, is_ready_in, product_in}
use Rattle.hive_model.specs.Event.{decisions_of, end_of, ends_of}
use Rattle.hive_model.specs.Job.{Job}
use Rattle.hive_model.specs.Live.{is_live}
use Rattle.hive_model.specs.Machine.{Busy, Outstanding, claim_at}
use Rattle.hive_model.specs.Reached.{is_reached, reached}
use Rattle.hive_model.specs.Results.{outcome_at, outcomes}
use Rattle.hive_model.specs.Step.{can_claim, is_settled}
use Rattle.hive_model.specs.declared.outcome.Outcome.{Outcome}
use Rattle.hive_model.specs.declared.product.Product.{Product}
use Rattle.event_flow.specs.Claimable.{can_claim_in, is_settled_in}
use Rattle.event_flow.specs.Events.{bare, flow_of}
use Rattle.event_flow.specs.Flow.{claim_in, have_arrived, tree_of}
use Rattle.event_flow.specs.Told.{decisions_in, ends_in}
use Rattle.event_flow.specs.declared.held.Held.{Held}
use Rattle.event_flow.proofs.Marking.{all-same, flags-at}

-- decisions read the forest alone

pub reached-same : (job : Job) (b : Busy) → reached (job_of (tree_of (flow_of job b))) (outcomes b.ran) ≡ reached job (outcomes b.ran)
unfolding reached decision job_of flow_of
reached-same job b = refl

pub live-same : (job : Job) (b : Busy) (n : ℕ) → is_live (job_of (tree_of (flow_of job b))) (outcomes b.ran) n ≡ is_live job (outcomes b.ran) n
unfolding is_live decision below job_of flow_of
live-same job b n = refl

-- claims

bare-at : (claims : List (Option Outstanding)) (n : ℕ) →
    option_flatten (slice_get (map (option_map bare) claims) n) ≡ option_map bare (option_flatten (slice_get claims n))
bare-at [] n = refl
bare-at (claim ∷ claims) zero = refl
bare-at (claim ∷ claims) (suc n) = bare-at claims n

pub claim-same : (job : Job) (b : Busy) (n : ℕ) → claim_in (flow_of job b) n ≡ option_map bare (claim_at b n)
unfolding flow_of
claim-same job b n = bare-at b.claims n

is_some-bare : (claim : Option Outstanding) → is_some (option_map bare claim) ≡ is_some claim
is_some-bare None = refl
is_some-bare (Some c) = refl

bare-count : (claims : List (Option Outstanding)) → count_by is_some (map (option_map bare) claims) ≡ count_by is_some claims
bare-count [] = count-none {X = Option Held} is_some ∙ sym (count-none {X = Option Outstanding} is_some)
bare-count (claim ∷ claims) =
    count-cons is_some (option_map bare claim) (map (option_map bare) claims)
    ∙ ap₂ (λ (x : Bool) (n : ℕ). bit x + n) (is_some-bare claim) (bare-count claims)
    ∙ sym (count-cons is_some claim claims)

pub count-same : (job : Job) (b : Busy) → count_by is_some (flow_of job b).claims ≡ count_by is_some b.claims
unfolding flow_of
count-same job b = bare-count b.claims

-- what can be claimed

needs-at : (algorithms : List Algorithm) (n : ℕ) (a : Algorithm) → slice_get algorithms n ≡ Some a →
    get_or (inputs_of algorithms) n [] ≡ a.inputs
needs-at [] n a e = cc
needs-at (x ∷ algorithms) zero a e = ap (λ (x : Algorithm). x.inputs) (same_Some x a e)
needs-at (x ∷ algorithms) (suc n) a e = needs-at algorithms n a e

pub arrived-same : (job : Job) (b : Busy) (n : ℕ) (a : Algorithm) → slice_get job.algorithms n ≡ Some a →
    have_arrived (flow_of job b) n ≡ all_there b.store a.inputs
unfolding flow_of
arrived-same job b n a e =
    ap (list_all (holds (map is_some b.store))) (needs-at job.algorithms n a e)
    ∙ all-same (holds (map is_some b.store)) (λ (h : ℕ). is_some (product_in b.store h)) (flags-at b.store) a.inputs

ready-there : (job : Job) (ran : List (Option Outcome)) (places : List (Option Product)) (n : ℕ) (a : Algorithm) →
    slice_get job.algorithms n ≡ Some a →
    is_ready_in job ran places n
    ≡ (is_reached (reached job ran) n && (not (is_some (outcome_at ran n)) && all_there places a.inputs))
unfolding is_ready
ready-there job ran places n a e =
    ap (λ (it : Option Algorithm). option_map_or (λ a. is_ready (reached job ran) places n a (outcome_at ran n)) it false) e

ready-same : (job : Job) (b : Busy) (n : ℕ) (a : Algorithm) → slice_get job.algorithms n ≡ Some a →
    (is_reached (reached (job_of (tree_of (flow_of job b))) (outcomes b.ran)) n
    && (not (is_some (outcome_at (outcomes b.ran) n)) && have_arrived (flow_of job b) n))
    ≡ is_ready_in job (outcomes b.ran) b.store n
ready-same job b n a e =
    ap₂ (λ r c. is_reached r n && (not (is_some (outcome_at (outcomes b.ran) n)) && c)) (reached-same job b) (arrived-same job b n a e)
    ∙ sym (ready-there job (outcomes b.ran) b.store n a e)

-- the parts of what can be claimed
claimable-parts : (job : Job) (b : Busy) (n : ℕ) →
    can_claim_in (flow_of job b) n
    ≡ (((is_reached (reached (job_of (tree_of (flow_of job b))) (outcomes b.ran)) n
    && (not (is_some (outcome_at (outcomes b.ran) n)) && have_arrived (flow_of job b) n))
    && not (not (is_live (job_of (tree_of (flow_of job b))) (outcomes b.ran) n)))
    && not (is_some (claim_in (flow_of job b) n)))
unfolding can_claim_in flow_of
claimable-parts job b n = refl

enabled-there : (job : Job) (b : Busy) (n : ℕ) (a : Algorithm) → slice_get job.algorithms n ≡ Some a →
    ((is_reached (reached (job_of (tree_of (flow_of job b))) (outcomes b.ran)) n
    && (not (is_some (outcome_at (outcomes b.ran) n)) && have_arrived (flow_of job b) n))
    && not (not (is_live (job_of (tree_of (flow_of job b))) (outcomes b.ran) n)))
    ≡ is_enabled job (outcomes b.ran) b.store n
unfolding is_enabled
enabled-there job b n a e = ap₂ (λ x y. x && y) (ready-same job b n a e) (not-not _ ∙ live-same job b n)

pub claimable-at : (job : Job) (b : Busy) (n : ℕ) (a : Algorithm) → slice_get job.algorithms n ≡ Some a →
    can_claim_in (flow_of job b) n ≡ can_claim job b n
unfolding can_claim
claimable-at job b n a e =
    claimable-parts job b n
    ∙ ap₂ (λ x y. x && not y) (enabled-there job b n a e) (ap is_some (claim-same job b n) ∙ is_some-bare (claim_at b n))

there-is : {X : Type 0} (xs : List X) (n : ℕ) → n < length xs → (x : X) × (slice_get xs n ≡ Some x)
there-is [] n lt = absurd (omega arith)
there-is (x ∷ xs) zero lt = (x, refl)
there-is (x ∷ xs) (suc n) lt = there-is xs n (omega arith)

pub claimable-same : (job : Job) (b : Busy) (n : ℕ) → n < length job.algorithms → can_claim_in (flow_of job b) n ≡ can_claim job b n
claimable-same job b n lt = let a = there-is job.algorithms n lt in claimable-at job b n a.0 a.1

-- what is settled

none-claimed : (claims : List (Option Outstanding)) (n : ℕ) → list_any is_some claims ≡ false →
    is_some (option_flatten (slice_get claims n)) ≡ false
none-claimed [] n e = refl
none-claimed (None ∷ claims) zero e = refl
none-claimed (Some c ∷ claims) zero e = absurd (false≢true (sym e))
none-claimed (None ∷ claims) (suc n) e = none-claimed claims n e
none-claimed (Some c ∷ claims) (suc n) e = absurd (false≢true (sym e))

any-bare : (claims : List (Option Outstanding)) → list_any is_some (map (option_map bare) claims) ≡ list_any is_some claims
any-bare [] = refl
any-bare (None ∷ claims) = any-bare claims
any-bare (Some c ∷ claims) = refl

any-same : (p q : ℕ → Bool) (from count : ℕ) → ((n : ℕ) → from ≤ n → n < from + count → p n ≡ q n) →
    list_any p (range_with_len from count) ≡ list_any q (range_with_len from count)
any-same p q from zero same = refl
any-same p q from (suc count) same =
    ap₂ (λ (x y : Bool). x || y) (same from (omega arith) (omega arith))
    (any-same p q (from + 1) count (λ n low high. same n (omega arith) (omega arith)))

both-where : (p q x y : Bool) → p ≡ q → (q ≡ false → x ≡ y) → (not p && not x) ≡ (not q && not y)
both-where p true x y e same = ap (λ (b : Bool). not b && not x) e
both-where p false x y e same = ap₂ (λ (b c : Bool). not b && not c) e (same refl)

enabled-same : (job : Job) (b : Busy) → list_any is_some b.claims ≡ false → (n : ℕ) → n < length job.algorithms →
    can_claim_in (flow_of job b) n ≡ is_enabled job (outcomes b.ran) b.store n
unfolding can_claim
enabled-same job b none n lt =
    claimable-same job b n lt
    ∙ ap (λ (x : Bool). is_enabled job (outcomes b.ran) b.store n && not x) (none-claimed b.claims n none)
    ∙ and-true (is_enabled job (outcomes b.ran) b.store n)

pub settled-same : (job : Job) (b : Busy) → is_settled_in (flow_of job b) ≡ is_settled job b
unfolding is_settled_in is_settled flow_of
settled-same job b =
    both-where (list_any is_some (map (option_map bare) b.claims)) (list_any is_some b.claims) _ _ (any-bare b.claims) (λ none.
    ap (λ (count : ℕ). list_any (can_claim_in (flow_of job b)) (range_with_len 0 count)) (length-map job.algorithms (λ (a : Algorithm). a.inputs))
    ∙ any-same (can_claim_in (flow_of job b)) (is_enabled job (outcomes b.ran) b.store) 0 (length job.algorithms) (λ n low high.
    enabled-same job b none n (omega arith)))

-- what is told

pub decisions-same : (job : Job) (b : Busy) → decisions_in (flow_of job b) ≡ decisions_of job (outcomes b.ran)
unfolding decisions_in flow_of job_of decision
decisions-same job b = refl

pub ends-same : (job : Job) (b : Busy) → ends_in (flow_of job b) ≡ ends_of job (outcomes b.ran)
unfolding ends_in ends_of flow_of job_of reached decision is_live below
ends-same job b = ap (λ (count : ℕ). map (end_of job (outcomes b.ran)) (range_with_len 0 count)) (length-map job.algorithms (λ (a : Algorithm). a.inputs))
