-- Algorithms that are ready and live, as they are looked for in number order.
use Rattle.std.proofs.Common.{◌≡◌, ⊎_elim, ℕ, ◌+◌, ◌<◌, ◌≤◌, ◌&&◌, Bool, true, false, not, ap, ◌∙◌, subst, arith}
use Rattle.std.proofs.lemmas.Bool.{and_from, cases_lt}
use Rattle.std.proofs.Math.Bool.{and-false}
use Rattle.algo_states.specs.States.{States, is_data_ready}
use Rattle.decision_nodes.specs.Tree.{Tree, is_withdrawn_in}
use Rattle.event_flow.specs.Claims.{is_live_ready}

pub live-found : (tree : Tree) (states : States) (n : ℕ) → is_data_ready states n ≡ true → is_withdrawn_in tree n ≡ false →
    is_live_ready tree states n ≡ true
unfolding is_live_ready
live-found tree states n ready live = and_from _ _ ready (ap not live)

pub live-unready : (tree : Tree) (states : States) (n : ℕ) → is_data_ready states n ≡ false → is_live_ready tree states n ≡ false
unfolding is_live_ready
live-unready tree states n unready = ap (λ (b : Bool). b && not (is_withdrawn_in tree n)) unready

pub live-withdrawn : (tree : Tree) (states : States) (n : ℕ) → is_withdrawn_in tree n ≡ true → is_live_ready tree states n ≡ false
unfolding is_live_ready
live-withdrawn tree states n gone = ap (λ (b : Bool). is_data_ready states n && not b) gone ∙ and-false (is_data_ready states n)

-- none is live from the start up to a number, and none is ready from there on
pub live-passed : (tree : Tree) (states : States) (from at n : ℕ) →
    ((k : ℕ) → from ≤ k → k < at → is_live_ready tree states k ≡ false) → from ≤ n → (at ≤ n → is_data_ready states n ≡ false) →
    is_live_ready tree states n ≡ false
live-passed tree states from at n none low unready =
    ⊎_elim (λ (below : n < at). none n low below) (λ (above : at ≤ n). live-unready tree states n (unready above)) (cases_lt n at)

-- and the one there is ready, but withdrawn
pub live-after : (tree : Tree) (states : States) (from at number n : ℕ) →
    ((k : ℕ) → from ≤ k → k < at → is_live_ready tree states k ≡ false) → is_withdrawn_in tree number ≡ true →
    ((k : ℕ) → at ≤ k → k < number → is_data_ready states k ≡ false) → from ≤ n → n < number + 1 →
    is_live_ready tree states n ≡ false
live-after tree states from at number n none gone unready low high =
    ⊎_elim
    (λ (below : n < number). live-passed tree states from at n none low (λ above. unready n above below))
    (λ (last : number ≤ n).
    let same : number ≡ n = omega arith in
    live-withdrawn tree states n (subst (λ (k : ℕ). is_withdrawn_in tree k ≡ true) same gone))
    (cases_lt n number)
