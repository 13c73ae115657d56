-- A flow stays its job's, and follows the scheduler's steps on its event.
use Rattle.std.proofs.Common.{◌≡◌, ℕ, zero, suc, ◌+◌, ◌≤◌, Bool, false, is_some, List, [], ◌∷◌, ◌++◌, length, map, replicate, set, Option, Some, None, refl, sym, ap, ap₂, ◌∙◌, length-append, length-set, arith}
use Rattle.std.specs.List.{flat_map}
use Rattle.std.specs.Option.{option_map}
use Rattle.std.proofs.lemmas.List.{length-map, length-replicate, map-append, map-set}
use Rattle.hive_model.specs.Algorithm.{Algorithm}
use Rattle.hive_model.specs.EventRecord.{EventRecord}
use Rattle.hive_model.specs.Execution.{Execution}
use Rattle.hive_model.specs.Fits.{AreCellsOf, Fits}
use Rattle.hive_model.specs.Handles.{handle_count, output_kinds}
use Rattle.hive_model.specs.Job.{Job}
use Rattle.hive_model.specs.Machine.{Busy, begun}
use Rattle.hive_model.specs.Results.{fitted, kept, left_by, none_ran, outcome_of, store}
use Rattle.hive_model.specs.Sequence.{Sequence}
use Rattle.hive_model.specs.Step.{claimed, completed}
use Rattle.hive_model.specs.declared.algorithm.Raw.{Raw}
use Rattle.hive_model.specs.declared.outcome.Outcome.{Outcome}
use Rattle.hive_model.specs.declared.product.Product.{Product}
use Rattle.event_flow.specs.Events.{IsFlowFor, bare, flow_of}
use Rattle.event_flow.specs.Flow.{Flow, opening_of}
use Rattle.event_flow.specs.Steps.{begun_with, completed_in, filled, with_claim, without_claim}
use Rattle.event_flow.specs.declared.held.Held.{Held}
use Rattle.event_flow.proofs.Marking.{filled-more, flags-fitted, flags-written, length-filled, length-flagged, nothing-left}

-- of the job

pub opening-of_job : (job : Job) → IsFlowFor job (opening_of job)
opening-of_job job = record {
  sequences_are = refl;
  top_is = refl;
  needs_are = refl;
  all_outcomes = length-replicate (length job.algorithms) None;
  all_claims = length-replicate (length job.algorithms) None;
  all_handles = length-replicate (handle_count job) false;
}

pub begun-of_job : (job : Job) (f : Flow) (present : List Bool) → IsFlowFor job f → IsFlowFor job (begun_with f present)
begun-of_job job f present it = record {
  sequences_are = it.sequences_are;
  top_is = it.top_is;
  needs_are = it.needs_are;
  all_outcomes = length-replicate (length f.outcomes) None ∙ it.all_outcomes;
  all_claims = length-replicate (length f.claims) None ∙ it.all_claims;
  all_handles = length-filled (length f.arrived) present ∙ it.all_handles;
}

pub claim-of_job : (job : Job) (f : Flow) (n : ℕ) (held : Held) → IsFlowFor job f → IsFlowFor job (with_claim f n held)
claim-of_job job f n held it = record {
  sequences_are = it.sequences_are;
  top_is = it.top_is;
  needs_are = it.needs_are;
  all_outcomes = it.all_outcomes;
  all_claims = length-set f.claims n (Some held) ∙ it.all_claims;
  all_handles = it.all_handles;
}

pub put_back-of_job : (job : Job) (f : Flow) (n : ℕ) → IsFlowFor job f → IsFlowFor job (without_claim f n)
put_back-of_job job f n it = record {
  sequences_are = it.sequences_are;
  top_is = it.top_is;
  needs_are = it.needs_are;
  all_outcomes = it.all_outcomes;
  all_claims = length-set f.claims n None ∙ it.all_claims;
  all_handles = it.all_handles;
}

pub completed-of_job : (job : Job) (f : Flow) (n : ℕ) (outcome : Outcome) (first count : ℕ) → IsFlowFor job f →
    IsFlowFor job (completed_in f n outcome first count)
completed-of_job job f n outcome first count it = record {
  sequences_are = it.sequences_are;
  top_is = it.top_is;
  needs_are = it.needs_are;
  all_outcomes = length-set f.outcomes n (Some outcome) ∙ it.all_outcomes;
  all_claims = length-set f.claims n None ∙ it.all_claims;
  all_handles = length-flagged first count f.arrived ∙ it.all_handles;
}

pub event-of_job : (job : Job) (b : Busy) → length b.ran ≡ length job.algorithms → length b.store ≡ handle_count job →
    length b.claims ≡ length job.algorithms → IsFlowFor job (flow_of job b)
unfolding flow_of
event-of_job job b ran stored claims = record {
  sequences_are = refl;
  top_is = refl;
  needs_are = refl;
  all_outcomes = length-map b.ran outcome_of ∙ ran;
  all_claims = length-map b.claims (option_map bare) ∙ claims;
  all_handles = length-map b.store is_some ∙ stored;
}

-- steps

-- flows are the same where all their fields are
same-flows : (f g : Flow) → f.sequences ≡ g.sequences → f.top ≡ g.top → f.needs ≡ g.needs → f.outcomes ≡ g.outcomes →
    f.claims ≡ g.claims → f.arrived ≡ g.arrived → f ≡ g
same-flows f g s t n o c a =
    ap (λ (x : List Sequence). record f { sequences = x }) s
    ∙ ap (λ (x : ℕ). record f { sequences = g.sequences; top = x }) t
    ∙ ap (λ (x : List (List ℕ)). record f { sequences = g.sequences; top = g.top; needs = x }) n
    ∙ ap (λ (x : List (Option Outcome)). record g { outcomes = x; claims = f.claims; arrived = f.arrived }) o
    ∙ ap (λ (x : List (Option Held)). record g { claims = x; arrived = f.arrived }) c
    ∙ ap (λ (x : List Bool). record g { arrived = x }) a

length-cells : (raws : List Raw) (cells : List (Option Product)) → AreCellsOf raws cells → length cells ≡ length raws
length-cells [] [] h = refl
length-cells [] (cell ∷ cells) h = absurd h
length-cells (r ∷ raws) [] h = absurd h
length-cells (r ∷ raws) (None ∷ cells) h = ap suc (length-cells raws cells h)
length-cells (r ∷ raws) (Some p ∷ cells) h = ap suc (length-cells raws cells h.1)

none-mapped : {X Y : Type 0} (f : X → Y) (n : ℕ) → map (option_map f) (replicate n None) ≡ replicate n None
none-mapped f zero = refl
none-mapped f (suc n) = ap (λ them. None ∷ them) (none-mapped f n)

store-begun : (job : Job) (event : EventRecord) → Fits job event →
    map is_some (store job event (none_ran job)) ≡ filled (handle_count job) (map is_some event.cells)
unfolding store
store-begun job event fits =
    let cells : length (map is_some event.cells) ≤ length job.raws =
    omega (arith, length-map event.cells is_some, length-cells job.raws event.cells fits) in
    let handles : length job.raws + length (flat_map output_kinds job.algorithms) ≡ handle_count job =
    ap (λ k. k + length (flat_map output_kinds job.algorithms)) (sym (length-map job.raws (λ (r : Raw). r.kind)))
    ∙ sym (length-append (map (λ (r : Raw). r.kind) job.raws) (flat_map output_kinds job.algorithms)) in
    map-append is_some (fitted (length job.raws) event.cells) (left_by job.algorithms (none_ran job))
    ∙ ap₂ ◌++◌ (flags-fitted (length job.raws) event.cells) (nothing-left (length job.algorithms) 0 job.algorithms)
    ∙ sym
    (filled-more (length job.raws) (length (flat_map output_kinds job.algorithms)) (handle_count job) (map is_some event.cells) handles cells)

pub begun-follows : (job : Job) (f : Flow) (place : ℕ) (event : EventRecord) → IsFlowFor job f → Fits job event →
    flow_of job (begun job place event) ≡ begun_with f (map is_some event.cells)
unfolding flow_of begun
begun-follows job f place event it fits =
    same-flows (flow_of job (begun job place event)) (begun_with f (map is_some event.cells)) (sym it.sequences_are) (sym it.top_is) (sym it.needs_are)
    (none-mapped (λ (x : Execution). x.outcome) (length job.algorithms) ∙ ap (λ k. replicate k None) (sym it.all_outcomes))
    (none-mapped bare (length job.algorithms) ∙ ap (λ k. replicate k None) (sym it.all_claims))
    (store-begun job event fits ∙ ap (λ k. filled k (map is_some event.cells)) (sym it.all_handles))

pub claimed-follows : (job : Job) (b : Busy) (n : ℕ) (a : Algorithm) (ticket : ℕ) (clone : Option ℕ) →
    flow_of job (claimed b n a ticket clone) ≡ with_claim (flow_of job b) n (record { ticket = ticket; clone = clone })
unfolding flow_of claimed
claimed-follows job b n a ticket clone =
    ap (λ claims. record (flow_of job b) { claims = claims }) (map-set (option_map bare) b.claims n _)

pub put_back-follows : (job : Job) (b : Busy) (n : ℕ) →
    flow_of job (record b { claims = set b.claims n None }) ≡ without_claim (flow_of job b) n
unfolding flow_of
put_back-follows job b n = ap (λ claims. record (flow_of job b) { claims = claims }) (map-set (option_map bare) b.claims n None)

pub completed-follows : (job : Job) (b : Busy) (n : ℕ) (a : Algorithm) (it : Execution) →
    flow_of job (completed b n a it) ≡ completed_in (flow_of job b) n it.outcome a.first_output (length (kept (Some it)))
unfolding flow_of completed
completed-follows job b n a it =
    same-flows (flow_of job (completed b n a it)) (completed_in (flow_of job b) n it.outcome a.first_output (length (kept (Some it)))) refl refl refl
    (map-set outcome_of b.ran n (Some it)) (map-set (option_map bare) b.claims n None)
    (flags-written a.first_output (kept (Some it)) b.store)
