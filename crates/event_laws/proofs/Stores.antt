-- The event store: it has a place for each handle, and where results lie within others, each product in it stays. So an algorithm
-- whose inputs are all there sees the same inputs later.
use Rattle.std.proofs.Common.{◌≡◌, ℕ, zero, suc, ◌+◌, true, is_some, List, [], ◌∷◌, length, map, Option, Some, None, refl, sym, ap, ap₂, ◌∙◌, subst, length-append}
use Rattle.std.specs.List.{enumerate_from, flat_map, cons_option}
use Rattle.std.proofs.lemmas.Bool.{and_parts, and_from}
use Rattle.std.proofs.lemmas.List.{length-map}
use Rattle.event_laws.proofs.Staying.{Stays, AllStay, stays-filled, all_stay-same, all_stay-append, all_stay-at, within-at}
use Rattle.hive_model.specs.Agreement.{AreWithin}
use Rattle.hive_model.specs.Algorithm.{Algorithm}
use Rattle.hive_model.specs.Enabled.{product_in, all_there, inputs_in}
use Rattle.hive_model.specs.EventRecord.{EventRecord}
use Rattle.hive_model.specs.Execution.{Execution}
use Rattle.hive_model.specs.Handles.{handle_count, output_kinds}
use Rattle.hive_model.specs.Job.{Job}
use Rattle.hive_model.specs.Results.{Results, ran_at, fitted, kept, left, left_at, left_by, store}
use Rattle.hive_model.specs.declared.algorithm.Raw.{Raw}
use Rattle.hive_model.specs.declared.product.Product.{Product}

-- how many places

pub length-fitted : (n : ℕ) (cells : List (Option Product)) → length (fitted n cells) ≡ n
length-fitted zero cells = refl
length-fitted (suc n) [] = ap suc (length-fitted n [])
length-fitted (suc n) (cell ∷ cells) = ap suc (length-fitted n cells)

length-left_from : (ran : Results) (from : ℕ) (algorithms : List Algorithm) →
    length (flat_map (left_at ran) (enumerate_from from algorithms)) ≡ length (flat_map output_kinds algorithms)
length-left_from ran from [] = refl
length-left_from ran from (a ∷ algorithms) =
    length-append (left_at ran (from, a)) (flat_map (left_at ran) (enumerate_from (from + 1) algorithms))
    ∙ ap₂ ◌+◌ (length-fitted (length a.outputs) _ ∙ sym (length-map a.outputs _)) (length-left_from ran (from + 1) algorithms)
    ∙ sym (length-append (output_kinds a) (flat_map output_kinds algorithms))

pub length-store : (job : Job) (event : EventRecord) (ran : Results) → length (store job event ran) ≡ handle_count job
unfolding store
length-store job event ran =
    length-append (fitted (length job.raws) event.cells) (left_by job.algorithms ran)
    ∙ ap₂ ◌+◌ (length-fitted (length job.raws) event.cells ∙ sym (length-map job.raws (λ (r : Raw). r.kind))) (length-left_from ran 0 job.algorithms)
    ∙ sym (length-append (map (λ (r : Raw). r.kind) job.raws) (flat_map output_kinds job.algorithms))

-- what stays

-- places that are empty are filled later, or not
empty-stays : (n : ℕ) (cells : List (Option Product)) → AllStay (fitted n []) (fitted n cells)
empty-stays zero cells = tt
empty-stays (suc n) [] = (tt, empty-stays n [])
empty-stays (suc n) (cell ∷ cells) = (tt, empty-stays n cells)

left-stays : (a : Algorithm) (it later : Option Execution) → Stays it later → AllStay (left a it) (left a later)
left-stays a None later h = empty-stays (length a.outputs) (map Some (kept later))
left-stays a (Some x) later h = subst (λ o. AllStay (left a (Some x)) (left a o)) (sym h) (all_stay-same (left a (Some x)))

left_from-stays : (ran others : Results) → AreWithin ran others → (from : ℕ) (algorithms : List Algorithm) →
    AllStay (flat_map (left_at ran) (enumerate_from from algorithms)) (flat_map (left_at others) (enumerate_from from algorithms))
left_from-stays ran others h from [] = tt
left_from-stays ran others h from (a ∷ algorithms) =
    all_stay-append (left a (ran_at ran from)) (left a (ran_at others from)) _ _
    (left-stays a (ran_at ran from) (ran_at others from) (within-at ran others from h)) (left_from-stays ran others h (from + 1) algorithms)

pub store-stays : (job : Job) (event : EventRecord) (ran others : Results) → AreWithin ran others → AllStay (store job event ran) (store job event others)
unfolding store
store-stays job event ran others h =
    let cells = fitted (length job.raws) event.cells in
    all_stay-append cells cells _ _ (all_stay-same cells) (left_from-stays ran others h 0 job.algorithms)

pub product-stays : (job : Job) (event : EventRecord) (ran others : Results) (handle : ℕ) → AreWithin ran others →
    Stays (product_in (store job event ran) handle) (product_in (store job event others) handle)
product-stays job event ran others handle h = all_stay-at (store job event ran) (store job event others) handle (store-stays job event ran others h)

-- an algorithm's inputs

pub there-stays : (places later : List (Option Product)) (inputs : List ℕ) → AllStay places later → all_there places inputs ≡ true → all_there later inputs ≡ true
there-stays places later [] h e = e
there-stays places later (handle ∷ inputs) h e =
    let both = and_parts _ _ e in
    and_from _ _ (ap is_some (stays-filled _ _ (all_stay-at places later handle h) both.0) ∙ both.0) (there-stays places later inputs h both.1)

pub inputs-stay : (places later : List (Option Product)) (inputs : List ℕ) → AllStay places later → all_there places inputs ≡ true →
    inputs_in later inputs ≡ inputs_in places inputs
inputs-stay places later [] h e = refl
inputs-stay places later (handle ∷ inputs) h e =
    let both = and_parts _ _ e in
    ap₂ cons_option (stays-filled _ _ (all_stay-at places later handle h) both.0) (inputs-stay places later inputs h both.1)
