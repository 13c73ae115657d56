-- What the store holds, handle by handle: a raw handle's place has the record's cell, and an output's what was kept of its
-- algorithm. An execution that is added to the results is written into the store from its algorithm's first output on.
use Rattle.std.proofs.Common.{◌≡◌, ◌≢◌, ℕ, zero, suc, ◌+◌, ◌-◌, ◌<◌, ◌≤◌, List, [], ◌∷◌, ◌++◌, length, map, set, slice_get, Option, Some, None, refl, sym, ap, ap₂, ◌∙◌, subst, append_assoc, length-append, add-zero, arith}
use Rattle.std.specs.List.{enumerate_from, flat_map}
use Rattle.std.specs.Option.{option_flatten}
use Rattle.std.proofs.lemmas.List.{set_at}
use Rattle.std.proofs.lemmas.Option.{same_Some, none-some}
use Rattle.event_laws.proofs.Stores.{length-fitted}
use Rattle.event_laws.specs.Outputs.{IsOutput}
use Rattle.hive_model.proofs.Lists.{slice_get-append_front, slice_get-append_back}
use Rattle.hive_model.specs.Algorithm.{Algorithm}
use Rattle.hive_model.specs.DataFlow.{AreNumberedFrom}
use Rattle.hive_model.specs.Enabled.{product_in}
use Rattle.hive_model.specs.EventRecord.{EventRecord}
use Rattle.hive_model.specs.Execution.{Execution}
use Rattle.hive_model.specs.Job.{Job}
use Rattle.hive_model.specs.Results.{Results, ran_at, fitted, kept_by, kept, left, left_at, store}
use Rattle.hive_model.specs.Step.{written}
use Rattle.hive_model.specs.declared.outcome.Outcome.{Outcome}
use Rattle.hive_model.specs.declared.product.Product.{Product}

fitted-at : (n : ℕ) (cells : List (Option Product)) (i : ℕ) → i < n → product_in (fitted n cells) i ≡ product_in cells i
fitted-at zero cells i h = absurd (omega arith)
fitted-at (suc n) [] zero h = refl
fitted-at (suc n) [] (suc i) h = fitted-at n [] i (omega arith)
fitted-at (suc n) (cell ∷ cells) zero h = refl
fitted-at (suc n) (cell ∷ cells) (suc i) h = fitted-at n cells i (omega arith)

somes-at : (ps : List Product) (i : ℕ) → product_in (map Some ps) i ≡ slice_get ps i
somes-at [] i = refl
somes-at (p ∷ ps) zero = refl
somes-at (p ∷ ps) (suc i) = somes-at ps i

front-place : (xs ys : List (Option Product)) (handle : ℕ) → handle < length xs → product_in (xs ++ ys) handle ≡ product_in xs handle
front-place xs ys handle h = ap option_flatten (slice_get-append_front xs ys handle h)

back-place : (xs ys : List (Option Product)) (handle i : ℕ) → handle ≡ length xs + i → product_in (xs ++ ys) handle ≡ product_in ys i
back-place xs ys handle i e =
    let past : length xs ≤ handle = omega arith in
    let same : handle - length xs ≡ i = omega arith in
    ap option_flatten (slice_get-append_back xs ys handle past ∙ ap (slice_get ys) same)

pub raw-place : (job : Job) (event : EventRecord) (ran : Results) (handle : ℕ) → handle < length job.raws →
    product_in (store job event ran) handle ≡ product_in event.cells handle
unfolding store
raw-place job event ran handle h =
    let within : handle < length (fitted (length job.raws) event.cells) = omega (arith, length-fitted (length job.raws) event.cells) in
    front-place (fitted (length job.raws) event.cells) _ handle within ∙ fitted-at (length job.raws) event.cells handle h

-- behind a front, the places of the algorithms from a number on

length-more : (front : List (Option Product)) (a : Algorithm) (it : Option Execution) → length front + length a.outputs ≡ length (front ++ left a it)
length-more front a it =
    ap (λ k. length front + k) (sym (length-fitted (length a.outputs) (map Some (kept it)))) ∙ sym (length-append front (left a it))

behind-cells : (job : Job) (event : EventRecord) → AreNumberedFrom (length job.raws) job.algorithms →
    AreNumberedFrom (length (fitted (length job.raws) event.cells)) job.algorithms
behind-cells job event numbered = subst (λ n. AreNumberedFrom n job.algorithms) (sym (length-fitted (length job.raws) event.cells)) numbered

left-place : (ran : Results) (front : List (Option Product)) (from : ℕ) (algorithms : List Algorithm) (n i : ℕ) (a : Algorithm) →
    AreNumberedFrom (length front) algorithms → slice_get algorithms n ≡ Some a → i < length a.outputs →
    product_in (front ++ flat_map (left_at ran) (enumerate_from from algorithms)) (a.first_output + i) ≡ slice_get (kept (ran_at ran (from + n))) i
left-place ran front from [] n i a numbered there h = absurd (none-some a there)
left-place ran front from (b ∷ algorithms) zero i a numbered there h =
    let own : b ≡ a = same_Some b a there in
    let here : a.first_output + i ≡ length front + i = ap (λ (x : Algorithm). x.first_output + i) (sym own) ∙ ap (λ n. n + i) numbered.0 in
    let within : i < length (left b (ran_at ran from)) =
    omega (arith, length-fitted (length b.outputs) (map Some (kept (ran_at ran from))), ap (λ (x : Algorithm). length x.outputs) own)
    in
    let few : i < length b.outputs = subst (λ (x : Algorithm). i < length x.outputs) (sym own) h in
    back-place front _ (a.first_output + i) i here
    ∙ front-place (left b (ran_at ran from)) (flat_map (left_at ran) (enumerate_from (from + 1) algorithms)) i within
    ∙ fitted-at (length b.outputs) (map Some (kept (ran_at ran from))) i few
    ∙ somes-at (kept (ran_at ran from)) i
    ∙ ap (λ number. slice_get (kept (ran_at ran number)) i) (sym (add-zero from))
left-place ran front from (b ∷ algorithms) (suc n) i a numbered there h =
    let own = left b (ran_at ran from) in
    let rest = flat_map (left_at ran) (enumerate_from (from + 1) algorithms) in
    let next : from + 1 + n ≡ from + suc n = omega arith in
    ap (λ them. product_in them (a.first_output + i)) (sym (append_assoc front own rest))
    ∙ left-place ran (front ++ own) (from + 1) algorithms n i a
    (subst (λ k. AreNumberedFrom k algorithms) (length-more front b (ran_at ran from)) numbered.1) there h
    ∙ ap (λ number. slice_get (kept (ran_at ran number)) i) next

pub output-place : (job : Job) (event : EventRecord) (ran : Results) (number i handle : ℕ) → AreNumberedFrom (length job.raws) job.algorithms →
    IsOutput job number i handle → product_in (store job event ran) handle ≡ slice_get (kept (ran_at ran number)) i
unfolding store
output-place job event ran number i handle numbered out =
    let cells = fitted (length job.raws) event.cells in
    ap (product_in (store job event ran)) out.at
    ∙ left-place ran cells 0 job.algorithms number i out.algorithm (behind-cells job event numbered) out.there out.within
    ∙ ap (λ n. slice_get (kept (ran_at ran n)) i) (omega arith)

-- by how the algorithm ended

pub kept-place : (job : Job) (event : EventRecord) (ran : Results) (number i handle : ℕ) (it : Execution) (o : Outcome) →
    AreNumberedFrom (length job.raws) job.algorithms → IsOutput job number i handle → ran_at ran number ≡ Some it → it.outcome ≡ o →
    product_in (store job event ran) handle ≡ slice_get (kept_by o it.outputs) i
kept-place job event ran number i handle it o numbered out has e =
    output-place job event ran number i handle numbered out ∙ ap (λ x. slice_get (kept x) i) has ∙ ap (λ x. slice_get (kept_by x it.outputs) i) e

pub unrun-place : (job : Job) (event : EventRecord) (ran : Results) (number i handle : ℕ) → AreNumberedFrom (length job.raws) job.algorithms →
    IsOutput job number i handle → ran_at ran number ≡ None → product_in (store job event ran) handle ≡ None
unrun-place job event ran number i handle numbered out none =
    output-place job event ran number i handle numbered out ∙ ap (λ x. slice_get (kept x) i) none

-- an execution that is written

-- into empty places behind a front
written-places : (ps : List Product) (n : ℕ) (front rest : List (Option Product)) (handle : ℕ) → handle ≡ length front → length ps ≤ n →
    written handle ps (front ++ (fitted n [] ++ rest)) ≡ front ++ (fitted n (map Some ps) ++ rest)
written-places [] n front rest handle e few = refl
written-places (p ∷ ps) zero front rest handle e few = absurd (omega arith)
written-places (p ∷ ps) (suc n) front rest handle e few =
    let one : List (Option Product) = Some p ∷ [] in
    let more : handle + 1 ≡ length (front ++ one) = omega (arith, length-append front one) in
    ap (written (handle + 1) ps)
    (set_at front None (fitted n [] ++ rest) (Some p) handle (sym e) ∙ sym (append_assoc front one (fitted n [] ++ rest)))
    ∙ written-places ps n (front ++ one) rest (handle + 1) more (omega arith)
    ∙ append_assoc front one (fitted n (map Some ps) ++ rest)

ran_at-set_other : (ran : Results) (number n : ℕ) (it : Option Execution) → n ≢ number → ran_at (set ran number it) n ≡ ran_at ran n
ran_at-set_other [] number n it other = refl
ran_at-set_other (x ∷ ran) zero zero it other = absurd (other refl)
ran_at-set_other (x ∷ ran) zero (suc n) it other = refl
ran_at-set_other (x ∷ ran) (suc number) zero it other = refl
ran_at-set_other (x ∷ ran) (suc number) (suc n) it other = ran_at-set_other ran number n it (omega arith)

ran_at-set_same : (ran : Results) (number : ℕ) (it : Option Execution) → number < length ran → ran_at (set ran number it) number ≡ it
ran_at-set_same [] number it h = absurd (omega arith)
ran_at-set_same (x ∷ ran) zero it h = refl
ran_at-set_same (x ∷ ran) (suc number) it h = ran_at-set_same ran number it (omega arith)

-- algorithms behind the one that was added
left-behind : (ran : Results) (number : ℕ) (it : Option Execution) (from : ℕ) (algorithms : List Algorithm) → number < from →
    flat_map (left_at (set ran number it)) (enumerate_from from algorithms) ≡ flat_map (left_at ran) (enumerate_from from algorithms)
left-behind ran number it from [] h = refl
left-behind ran number it from (a ∷ algorithms) h =
    ap₂ ◌++◌ (ap (left a) (ran_at-set_other ran number from it (omega arith))) (left-behind ran number it (from + 1) algorithms (omega arith))

left-written : (ran : Results) (front : List (Option Product)) (from : ℕ) (algorithms : List Algorithm) (n number : ℕ) (a : Algorithm) (it : Execution) →
    number ≡ from + n → AreNumberedFrom (length front) algorithms → slice_get algorithms n ≡ Some a → number < length ran → ran_at ran number ≡ None →
    length (kept (Some it)) ≤ length a.outputs →
    front ++ flat_map (left_at (set ran number (Some it))) (enumerate_from from algorithms)
    ≡ written a.first_output (kept (Some it)) (front ++ flat_map (left_at ran) (enumerate_from from algorithms))
left-written ran front from [] n number a it at numbered there h none few = absurd (none-some a there)
left-written ran front from (b ∷ algorithms) zero number a it at numbered there h none few =
    let own : b ≡ a = same_Some b a there in
    let here : number ≡ from = omega arith in
    let behind : number < from + 1 = omega arith in
    let rest = flat_map (left_at ran) (enumerate_from (from + 1) algorithms) in
    let new : ran_at (set ran number (Some it)) from ≡ Some it = ap (ran_at (set ran number (Some it))) (sym here) ∙ ran_at-set_same ran number (Some it) h in
    let old : ran_at ran from ≡ None = ap (ran_at ran) (sym here) ∙ none in
    let first : a.first_output ≡ length front = ap (λ (x : Algorithm). x.first_output) (sym own) ∙ numbered.0 in
    let enough : length (kept (Some it)) ≤ length b.outputs = subst (λ (x : Algorithm). length (kept (Some it)) ≤ length x.outputs) (sym own) few in
    ap₂ (λ x ys. front ++ (left b x ++ ys)) new (left-behind ran number (Some it) (from + 1) algorithms behind)
    ∙ sym (written-places (kept (Some it)) (length b.outputs) front rest a.first_output first enough)
    ∙ ap (λ x. written a.first_output (kept (Some it)) (front ++ (left b x ++ rest))) (sym old)
left-written ran front from (b ∷ algorithms) (suc n) number a it at numbered there h none few =
    let own = left b (ran_at ran from) in
    let rest = flat_map (left_at ran) (enumerate_from (from + 1) algorithms) in
    let after = flat_map (left_at (set ran number (Some it))) (enumerate_from (from + 1) algorithms) in
    let other : from ≢ number = omega arith in
    let next : number ≡ from + 1 + n = omega arith in
    ap (λ x. front ++ (left b x ++ after)) (ran_at-set_other ran number from (Some it) other)
    ∙ sym (append_assoc front own after)
    ∙ left-written ran (front ++ own) (from + 1) algorithms n number a it next
    (subst (λ k. AreNumberedFrom k algorithms) (length-more front b (ran_at ran from)) numbered.1) there h none few
    ∙ ap (written a.first_output (kept (Some it))) (append_assoc front own rest)

pub store-written : (job : Job) (event : EventRecord) (ran : Results) (number : ℕ) (a : Algorithm) (it : Execution) →
    AreNumberedFrom (length job.raws) job.algorithms → slice_get job.algorithms number ≡ Some a → number < length ran → ran_at ran number ≡ None →
    length (kept (Some it)) ≤ length a.outputs →
    store job event (set ran number (Some it)) ≡ written a.first_output (kept (Some it)) (store job event ran)
unfolding store
store-written job event ran number a it numbered there h none few =
    left-written ran (fitted (length job.raws) event.cells) 0 job.algorithms number number a it (omega arith) (behind-cells job event numbered) there h none few
