-- Results that are made of additions lie within the closure, whatever the order, and the closure is made of additions: adding
-- what can run until nothing can leads to it.
use Rattle.std.proofs.Common.{◌≡◌, ℕ, zero, suc, ◌+◌, ◌<◌, ◌≤◌, ◌⊎◌, inl, inr, ⊎_elim, true, false, List, [], ◌∷◌, length, set, slice_get, Option, Some, None, refl, sym, ap, ◌∙◌, subst, length-set, arith}
use Rattle.std.specs.List.{list_any, range_with_len}
use Rattle.std.specs.Option.{option_flatten}
use Rattle.std.proofs.lemmas.Bool.{cases_Bool}
use Rattle.std.proofs.lemmas.List.{length-replicate}
use Rattle.std.proofs.lemmas.List.Folds.{Any-from_list_any}
use Rattle.std.proofs.lemmas.Option.{same_Some, none-some, slice_get_within}
use Rattle.event_laws.proofs.Fixed.{empty, empty-le-length}
use Rattle.event_laws.proofs.Rounds.{CanRun, can_run-parts, none-passes, runs-within, length-closure}
use Rattle.event_laws.proofs.Within.{ran_at-none, same-results, runs-in_closure, settled-closure}
use Rattle.event_laws.specs.Additions.{IsAddition, AreMadeBy, AreMadeOfAdditions}
use Rattle.event_laws.specs.Rest.{NothingCanRun}
use Rattle.hive_model.specs.Agreement.{AreWithin}
use Rattle.hive_model.specs.Closure.{execution_in, closure}
use Rattle.hive_model.specs.Enabled.{can_run}
use Rattle.hive_model.specs.EventRecord.{EventRecord}
use Rattle.hive_model.specs.Execution.{Execution}
use Rattle.hive_model.specs.Job.{Job}
use Rattle.hive_model.specs.Results.{Results, ran_at, none_ran}

ran_at-set : (ran : Results) (number n : ℕ) (x it : Execution) → ran_at (set ran number (Some x)) n ≡ Some it → ((n ≡ number) × (x ≡ it)) ⊎ (ran_at ran n ≡ Some it)
ran_at-set [] number n x it e = inr e
ran_at-set (y ∷ ran) zero zero x it e = inl (refl, same_Some x it e)
ran_at-set (y ∷ ran) zero (suc n) x it e = inr e
ran_at-set (y ∷ ran) (suc number) zero x it e = inr e
ran_at-set (y ∷ ran) (suc number) (suc n) x it e = ⊎_elim (λ h. inl (ap suc h.0, h.1)) (λ h. inr h) (ran_at-set ran number n x it e)

-- one addition keeps results within the closure
pub addition-within : (job : Job) (event : EventRecord) (ran later : Results) (number : ℕ) → AreWithin ran (closure job event) →
    IsAddition job event ran number later → AreWithin later (closure job event)
addition-within job event ran later number h add n it e =
    let made = execution_in job event ran add.algorithm in
    let has : ran_at (closure job event) number ≡ Some made = runs-in_closure job event ran number add.algorithm h add.runs add.there in
    ⊎_elim
    (λ (new : (n ≡ number) × (made ≡ it)). ap (ran_at (closure job event)) new.0 ∙ has ∙ ap Some new.1)
    (λ (old : ran_at ran n ≡ Some it). h n it old)
    (ran_at-set ran number n made it (sym (ap (λ them. ran_at them n) add.added) ∙ e))

made-within : (job : Job) (event : EventRecord) (numbers : List ℕ) (ran : Results) → AreMadeBy job event numbers ran → AreWithin ran (closure job event)
made-within job event [] ran made =
    λ number it e. absurd (none-some it (sym (ap (λ them. ran_at them number) made ∙ ran_at-none (length job.algorithms) number) ∙ e))
made-within job event (number ∷ earlier) ran made =
    addition-within job event made.0 ran number (made-within job event earlier made.0 made.1) made.2

pub additions-within : (job : Job) (event : EventRecord) (ran : Results) → AreMadeOfAdditions job event ran → AreWithin ran (closure job event)
additions-within job event ran made = made-within job event made.0 ran made.1

length-made : (job : Job) (event : EventRecord) (numbers : List ℕ) (ran : Results) → AreMadeBy job event numbers ran → length ran ≡ length job.algorithms
length-made job event [] ran made = ap length made ∙ length-replicate (length job.algorithms) None
length-made job event (number ∷ earlier) ran made =
    ap length made.2.added ∙ length-set made.0 number _ ∙ length-made job event earlier made.0 made.1

pub length-additions : (job : Job) (event : EventRecord) (ran : Results) → AreMadeOfAdditions job event ran → length ran ≡ length job.algorithms
length-additions job event ran made = length-made job event made.0 ran made.1

pub settled-additions : (job : Job) (event : EventRecord) (ran : Results) → AreMadeOfAdditions job event ran → NothingCanRun job event ran →
    ran ≡ closure job event
settled-additions job event ran made settled =
    same-results ran (closure job event) (length-additions job event ran made ∙ sym (length-closure job event))
    (settled-closure job event ran (additions-within job event ran made) settled)

-- adding until nothing can run

empty-set : {X : Type 0} (xs : List (Option X)) (i : ℕ) (x : X) → i < length xs → option_flatten (slice_get xs i) ≡ None → empty (set xs i (Some x)) + 1 ≡ empty xs
empty-set [] i x h e = absurd (omega arith)
empty-set (None ∷ xs) zero x h e = refl
empty-set (Some y ∷ xs) zero x h e = cc
empty-set (None ∷ xs) (suc i) x h e = omega (arith, empty-set xs i x (omega arith) e)
empty-set (Some y ∷ xs) (suc i) x h e = empty-set xs i x (omega arith) e

-- one more addition
abbrev with_run : (job : Job) (event : EventRecord) (ran : Results) (number : ℕ) → CanRun job event ran number → Results
with_run job event ran number c = set ran number (Some (execution_in job event ran c.algorithm))

pub additions-more : (job : Job) (event : EventRecord) (ran later : Results) (number : ℕ) → AreMadeOfAdditions job event ran →
    IsAddition job event ran number later → AreMadeOfAdditions job event later
additions-more job event ran later number made add = (number ∷ made.0, (ran, made.1, add))

made-more : (job : Job) (event : EventRecord) (ran : Results) (number : ℕ) → AreMadeOfAdditions job event ran → can_run job event ran number ≡ true →
    (c : CanRun job event ran number) → AreMadeOfAdditions job event (with_run job event ran number c)
made-more job event ran number made runs c =
    additions-more job event ran (with_run job event ran number c) number made (record { algorithm = c.algorithm; there = c.there; runs = runs; added = refl })

-- it fills an empty place
fewer-empty : (job : Job) (event : EventRecord) (ran : Results) (number : ℕ) → length ran ≡ length job.algorithms → (c : CanRun job event ran number) →
    empty (with_run job event ran number c) + 1 ≡ empty ran
fewer-empty job event ran number size c =
    let within = slice_get_within job.algorithms number c.algorithm c.there in
    empty-set ran number (execution_in job event ran c.algorithm) (omega arith) c.unrun

-- a number that can run, or none can
runnable : (job : Job) (event : EventRecord) (ran : Results) → ((number : ℕ) × (can_run job event ran number ≡ true)) ⊎ NothingCanRun job event ran
runnable job event ran =
    let numbers = range_with_len 0 (length job.algorithms) in
    ⊎_elim
    (λ (e : list_any (can_run job event ran) numbers ≡ true). let any = Any-from_list_any (can_run job event ran) numbers e in inl (any.1, any.4))
    (λ (e : list_any (can_run job event ran) numbers ≡ false). inr (none-passes (can_run job event ran) (length job.algorithms) (runs-within job event ran) e))
    (cases_Bool (list_any (can_run job event ran) numbers))

finished : (n : ℕ) (job : Job) (event : EventRecord) (ran : Results) → AreMadeOfAdditions job event ran → empty ran ≤ n →
    (last : Results) × AreMadeOfAdditions job event last × NothingCanRun job event last
finished zero job event ran made few =
    ⊎_elim
    (λ (next : (number : ℕ) × (can_run job event ran number ≡ true)).
    let less = fewer-empty job event ran next.0 (length-additions job event ran made) (can_run-parts job event ran next.0 next.1) in
    absurd (omega arith))
    (λ (settled : NothingCanRun job event ran). (ran, made, settled))
    (runnable job event ran)
finished (suc n) job event ran made few =
    ⊎_elim
    (λ (next : (number : ℕ) × (can_run job event ran number ≡ true)).
    let c = can_run-parts job event ran next.0 next.1 in
    let less = fewer-empty job event ran next.0 (length-additions job event ran made) c in
    finished n job event (with_run job event ran next.0 c) (made-more job event ran next.0 made next.1 c) (omega arith))
    (λ (settled : NothingCanRun job event ran). (ran, made, settled))
    (runnable job event ran)

pub closure-additions : (job : Job) (event : EventRecord) → AreMadeOfAdditions job event (closure job event)
closure-additions job event =
    let start : AreMadeOfAdditions job event (none_ran job) = ([], refl) in
    let few : empty (none_ran job) ≤ length job.algorithms =
    omega (arith, empty-le-length (none_ran job), length-replicate {A = Option Execution} (length job.algorithms) None)
    in
    let last = finished (length job.algorithms) job event (none_ran job) start few in
    subst (AreMadeOfAdditions job event) (settled-additions job event last.0 last.1 last.2) last.1
