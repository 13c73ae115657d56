-- The closure is a fixed point of the round. Each round but the last fills at least one place, and there are as many rounds as
-- places; so no algorithm can run in the closure.
use Rattle.std.proofs.Common.{◌≡◌, ℕ, zero, suc, ◌+◌, ◌≤◌, ◌<◌, false, List, [], ◌∷◌, length, Option, Some, None, refl, sym, ap, ap₂, ◌∙◌, subst, ⊎_elim, arith}
use Rattle.std.proofs.lemmas.Bool.{cases_lt, cond-true, false_from_ne_true}
use Rattle.std.proofs.lemmas.List.{length-replicate}
use Rattle.event_laws.proofs.Rounds.{can_run-parts, round-has, round-stays, length-round}
use Rattle.event_laws.proofs.Staying.{AllStay}
use Rattle.hive_model.specs.Closure.{execution_in, round, rounds, closure}
use Rattle.hive_model.specs.Enabled.{can_run}
use Rattle.hive_model.specs.EventRecord.{EventRecord}
use Rattle.hive_model.specs.Job.{Job}
use Rattle.hive_model.specs.Results.{Results, none_ran, ran_at}

-- how many places are empty
abbrev pub empty : {X : Type 0} → List (Option X) → ℕ
empty [] = 0
empty (None ∷ xs) = empty xs + 1
empty (Some x ∷ xs) = empty xs

empty-le : {X : Type 0} (xs later : List (Option X)) → AllStay xs later → empty later ≤ empty xs
empty-le [] [] h = omega arith
empty-le [] (y ∷ later) h = absurd h
empty-le (x ∷ xs) [] h = absurd h
empty-le (None ∷ xs) (None ∷ later) h = omega (arith, empty-le xs later h.1)
empty-le (None ∷ xs) (Some y ∷ later) h = omega (arith, empty-le xs later h.1)
empty-le (Some x ∷ xs) (y ∷ later) h = subst (λ o. empty (o ∷ later) ≤ empty xs) (sym h.0) (empty-le xs later h.1)

pub empty-le-length : {X : Type 0} (xs : List (Option X)) → empty xs ≤ length xs
empty-le-length [] = omega arith
empty-le-length (None ∷ xs) = omega (arith, empty-le-length xs)
empty-le-length (Some x ∷ xs) = omega (arith, empty-le-length xs)

-- where no place was filled, nothing has changed
unfilled : {X : Type 0} (xs later : List (Option X)) → AllStay xs later → empty xs ≤ empty later → later ≡ xs
unfilled [] [] h le = refl
unfilled [] (y ∷ later) h le = absurd h
unfilled (x ∷ xs) [] h le = absurd h
unfilled (None ∷ xs) (None ∷ later) h le = ap (λ them. None ∷ them) (unfilled xs later h.1 (omega arith))
unfilled (None ∷ xs) (Some y ∷ later) h le = absurd (omega (arith, empty-le xs later h.1))
unfilled (Some x ∷ xs) (y ∷ later) h le =
    let rest : empty xs ≤ empty later = subst (λ o. empty xs ≤ empty (o ∷ later)) h.0 le in ap₂ ◌∷◌ h.0 (unfilled xs later h.1 rest)

-- from a fixed point on, rounds change nothing
rounds-fixed : (n : ℕ) (job : Job) (event : EventRecord) (ran : Results) → round job event ran ≡ ran → rounds n job event ran ≡ ran
unfolding rounds
rounds-fixed zero job event ran e = refl
rounds-fixed (suc n) job event ran e = ap (rounds n job event) e ∙ rounds-fixed n job event ran e

-- as many rounds as there are empty places are enough
rounds-enough : (n : ℕ) (job : Job) (event : EventRecord) (ran : Results) → length ran ≡ length job.algorithms → empty ran ≤ n →
    round job event (rounds n job event ran) ≡ rounds n job event ran
unfolding rounds
rounds-enough zero job event ran size few = unfilled ran (round job event ran) (round-stays job event ran size) (omega arith)
rounds-enough (suc n) job event ran size few =
    let next = round job event ran in
    ⊎_elim
    (λ (less : empty next < empty ran). rounds-enough n job event next (length-round job event ran) (omega arith))
    (λ (same : empty ran ≤ empty next).
    let fixed : next ≡ ran = unfilled ran next (round-stays job event ran size) same in
    let last : rounds n job event next ≡ ran = ap (rounds n job event) fixed ∙ rounds-fixed n job event ran fixed in
    ap (round job event) last ∙ fixed ∙ sym last)
    (cases_lt (empty next) (empty ran))

pub closure-fixed : (job : Job) (event : EventRecord) → round job event (closure job event) ≡ closure job event
unfolding closure
closure-fixed job event =
    let size = length-replicate (length job.algorithms) None in
    rounds-enough (length job.algorithms) job event (none_ran job) size (omega (arith, empty-le-length (none_ran job)))

-- in a fixed point nothing can run
pub fixed-settled : (job : Job) (event : EventRecord) (ran : Results) → round job event ran ≡ ran → (number : ℕ) → can_run job event ran number ≡ false
fixed-settled job event ran e number =
    false_from_ne_true (can_run job event ran number) (λ runs.
    let c = can_run-parts job event ran number runs in
    let added : ran_at ran number ≡ Some (execution_in job event ran c.algorithm) =
    ap (λ them. ran_at them number) (sym e) ∙ round-has job event ran number c.algorithm c.there
    ∙ cond-true (can_run job event ran number) (Some (execution_in job event ran c.algorithm)) (ran_at ran number) runs
    in
    let none = c.unrun in
    cc)
