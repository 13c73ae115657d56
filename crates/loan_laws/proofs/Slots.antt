-- The claims of one slot change: what becomes of the counts over all slots, and of the units.
use Rattle.std.proofs.Common.{◌≡◌, ◌≢◌, ℕ, ◌+◌, nat_eq, Bool, false, ◌&&◌, is_some, is_none, List, [], ◌∷◌, count_by, set, slice_get, Option, Some, None, refl, ap, sym, ◌∙◌, arith}
use Rattle.std.specs.List.{enumerate_from}
use Rattle.std.specs.Option.{option_eq, option_map_or}
use Rattle.hive_model.specs.Algorithm.{Algorithm}
use Rattle.hive_model.specs.Job.{Job}
use Rattle.hive_model.specs.Lending.{names_resource, units_in}
use Rattle.hive_model.specs.Machine.{Busy, Outstanding, claim_in}
use Rattle.loan_laws.proofs.Counting.{bit, count-cons, count-same, one-other, sum-changed}

-- one algorithm's claim is `c` at first and `d` then, and each other one is as before
pub record SlotMoves (number : ℕ) (old new : Option Busy) (c d : Option Outstanding) : Type 0 where
  pub had : claim_in number old ≡ c
  pub has : claim_in number new ≡ d
  pub others : (n : ℕ) → n ≢ number → claim_in n new ≡ claim_in n old

-- what a claim is to the counts

abbrev pub of_clone : ℕ → Option Outstanding → Bool
of_clone k claim = option_map_or (λ (it : Outstanding). option_eq nat_eq it.clone (Some k)) claim false

abbrev pub of_none : Option Outstanding → Bool
of_none claim = option_map_or (λ (it : Outstanding). is_none it.clone) claim false

pub claims-counted : (test : Option Outstanding → Bool) (n : ℕ) (slots : List (Option Busy)) (slot : ℕ)
    (old new : Option Busy) (c d : Option Outstanding) → slice_get slots slot ≡ Some old →
    claim_in n old ≡ c → claim_in n new ≡ d →
    count_by (λ s. test (claim_in n s)) (set slots slot new) + bit (test c)
    ≡ count_by (λ s. test (claim_in n s)) slots + bit (test d)
claims-counted test n slots slot old new c d there had has =
    let sums = sum-changed (λ s. bit (test (claim_in n s))) slots slot old new there in
    let before = ap (λ o. bit (test o)) had in
    let after = ap (λ o. bit (test o)) has in
    omega (arith, sums, before, after)

-- where the claim is as before, so is the count
pub claims-kept : (test : Option Outstanding → Bool) (n : ℕ) (slots : List (Option Busy)) (slot : ℕ)
    (old new : Option Busy) → slice_get slots slot ≡ Some old → claim_in n new ≡ claim_in n old →
    count_by (λ s. test (claim_in n s)) (set slots slot new) ≡ count_by (λ s. test (claim_in n s)) slots
claims-kept test n slots slot old new there same =
    let counted = claims-counted test n slots slot old new (claim_in n old)
    (claim_in n old) there refl same in
    omega (arith, counted)

-- units, for an empty slot as for a busy one

abbrev unit_of : ℕ → Option Busy → ℕ × Algorithm → Bool
unit_of r slot (n, a) = is_some (claim_in n slot) && names_resource r a

nobody : {X : Type 0} (xs : List X) → count_by (λ x. false) xs ≡ 0
nobody [] = refl
nobody (x ∷ xs) = omega (arith, count-cons (λ y. false) x xs, nobody xs)

units-counted : (r : ℕ) (job : Job) (slot : Option Busy) →
    units_in r job slot ≡ count_by (unit_of r slot) (enumerate_from 0 job.algorithms)
units-counted r job None = sym (nobody (enumerate_from 0 job.algorithms))
units-counted r job (Some b) = refl

pub units-kept : (r : ℕ) (job : Job) (old new : Option Busy) →
    ((n : ℕ) → claim_in n new ≡ claim_in n old) → units_in r job new ≡ units_in r job old
units-kept r job old new same =
    units-counted r job new
    ∙ (count-same (unit_of r new) (unit_of r old) (enumerate_from 0 job.algorithms)
    (λ it. ap (λ (o : Option Outstanding). is_some o && names_resource r it.1) (same it.0))
    ∙ sym (units-counted r job old))

pub units-moved : (r : ℕ) (job : Job) (number : ℕ) (a : Algorithm) (old new : Option Busy)
    (c d : Option Outstanding) → slice_get job.algorithms number ≡ Some a →
    SlotMoves number old new c d →
    units_in r job new + bit (is_some c && names_resource r a)
    ≡ units_in r job old + bit (is_some d && names_resource r a)
units-moved r job number a old new c d algorithm moves =
    let counted = one-other (unit_of r new) (unit_of r old) 0 number number job.algorithms a algorithm
    (omega arith)
    (λ n x other. ap (λ (o : Option Outstanding). is_some o && names_resource r x) (moves.others n other)) in
    let before = ap (λ (o : Option Outstanding). bit (is_some o && names_resource r a)) moves.had in
    let after = ap (λ (o : Option Outstanding). bit (is_some o && names_resource r a)) moves.has in
    omega (arith, counted, before, after, units-counted r job new, units-counted r job old)
