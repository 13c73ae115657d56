-- `==` is equality of what contracts see: for lists, options and pairs of tests, and for each type of the model.
use Rattle.std.proofs.Common.{◌≡◌, Bool, true, false, refl, ap, subst, ◌&&◌}
use Rattle.std.proofs.lemmas.Bool.Decides.{Decides-int_eq, Decides-eqb}
use mathlib.Core.Bool.{beq}
use Rattle.std.specs.Bool.{Decides}
use Rattle.std.specs.Cmp.{IsEquivalence, nat_eq_equiv, int_eq_equiv}
use Rattle.std.specs.Cmp.Lexicographic.{options_equiv, pointwise, pointwise_decides}
use Rattle.std.specs.Option.{option_eq}
use Rattle.std.specs.Ordering.{int_eq}
use Rattle.std.specs.Prelude.{None, Some, nat_eq}
use Rattle.hive_model.specs.EventRecord.{EventRecord}
use Rattle.hive_model.specs.Job.{Job}
use Rattle.hive_model.specs.declared.expr.Node.TheVariants.{Number, Handle, Negate, Binary, Call}
use Rattle.hive_model.specs.declared.sequence.Member.TheVariants.{Alg, Seq}
use Rattle.hive_model.specs.Same.{same_outcome, same_place, same_fault}
use Rattle.hive_model.specs.declared.outcome.Fault.{Fault}
use Rattle.hive_model.specs.declared.outcome.Fault.TheVariants.{Overflow, DivZero, Empty, Index, TooLong}
use Rattle.hive_model.specs.declared.outcome.Outcome.{Outcome}
use Rattle.hive_model.specs.declared.outcome.Outcome.TheVariants.{Accepted, Rejected, Failed}
use Rattle.hive_model.specs.declared.outcome.Place.{Place}
use Rattle.hive_model.specs.declared.outcome.Place.TheVariants.{Output as At, Filter}
use Rattle.hive_model.specs.declared.product.Product.{Product}
use Rattle.hive_model.specs.declared.product.Product.TheVariants.{Num, List as Numbers}
use Rattle.hive_model.specs.contracts.product.ProductPartialEq.TheImpl.{ghosts as of_products}
use Rattle.hive_model.specs.contracts.algorithm.RawPartialEq.TheImpl.{ghosts as of_raws}
use Rattle.hive_model.specs.contracts.algorithm.RawEq.TheImpl.Laws.{laws-law as raw_law}
use Rattle.hive_model.specs.contracts.algorithm.ResourcePartialEq.TheImpl.{ghosts as of_resources}
use Rattle.hive_model.specs.contracts.algorithm.ResourceEq.TheImpl.Laws.{laws-law as resource_law}
use Rattle.hive_model.specs.contracts.algorithm.OutputPartialEq.TheImpl.{ghosts as of_outputs}
use Rattle.hive_model.specs.contracts.algorithm.OutputEq.TheImpl.Laws.{laws-law as output_law}
use Rattle.hive_model.specs.contracts.algorithm.AlgorithmPartialEq.TheImpl.{ghosts as of_algorithms}
use Rattle.hive_model.specs.contracts.algorithm.AlgorithmEq.TheImpl.Laws.{laws-law as algorithm_law}
use Rattle.hive_model.specs.contracts.expr.NodePartialEq.TheImpl.{ghosts as of_nodes}
use Rattle.hive_model.specs.contracts.expr.NodeEq.TheImpl.Laws.{laws-law as node_law}
use Rattle.hive_model.specs.contracts.expr.ExprPartialEq.TheImpl.{ghosts as of_exprs}
use Rattle.hive_model.specs.contracts.sequence.MemberPartialEq.TheImpl.{ghosts as of_members}
use Rattle.hive_model.specs.contracts.sequence.MemberEq.TheImpl.Laws.{laws-law as member_law}
use Rattle.hive_model.specs.contracts.sequence.SequencePartialEq.TheImpl.{ghosts as of_sequences}
use Rattle.hive_model.specs.contracts.sequence.SequenceEq.TheImpl.Laws.{laws-law as sequence_law}
use Rattle.hive_model.specs.contracts.job.JobPartialEq.TheImpl.{ghosts as of_jobs}
use Rattle.hive_model.specs.contracts.job.JobEq.TheImpl.Laws.{laws-law as job_law}
use Rattle.hive_model.specs.contracts.product.Kind.{the_type as kind_type}
use Rattle.hive_model.specs.contracts.expr.Binary.{the_type as binary_type}
use Rattle.hive_model.specs.contracts.expr.Function.{the_type as function_type}
use denote.Enum.Bare.{same_true}
use Rattle.hive_model.specs.contracts.outcome.Fault.{the_type as fault_type}
use Rattle.hive_model.specs.contracts.outcome.OutcomePartialEq.TheImpl.{ghosts as of_outcomes}
use Rattle.hive_model.specs.contracts.outcome.PlacePartialEq.TheImpl.{ghosts as of_places}
use Rattle.hive_model.specs.contracts.outcome.OutcomeEq.TheImpl.Laws.{laws-law as outcome_law}
use Rattle.hive_model.specs.contracts.record.EventRecordPartialEq.TheImpl.{ghosts as of_records}
use Rattle.hive_model.specs.contracts.record.EventRecordEq.TheImpl.Laws.{laws-law as record_law}
use Rattle.hive_model.specs.contracts.product.ProductEq.TheImpl.Laws.{laws-law as product_law}

-- What a test must tell, beside being an equivalence.
abbrev pub IsSame : {K : Type 0} → (K → K → Bool) → Type 0
IsSame {K} E = (x y : K) → E x y ≡ true → x ≡ y

pub decided : {K : Type 0} {E : K → K → Bool} → IsEquivalence E → IsSame E → (x y : K) → Decides (E x y) (x ≡ y)
decided {E = E} law same x y = (same x y, λ p. subst (λ t. E x t ≡ true) p (law.refl x))

pub both : (x y : Bool) → (x && y) ≡ true → (x ≡ true) × (y ≡ true)
both true true e = (refl, refl)
both true false e = cc
both false y e = cc

pub lists : {K : Type 0} {E : K → K → Bool} → IsEquivalence E → IsSame E → IsSame (pointwise E)
lists law same xs ys e = (pointwise_decides (decided law same) xs ys).0 e

pub options : {K : Type 0} {E : K → K → Bool} → IsSame E → IsSame (option_eq E)
options same None None e = refl
options same None (Some y) e = cc
options same (Some x) None e = cc
options same (Some x) (Some y) e = ap Some (same x y e)

numbers : IsSame int_eq
numbers x y e = (Decides-int_eq x y).0 e

naturals : IsSame nat_eq
naturals x y e = (Decides-eqb x y).0 e

same_products : IsSame of_products.eq
same_products (Num x) (Num y) e = ap Num (numbers x y e)
same_products (Num x) (Numbers ys) e = cc
same_products (Numbers xs) (Num y) e = cc
same_products (Numbers xs) (Numbers ys) e = ap Numbers (lists int_eq_equiv numbers xs ys e)

pub products : (x y : Product) → Decides (of_products.eq x y) (x ≡ y)
products = decided product_law same_products

events : IsSame of_records.eq
events x y e =
    let h = both _ _ e in
    let number = naturals _ _ h.0 in
    let cells = lists (options_equiv product_law) (options same_products) _ _ h.1 in
    λ k. record { event = number k; cells = cells k }

pub records : (x y : EventRecord) → Decides (of_records.eq x y) (x ≡ y)
records = decided record_law events

raws : IsSame of_raws.eq
raws x y e =
    let h = both _ _ e in
    let name = lists nat_eq_equiv naturals _ _ h.0 in
    let kind = same_true kind_type tt _ _ h.1 in
    λ k. record { name = name k; kind = kind k }

resources : IsSame of_resources.eq
resources x y e =
    let h = both _ _ e in
    let name = lists nat_eq_equiv naturals _ _ h.0 in
    let units = naturals _ _ h.1 in
    λ k. record { name = name k; units = units k }

nodes : IsSame of_nodes.eq
nodes (Number x) (Number y) e = ap Number (numbers x y e)
nodes (Handle x) (Handle y) e = ap Handle (naturals x y e)
nodes (Negate x) (Negate y) e = ap Negate (naturals x y e)
nodes (Binary f x y) (Binary g u v) e =
    let h = both _ _ e in
    let rest = both _ _ h.1 in
    let operator = same_true binary_type tt f g h.0 in
    let left = naturals x u rest.0 in
    let right = naturals y v rest.1 in
    λ k. Binary (operator k) (left k) (right k)
nodes (Call f x y) (Call g u v) e =
    let h = both _ _ e in
    let rest = both _ _ h.1 in
    let called = same_true function_type tt f g h.0 in
    let first = naturals x u rest.0 in
    let second = options naturals y v rest.1 in
    λ k. Call (called k) (first k) (second k)
nodes _ _ e = cc

expressions : IsSame of_exprs.eq
expressions = lists node_law nodes

outputs : IsSame of_outputs.eq
outputs x y e =
    let h = both _ _ e in
    let rest = both _ _ h.1 in
    let name = lists nat_eq_equiv naturals _ _ h.0 in
    let kind = same_true kind_type tt _ _ rest.0 in
    let value = expressions _ _ rest.1 in
    λ k. record { name = name k; kind = kind k; value = value k }

algorithms : IsSame of_algorithms.eq
algorithms x y e =
    let named = both _ _ e in
    let counted = both _ _ named.1 in
    let taken = both _ _ counted.1 in
    let fed = both _ _ taken.1 in
    let placed = both _ _ fed.1 in
    let made = both _ _ placed.1 in
    let name = lists nat_eq_equiv naturals _ _ named.0 in
    let cardinality = naturals _ _ counted.0 in
    let resources = lists nat_eq_equiv naturals _ _ taken.0 in
    let inputs = lists nat_eq_equiv naturals _ _ fed.0 in
    let first_output = naturals _ _ placed.0 in
    let outputs = lists output_law outputs _ _ made.0 in
    let filter = options expressions _ _ made.1 in
    λ k. record {
      name = name k;
      cardinality = cardinality k;
      resources = resources k;
      inputs = inputs k;
      first_output = first_output k;
      outputs = outputs k;
      filter = filter k;
    }

flags : (x y : Bool) → beq x y ≡ true → x ≡ y
flags true true e = refl
flags true false e = cc
flags false true e = cc
flags false false e = refl

members : IsSame of_members.eq
members (Alg x) (Alg y) e = ap Alg (naturals x y e)
members (Seq x) (Seq y) e = ap Seq (naturals x y e)
members _ _ e = cc

sequences : IsSame of_sequences.eq
sequences x y e =
    let named = both _ _ e in
    let entered = both _ _ named.1 in
    let either = both _ _ entered.1 in
    let short = both _ _ either.1 in
    let ordered = both _ _ short.1 in
    let inverted = both _ _ ordered.1 in
    let ignored = both _ _ inverted.1 in
    let name = lists nat_eq_equiv naturals _ _ named.0 in
    let members = lists member_law members _ _ entered.0 in
    let mode_or = flags _ _ either.0 in
    let short_circuit = flags _ _ short.0 in
    let sequential = flags _ _ ordered.0 in
    let invert = flags _ _ inverted.0 in
    let ignore_filter = flags _ _ ignored.0 in
    let cut = flags _ _ ignored.1 in
    λ k. record {
      name = name k;
      members = members k;
      mode_or = mode_or k;
      short_circuit = short_circuit k;
      sequential = sequential k;
      invert = invert k;
      ignore_filter = ignore_filter k;
      cut = cut k;
    }

whole : IsSame of_jobs.eq
whole x y e =
    let read = both _ _ e in
    let owned = both _ _ read.1 in
    let computed = both _ _ owned.1 in
    let decided = both _ _ computed.1 in
    let raws = lists raw_law raws _ _ read.0 in
    let resources = lists resource_law resources _ _ owned.0 in
    let algorithms = lists algorithm_law algorithms _ _ computed.0 in
    let sequences = lists sequence_law sequences _ _ decided.0 in
    let top = naturals _ _ decided.1 in
    λ k. record {
      raws = raws k;
      resources = resources k;
      algorithms = algorithms k;
      sequences = sequences k;
      top = top k;
    }

pub jobs : (x y : Job) → Decides (of_jobs.eq x y) (x ≡ y)
jobs = decided job_law whole

-- outcomes, by `==` and by the test of the definitions

places : (x y : Place) → of_places.eq x y ≡ true → x ≡ y
places (At x) (At y) e = ap At (naturals x y e)
places Filter Filter e = refl
places _ _ e = cc

same_outcomes : IsSame of_outcomes.eq
same_outcomes Accepted Accepted e = refl
same_outcomes Rejected Rejected e = refl
same_outcomes (Failed at fault) (Failed other further) e =
    let h = both _ _ e in
    let place = places at other h.0 in
    let cause = same_true fault_type tt fault further h.1 in
    λ k. Failed (place k) (cause k)
same_outcomes _ _ e = cc

pub outcomes : (x y : Outcome) → Decides (of_outcomes.eq x y) (x ≡ y)
outcomes = decided outcome_law same_outcomes

by_fault : (x y : Fault) → same_fault x y ≡ true → x ≡ y
by_fault Overflow Overflow e = refl
by_fault DivZero DivZero e = refl
by_fault Empty Empty e = refl
by_fault Index Index e = refl
by_fault TooLong TooLong e = refl
by_fault _ _ e = cc

fault_itself : (x : Fault) → same_fault x x ≡ true
fault_itself Overflow = refl
fault_itself DivZero = refl
fault_itself Empty = refl
fault_itself Index = refl
fault_itself TooLong = refl

by_place : (x y : Place) → same_place x y ≡ true → x ≡ y
by_place (At x) (At y) e = ap At (naturals x y e)
by_place Filter Filter e = refl
by_place _ _ e = cc

place_itself : (x : Place) → same_place x x ≡ true
place_itself (At x) = (Decides-eqb x x).1 refl
place_itself Filter = refl

by_outcome : (x y : Outcome) → same_outcome x y ≡ true → x ≡ y
by_outcome Accepted Accepted e = refl
by_outcome Rejected Rejected e = refl
by_outcome (Failed at fault) (Failed other further) e =
    let h = both _ _ e in
    let place = by_place at other h.0 in
    let cause = by_fault fault further h.1 in
    λ k. Failed (place k) (cause k)
by_outcome _ _ e = cc

outcome_itself : (x : Outcome) → same_outcome x x ≡ true
outcome_itself Accepted = refl
outcome_itself Rejected = refl
outcome_itself (Failed at fault) = rw (place_itself at) (fault_itself fault)

pub outcomes-by_test : (x y : Outcome) → Decides (same_outcome x y) (x ≡ y)
outcomes-by_test x y = (by_outcome x y, λ p. subst (λ t. same_outcome x t ≡ true) p (outcome_itself x))
