-- A slot and the pool of one algorithm change together, so that the pools stay those of the state.
use Rattle.std.proofs.Common.{◌≡◌, inl, inr, ℕ, ◌+◌, Bool, true, false, ◌&&◌, cond, is_some, List, length, length-set, set, slice_get, Option, Some, refl, ap, sym, subst, ◌∙◌, arith}
use Rattle.std.proofs.lemmas.Bool.{cases_eq}
use Rattle.std.proofs.lemmas.Option.{same_Some, slice_get_within}
use Rattle.clone_pools.specs.Loans.{Pool, Pools, is_named, is_out, loans_of, units_in as units_in_pool, units_out as units_lent, with_pool}
use Rattle.hive_model.specs.Algorithm.{Algorithm}
use Rattle.hive_model.specs.Job.{Job}
use Rattle.hive_model.specs.Lending.{names_resource, units_in, units_out}
use Rattle.hive_model.specs.Machine.{Busy, Outstanding, claim_in}
use Rattle.loan_laws.proofs.Counting.{bit, get-set_other, get-set_same, sum-changed}
use Rattle.loan_laws.proofs.Slots.{SlotMoves, claims-counted, claims-kept, of_clone, of_none, units-kept, units-moved}
use Rattle.loan_laws.specs.Loans.{ArePoolsOf, IsPoolOf}

-- the pool goes with the claim of its algorithm from `c` to `d`
pub record PoolMoves (p q : Pool) (c d : Option Outstanding) : Type 0 where
  pub resources : q.resources ≡ p.resources
  pub room : q.room ≡ p.room
  pub instances : length q.lent ≡ length p.lent
  pub lent : (k : ℕ) → bit (is_out q (Some k)) + bit (of_clone k c)
      ≡ bit (is_out p (Some k)) + bit (of_clone k d)
  pub running : q.running + bit (of_none c) ≡ p.running + bit (of_none d)
  pub loans : loans_of q + bit (is_some c) ≡ loans_of p + bit (is_some d)

pool-moved : (slots : List (Option Busy)) (slot number : ℕ) (old new : Option Busy) (a : Algorithm)
    (p q : Pool)
    (c d : Option Outstanding) → slice_get slots slot ≡ Some old → SlotMoves number old new c d →
    PoolMoves p q c d → IsPoolOf slots number a p → IsPoolOf (set slots slot new) number a q
pool-moved slots slot number old new a p q c d there moves pool is = record {
  resources = pool.resources ∙ is.resources;
  room = pool.room ∙ is.room;
  instances = pool.instances ∙ is.instances;
  lent = λ k. omega (
    arith,
    claims-counted (of_clone k) number slots slot old new c d there moves.had moves.has,
    is.lent k,
    pool.lent k,
  );
  running = omega (
    arith,
    claims-counted of_none number slots slot old new c d there moves.had moves.has,
    is.running,
    pool.running,
  );
}

pool-kept : (slots : List (Option Busy)) (slot number : ℕ) (old new : Option Busy) (a : Algorithm)
    (p : Pool) →
    slice_get slots slot ≡ Some old → claim_in number new ≡ claim_in number old →
    IsPoolOf slots number a p → IsPoolOf (set slots slot new) number a p
pool-kept slots slot number old new a p there same is = record {
  resources = is.resources;
  room = is.room;
  instances = is.instances;
  lent = λ k. claims-kept (of_clone k) number slots slot old new there same ∙ is.lent k;
  running = is.running ∙ sym (claims-kept of_none number slots slot old new there same);
}

-- units

both-bits : (x y : Bool) → bit (x && y) ≡ cond y (bit x) 0
both-bits true y = refl
both-bits false true = refl
both-bits false false = refl

where-named : (named : Bool) (m n e f : ℕ) → m + e ≡ n + f →
    cond named m 0 + cond named e 0 ≡ cond named n 0 + cond named f 0
where-named true m n e f same = same
where-named false m n e f same = refl

pool-units : (r : ℕ) (a : Algorithm) (p q : Pool) (c d : Option Outstanding) → p.resources ≡ a.resources →
    PoolMoves p q c d →
    units_in_pool r q + bit (is_some c && names_resource r a)
    ≡ units_in_pool r p + bit (is_some d && names_resource r a)
pool-units r a p q c d own pool =
    let named_p : is_named r p.resources ≡ names_resource r a = ap (is_named r) own in
    let named_q : is_named r q.resources ≡ names_resource r a = ap (is_named r) (pool.resources ∙ own) in
    let at_p : units_in_pool r p ≡ cond (names_resource r a) (loans_of p) 0 =
    ap (λ (t : Bool). cond t (loans_of p) 0) named_p in
    let at_q : units_in_pool r q ≡ cond (names_resource r a) (loans_of q) 0 =
    ap (λ (t : Bool). cond t (loans_of q) 0) named_q in
    let same = where-named (names_resource r a) (loans_of q) (loans_of p) (bit (is_some c)) (bit (is_some d))
    pool.loans in
    ap (λ (n : ℕ). n + bit (is_some c && names_resource r a)) at_q
    ∙ (ap (λ (n : ℕ). cond (names_resource r a) (loans_of q) 0 + n)
    (both-bits (is_some c) (names_resource r a))
    ∙ (same
    ∙ (ap (λ (n : ℕ). cond (names_resource r a) (loans_of p) 0 + n)
    (sym (both-bits (is_some d) (names_resource r a)))
    ∙ ap (λ (n : ℕ). n + bit (is_some d && names_resource r a)) (sym at_p))))

-- the same on both sides of the tie
in-step : (x y u v : ℕ) (x' y' u' v' e f : ℕ) → x ≡ y → x' + u ≡ x + u' → y' + v ≡ y + v' →
    u' + e ≡ u + f → v' + e ≡ v + f → x' ≡ y'
in-step x y u v x' y' u' v' e f tie pools slots pool slot = omega arith

pub pools-moved : (job : Job) (slots : List (Option Busy)) (it : Pools) (slot number : ℕ)
    (old new : Option Busy)
    (a : Algorithm) (p q : Pool) (c d : Option Outstanding) →
    ArePoolsOf job slots it → slice_get slots slot ≡ Some old → slice_get job.algorithms number ≡ Some a →
    slice_get it.pools number ≡ Some p → SlotMoves number old new c d → PoolMoves p q c d →
    ArePoolsOf job (set slots slot new) (with_pool it number q)
pools-moved job slots it slot number old new a p q c d are there algorithm at moves pool = record {
  as_many = length-set it.pools number q ∙ are.as_many;
  pool = λ n b s of_job of_pools. elim (cases_eq n number) [
    | inl eq ↦ own n b s eq of_job of_pools
    | inr other ↦ pool-kept slots slot n old new b s there (moves.others n other)
        (are.pool n b s of_job (sym (get-set_other it.pools number n q other) ∙ of_pools))
  ];
  units = are.units;
  out = λ r. in-step (units_lent r it.pools) (units_out r job slots) (units_in_pool r p) (units_in r job old)
      (units_lent r (set it.pools number q)) (units_out r job (set slots slot new)) (units_in_pool r q)
      (units_in r job new) (bit (is_some c && names_resource r a)) (bit (is_some d && names_resource r a))
      (are.out r) (sum-changed (units_in_pool r) it.pools number p q at)
      (sum-changed (units_in r job) slots slot old new there)
      (pool-units r a p q c d (are.pool number a p algorithm at).resources pool)
      (units-moved r job number a old new c d algorithm moves);
}
  where
    own : (n : ℕ) (b : Algorithm) (s : Pool) → n ≡ number → slice_get job.algorithms n ≡ Some b →
        slice_get (set it.pools number q) n ≡ Some s → IsPoolOf (set slots slot new) n b s
    own n b s eq of_job of_pools =
        let is_a : a ≡ b = same_Some a b
        (sym algorithm ∙ (ap (slice_get job.algorithms) (sym eq) ∙ of_job)) in
        let is_q : q ≡ s = same_Some q s (sym (get-set_same it.pools number q
        (slice_get_within it.pools number p at))
        ∙ (ap (slice_get (set it.pools number q)) (sym eq) ∙ of_pools)) in
        subst (λ (i : ℕ). IsPoolOf (set slots slot new) i b s) (sym eq)
        (subst (λ (x : Algorithm). IsPoolOf (set slots slot new) number x s) is_a
        (subst (λ (x : Pool). IsPoolOf (set slots slot new) number a x) is_q
        (pool-moved slots slot number old new a p q c d there moves pool (are.pool number a p algorithm at))))

-- a slot whose claims stay as they are
pub pools-kept : (job : Job) (slots : List (Option Busy)) (it : Pools) (slot : ℕ) (old new : Option Busy) →
    ArePoolsOf job slots it → slice_get slots slot ≡ Some old →
    ((n : ℕ) → claim_in n new ≡ claim_in n old) → ArePoolsOf job (set slots slot new) it
pools-kept job slots it slot old new are there same = record {
  as_many = are.as_many;
  pool = λ n a p of_job of_pools.
      pool-kept slots slot n old new a p there (same n) (are.pool n a p of_job of_pools);
  units = are.units;
  out = λ r. stay (units_lent r it.pools) (units_out r job slots) (units_in r job old)
      (units_out r job (set slots slot new)) (units_in r job new) (are.out r)
      (sum-changed (units_in r job) slots slot old new there) (units-kept r job old new same);
}
  where
    stay : (x y v y' v' : ℕ) → x ≡ y → y' + v ≡ y + v' → v' ≡ v → x ≡ y'
    stay x y v y' v' tie slots slot = omega arith
