-- Whether an algorithm may be lent, and what each answer says of it.
use Rattle.std.proofs.Common.{◌≡◌, ℕ, Bool, true, false, ◌&&◌, ◌||◌, is_none, List, get_or, ap, sym, subst, ◌∙◌, refl, Option, Some, None, slice_get}
use Rattle.std.specs.Prelude.{IsSomeAnd, slice_set}
use Rattle.std.proofs.lemmas.List.{get_or-set_same, set-get_or}
use Rattle.std.specs.List.{list_all, list_any}
use Rattle.std.specs.Option.{option_map_or}
use Rattle.std.proofs.lemmas.List.Recursion.{or_at}
use Rattle.std.proofs.lemmas.Option.{get_or_from_slice_get, slice_get_within}
use Rattle.hive_model.specs.declared.lent.Lent.{Lent as Loan}
use Rattle.clone_pools.specs.Lending.{IsLoan, LendSays}
use Rattle.clone_pools.specs.Loans.{Pool, Pools, IsFree, can_lend, has_unit_left, is_free, is_reentrant, pool_lends, with_loan, with_pool}
use Rattle.clone_pools.specs.Instances.{AreCounted}
use Rattle.clone_pools.specs.Units.{has_left}
use Rattle.clone_pools.specs.declared.lend.Lend.TheVariants.{Lent, NotFree, NoMemory}
use Rattle.clone_pools.proofs.Reading.{shown}
use Rattle.clone_pools.proofs.Totals.{left-tells}

or-front : (a b : Bool) → a ≡ true → (a || b) ≡ true
or-front a b e = ap (λ (x : Bool). x || b) e

or-back : (a b : Bool) → b ≡ true → (a || b) ≡ true
or-back true b e = refl
or-back false b e = e

and-back : (a b : Bool) → b ≡ false → (a && b) ≡ false
and-back true b e = e
and-back false b e = refl

pub reentrant-free : (p : Pool) → is_reentrant p ≡ true → is_free p ≡ true
reentrant-free p e = or-front (is_reentrant p) (list_any is_none p.lent) e

pub free-free : (p : Pool) (c : Option ℕ) → IsFree p c → is_free p ≡ true
free-free p None free = reentrant-free p free
free-free p (Some k) free =
    or-back (is_reentrant p) (list_any is_none p.lent)
    (or_at (list_any is_none) is_none refl (λ _ _. refl) p.lent k None (slice_get_within p.lent k None free)
    (ap is_none (get_or_from_slice_get p.lent k None None free)))

lends : (it : Pools) (n : ℕ) (p : Pool) → slice_get it.pools n ≡ Some p → can_lend it n ≡ pool_lends it p
unfolding can_lend
lends it n p at = ap (λ (o : Option Pool). option_map_or (pool_lends it) o false) at

has-no-unit : (it : Pools) (n : ℕ) (p : Pool) → slice_get it.pools n ≡ Some p → list_all (has_unit_left it) p.resources ≡ false → can_lend it n ≡ false
has-no-unit it n p at none = lends it n p at ∙ ap (λ (b : Bool). b && is_free p) none

can : (it : Pools) (n : ℕ) (p : Pool) → slice_get it.pools n ≡ Some p → list_all (has_unit_left it) p.resources ≡ true → is_free p ≡ true → can_lend it n ≡ true
can it n p at units free = lends it n p at ∙ ap (λ (b : Bool). b && is_free p) units ∙ free

pub says-no-unit : (it : Pools) (n place : ℕ) (p : Pool) → slice_get it.pools n ≡ Some p → list_all (has_unit_left it) p.resources ≡ false →
    LendSays it n place NotFree it
says-no-unit it n place p at none = (has-no-unit it n p at none, refl)

pub says-not-free : (it new : Pools) (n place : ℕ) (p : Pool) → slice_get it.pools n ≡ Some p → is_free p ≡ false → new ≡ it → LendSays it n place NotFree new
says-not-free it new n place p at none same =
    (lends it n p at ∙ and-back (list_all (has_unit_left it) p.resources) (is_free p) none, same)

pub says-no-memory : (it new : Pools) (n place : ℕ) (p : Pool) → slice_get it.pools n ≡ Some p → list_all (has_unit_left it) p.resources ≡ true →
    is_reentrant p ≡ true → new ≡ it → LendSays it n place NoMemory new
says-no-memory it new n place p at units is same =
    (can it n p at units (reentrant-free p is), subst (λ (o : Option Pool). IsSomeAnd o (λ q. is_reentrant q ≡ true)) (sym at) is, same)

pub says-lent : (it new : Pools) (n place : ℕ) (p : Pool) (loan : Loan) → slice_get it.pools n ≡ Some p → list_all (has_unit_left it) p.resources ≡ true →
    IsLoan p n place loan → new ≡ with_pool it n (with_loan p loan.clone place) → LendSays it n place (Lent loan) new
says-lent it new n place p loan at units is after = (
  can it n p at units (free-free p loan.clone is.free),
  subst (λ (o : Option Pool). IsSomeAnd o (λ q. IsLoan q n place loan × (new ≡ with_pool it n (with_loan q loan.clone place)))) (sym at) (is, after),
)

-- what is read of the pools inside

pub tells-units : (it : Pools) (pools : List Pool) (units left seen rs : List ℕ) (p q : Pool) (b : Bool) → shown pools units ≡ it → AreCounted pools units left →
    seen ≡ left → rs ≡ q.resources → q ≡ p → b ≡ list_all (has_left seen) rs → list_all (has_unit_left it) p.resources ≡ b
tells-units it pools units left seen rs p q b view h same is read e =
    ap (λ (x : Pools). list_all (has_unit_left x) p.resources) (sym view) ∙ sym (left-tells pools units left p.resources h)
    ∙ sym (e ∙ ap (λ (x : List ℕ). list_all (has_left x) rs) same ∙ ap (list_all (has_left left)) (is ∙ ap (λ (x : Pool). x.resources) read))

pub kept-pool : (it : Pools) (pools : List Pool) (units : List ℕ) (m : ℕ) (p q : Pool) → shown pools units ≡ it → slice_get pools m ≡ Some p → q ≡ p →
    shown (slice_set pools m q) units ≡ it
kept-pool it pools units m p q view at same =
    ap (λ (x : Pool). shown (slice_set pools m x) units) (same ∙ sym (get_or_from_slice_get pools m p p at))
    ∙ ap (λ (xs : List Pool). shown xs units) (set-get_or pools m p) ∙ view

same-resources : (p : Pool) (c : Option ℕ) (place : ℕ) → (with_loan p c place).resources ≡ p.resources
same-resources p None place = refl
same-resources p (Some k) place = refl

pub resources-lent : (pools : List Pool) (m : ℕ) (p q r : Pool) (rs : List ℕ) (c : Option ℕ) (place : ℕ) → slice_get pools m ≡ Some p → q ≡ with_loan p c place →
    r ≡ get_or (slice_set pools m q) m r → rs ≡ r.resources → rs ≡ p.resources
resources-lent pools m p q r rs c place at is read e =
    e ∙ ap (λ (x : Pool). x.resources) (read ∙ get_or-set_same pools m q r (slice_get_within pools m p at) ∙ is) ∙ same-resources p c place
