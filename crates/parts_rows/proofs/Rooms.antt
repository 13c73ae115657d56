-- The pools of a job stay its pools, whatever is lent or comes back.
use Rattle.std.proofs.Common.{◌≡◌, ℕ, List, [], ◌∷◌, map, ap, sym, subst, refl, ◌∙◌}
use Rattle.std.proofs.Common.{Option, Some, None, slice_get}
use Rattle.std.specs.Prelude.{IfOk, IsSomeAnd, MatchOption, Result, Ok, Err, slice_set, unwrap_or}
use Rattle.std.specs.Option.{option_map}
use Rattle.std.proofs.Math.Seq.{map-set_same}
use Rattle.std.proofs.lemmas.Option.{get_or_from_slice_get, slice_get-map}
use Rattle.hive_model.specs.Algorithm.{Algorithm}
use Rattle.hive_model.specs.Job.{Job}
use Rattle.hive_model.specs.Scratch.{IsMadeFor}
use Rattle.hive_model.specs.declared.lent.Lent.{Lent as Loan}
use Rattle.clone_pools.specs.Lending.{ComesBack, GivenBack, IsLoan, LendSays, ServesOne}
use Rattle.clone_pools.specs.Loans.{Pool, Pools, opening, opening_pool, with_loan, with_pool, without_loan}
use Rattle.clone_pools.specs.Room.{room_of}
use Rattle.clone_pools.specs.declared.lend.Lend.{Lend}
use Rattle.clone_pools.specs.declared.lend.Lend.TheVariants.{Lent, NotFree, NoMemory}
use Rattle.clone_pools.specs.declared.room.Room.{Room}
use Rattle.parts_rows.specs.Rooms.{ArePoolsOf, rooms_of}

opening-rooms : (algorithms : List Algorithm) →
    rooms_of (map opening_pool algorithms) ≡ map room_of algorithms
opening-rooms [] = refl
opening-rooms (a ∷ algorithms) = ap (λ (rooms : List Room). room_of a ∷ rooms) (opening-rooms algorithms)

pub opened-pools : {E : Type 0} (job : Job) (it : Result Pools E) →
    IfOk it (λ pools. pools ≡ opening job) → IfOk it (ArePoolsOf job)
opened-pools job (Ok pools) is = ap (λ (it : Pools). rooms_of it.pools) is ∙ opening-rooms job.algorithms
opened-pools job (Err e) is = tt

lent-room : (p : Pool) (clone : Option ℕ) (place : ℕ) → (with_loan p clone place).room ≡ p.room
lent-room p (Some k) place = refl
lent-room p None place = refl

back-room : (p : Pool) (clone : Option ℕ) → (without_loan p clone).room ≡ p.room
back-room p (Some k) = refl
back-room p None = refl

replaced : (pools : List Pool) (n : ℕ) (p q : Pool) → slice_get pools n ≡ Some p → q.room ≡ p.room →
    rooms_of (slice_set pools n q) ≡ rooms_of pools
replaced pools n p q at same =
    map-set_same (λ (it : Pool). it.room) pools n q p
    (same ∙ sym (ap (λ (it : Pool). it.room) (get_or_from_slice_get pools n p p at)))

lent-rooms : (old new : Pools) (n place : ℕ) (loan : Loan) (o : Option Pool) → slice_get old.pools n ≡ o →
    IsSomeAnd o (λ p. IsLoan p n place loan × (new ≡ with_pool old n (with_loan p loan.clone place))) →
    rooms_of new.pools ≡ rooms_of old.pools
lent-rooms old new n place loan (Some p) at said =
    ap (λ (it : Pools). rooms_of it.pools) said.1
    ∙ replaced old.pools n p (with_loan p loan.clone place) at (lent-room p loan.clone place)
lent-rooms old new n place loan None at said = absurd said

pub kept-lending : (job : Job) (old new : Pools) (n place : ℕ) (it : Lend) → LendSays old n place it new →
    ArePoolsOf job old → ArePoolsOf job new
kept-lending job old new n place (Lent it) said are =
    lent-rooms old new n place it (slice_get old.pools n) refl said.1 ∙ are
kept-lending job old new n place NotFree said are = ap (λ (it : Pools). rooms_of it.pools) said.1 ∙ are
kept-lending job old new n place NoMemory said are = ap (λ (it : Pools). rooms_of it.pools) said.2 ∙ are

back-rooms : (old new : Pools) (loan : Loan) (o : Option Pool) → slice_get old.pools loan.algorithm ≡ o →
    IsSomeAnd o (λ p. new ≡ with_pool old loan.algorithm (without_loan p loan.clone)) →
    rooms_of new.pools ≡ rooms_of old.pools
back-rooms old new loan (Some p) at said =
    ap (λ (it : Pools). rooms_of it.pools) said
    ∙ replaced old.pools loan.algorithm p (without_loan p loan.clone) at (back-room p loan.clone)
back-rooms old new loan None at said = absurd said

pub kept-giving : (job : Job) (old new : Pools) (loan : Loan) → GivenBack old loan new →
    ArePoolsOf job old → ArePoolsOf job new
kept-giving job old new loan said are =
    back-rooms old new loan (slice_get old.pools loan.algorithm) refl said ∙ are

serves-at : (p : Option Pool) (a : Option Algorithm) (loan : Loan) →
    option_map (λ (it : Pool). it.room) p ≡ option_map room_of a →
    IsSomeAnd a (λ a. IsMadeFor a loan.scratch) → IsSomeAnd p (λ p. ServesOne p loan.scratch)
serves-at (Some p) (Some a) loan same made = (a, ap (λ (o : Option Room). unwrap_or o p.room) same, made)
serves-at None (Some a) loan same made =
    absurd (subst (λ (o : Option Room). MatchOption o (Unit {0}) (λ r. ⊥)) same tt)
serves-at p None loan same made = absurd made

-- what is made for the algorithm may come back
pub may-come : (job : Job) (it : Pools) (loan : Loan) → ArePoolsOf job it →
    IsSomeAnd (slice_get job.algorithms loan.algorithm) (λ a. IsMadeFor a loan.scratch) → ComesBack it loan
may-come job it loan are made =
    serves-at (slice_get it.pools loan.algorithm) (slice_get job.algorithms loan.algorithm) loan
    (sym (slice_get-map (λ (p : Pool). p.room) it.pools loan.algorithm)
    ∙ ap (λ (rooms : List Room). slice_get rooms loan.algorithm) are
    ∙ slice_get-map room_of job.algorithms loan.algorithm) made
