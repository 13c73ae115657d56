-- Sequences that are nested within a depth, and the forest's own words for that: members in range, no cycle, no long chain.
use Rattle.std.proofs.Common.{◌≡◌, ℕ, zero, suc, ◌+◌, ◌<◌, ◌≤◌, List, [], ◌∷◌, ◌++◌, Option, Some, None, MatchOption, IsSomeAnd, length, slice_get, refl, sym, subst, length-append, arith}
use Rattle.std.specs.List.{AllByRecursion, Contains}
use Rattle.event_laws.proofs.Executions.{all_at}
use Rattle.event_laws.specs.Forest.{IsThere, HasAllMembers}
use Rattle.hive_model.specs.ControlFlow.{HasMember, IsNestedWithin}
use Rattle.hive_model.specs.Paths.{IsPath, IsOnCycle, HasNoCycle, IsChain, IsAtMostDeep}
use Rattle.hive_model.specs.Sequence.{Sequence}
use Rattle.hive_model.specs.declared.sequence.Member.{Member}
use Rattle.hive_model.specs.declared.sequence.Member.TheVariants.{Alg, Seq}

pub all_contained : {X : Type 0} (P : X → Type 0) (xs : List X) (x : X) → AllByRecursion P xs → Contains xs x → P x
all_contained P xs x all there = all_at P xs there.0 x all there.1 (sym there.2)

pub get-within : {X : Type 0} (xs : List X) (n : ℕ) (x : X) → slice_get xs n ≡ Some x → n < length xs
get-within [] n x e = cc
get-within (y ∷ xs) zero x e = omega arith
get-within (y ∷ xs) (suc n) x e = let later = get-within xs n x e in omega (arith, later)

-- paths and chains of any relation

path_then : (R : ℕ → ℕ → Type 0) (from to : ℕ) (between rest : List ℕ) → IsPath R from between to → IsChain R to rest → IsChain R from (between ++ (to ∷ rest))
path_then R from to [] rest p c = (p, c)
path_then R from to (n ∷ between) rest p c = (p.0, path_then R n to between rest p.1 c)

-- a cycle can be gone round as often as one likes
record IsLong (R : ℕ → ℕ → Type 0) (n k : ℕ) : Type 0 where
  chain : List ℕ
  is_chain : IsChain R n chain
  long : k ≤ length chain

turns : (R : ℕ → ℕ → Type 0) (n : ℕ) (between : List ℕ) → IsPath R n between n → (k : ℕ) → IsLong R n k
turns R n between p zero = record { chain = []; is_chain = tt; long = omega arith }
turns R n between p (suc k) =
    let more = turns R n between p k in
    let both : length (between ++ (n ∷ more.chain)) ≡ length between + suc (length more.chain) = length-append between (n ∷ more.chain) in
    let enough : k ≤ length more.chain = more.long in
    record { chain = between ++ (n ∷ more.chain); is_chain = path_then R n n between more.chain p more.is_chain; long = omega arith }

deep-no_cycle : (R : ℕ → ℕ → Type 0) (depth n : ℕ) → IsAtMostDeep R depth n → IsOnCycle R n → ⊥
deep-no_cycle R depth n deep cycle =
    let round = turns R n cycle.0 cycle.1 depth in
    let short = deep round.chain round.is_chain in
    let long : depth ≤ length round.chain = round.long in
    absurd (omega (arith, short))

-- what is nested

member-nested : (o : Option Sequence) (P : Member → Type 0) (t : ℕ) → MatchOption o ⊥ (λ q. AllByRecursion P q.members) →
    IsSomeAnd o (λ q. Contains q.members (Seq t)) → P (Seq t)
member-nested None P t h c = absurd h
member-nested (Some q) P t h c = all_contained P q.members (Seq t) h c

pub nested-deep : (depth : ℕ) (sequences : List Sequence) (s : ℕ) → IsNestedWithin depth sequences (Seq s) → IsAtMostDeep (HasMember sequences) depth s
nested-deep zero sequences s h chain c = absurd h
nested-deep (suc depth) sequences s h [] c = omega arith
nested-deep (suc depth) sequences s h (t ∷ rest) c =
    let below = nested-deep depth sequences t (member-nested (slice_get sequences s) (IsNestedWithin depth sequences) t h c.0) rest c.1 in
    omega (arith, below)

there-within : {X : Type 0} (xs : List X) (n : ℕ) (P : X → Type 0) → MatchOption (slice_get xs n) ⊥ P → n < length xs
there-within [] n P h = absurd h
there-within (x ∷ xs) zero P h = omega arith
there-within (x ∷ xs) (suc n) P h = let later = there-within xs n P h in omega (arith, later)

nested-there : (depth : ℕ) (sequences : List Sequence) (m : Member) → IsNestedWithin depth sequences m → IsThere sequences m
nested-there depth sequences (Alg a) h = tt
nested-there zero sequences (Seq s) h = absurd h
nested-there (suc depth) sequences (Seq s) h = there-within sequences s _ h

each_there : (depth : ℕ) (sequences : List Sequence) (members : List Member) → AllByRecursion (IsNestedWithin depth sequences) members →
    AllByRecursion (IsThere sequences) members
each_there depth sequences [] all = tt
each_there depth sequences (m ∷ members) all = (nested-there depth sequences m all.0, each_there depth sequences members all.1)

opened : (depth : ℕ) (sequences : List Sequence) (s : ℕ) (q : Sequence) → slice_get sequences s ≡ Some q → IsNestedWithin depth sequences (Seq s) →
    AllByRecursion (IsThere sequences) q.members
opened zero sequences s q e h = absurd h
opened (suc depth) sequences s q e h =
    let P : Option Sequence → Type 0 = λ o. MatchOption o ⊥ (λ it. AllByRecursion (IsNestedWithin depth sequences) it.members) in
    each_there depth sequences q.members (subst P e h)

pub nested-members : (depth : ℕ) (sequences : List Sequence) → ((s : ℕ) → s < length sequences → IsNestedWithin depth sequences (Seq s)) → HasAllMembers sequences
nested-members depth sequences nested s q e = opened depth sequences s q e (nested s (get-within sequences s q e))

there_and : {X : Type 0} (xs : List X) (n : ℕ) (P : X → Type 0) → IsSomeAnd (slice_get xs n) P → n < length xs
there_and [] n P h = absurd h
there_and (x ∷ xs) zero P h = omega arith
there_and (x ∷ xs) (suc n) P h = let later = there_and xs n P h in omega (arith, later)

-- what has a member is in range
starts : (sequences : List Sequence) (s : ℕ) (between : List ℕ) → IsPath (HasMember sequences) s between s → s < length sequences
starts sequences s [] p = there_and sequences s _ p
starts sequences s (t ∷ between) p = there_and sequences s _ p.0

pub nested-no_cycle : (depth : ℕ) (sequences : List Sequence) → ((s : ℕ) → s < length sequences → IsNestedWithin depth sequences (Seq s)) →
    HasNoCycle (HasMember sequences)
nested-no_cycle depth sequences nested s cycle =
    deep-no_cycle (HasMember sequences) depth s (nested-deep depth sequences s (nested s (starts sequences s cycle.0 cycle.1))) cycle

-- and back

record IsAt (sequences : List Sequence) (s : ℕ) : Type 0 where
  node : Sequence
  there : slice_get sequences s ≡ Some node

at : (sequences : List Sequence) (s : ℕ) → s < length sequences → IsAt sequences s
at [] s h = absurd (omega arith)
at (q ∷ sequences) zero h = record { node = q; there = refl }
at (q ∷ sequences) (suc s) h = let it = at sequences s (omega arith) in record { node = it.node; there = it.there }

each_nested : (depth : ℕ) (sequences : List Sequence) (members : List Member) → AllByRecursion (IsThere sequences) members →
    ((t : ℕ) → Contains members (Seq t) → t < length sequences → IsNestedWithin depth sequences (Seq t)) → AllByRecursion (IsNestedWithin depth sequences) members
each_nested depth sequences [] all below = tt
each_nested depth sequences (Alg a ∷ members) all below =
    (tt, each_nested depth sequences members all.1 (λ t c lt. below t (suc c.0, let k = c.1 in omega (arith, k), c.2) lt))
each_nested depth sequences (Seq s ∷ members) all below = (
  below s (0, omega arith, refl) all.0,
  each_nested depth sequences members all.1 (λ t c lt. below t (suc c.0, let k = c.1 in omega (arith, k), c.2) lt),
)

pub deep-nested : (depth : ℕ) (sequences : List Sequence) → HasAllMembers sequences → (s : ℕ) → s < length sequences →
    IsAtMostDeep (HasMember sequences) depth s → IsNestedWithin depth sequences (Seq s)
deep-nested zero sequences all s lt deep = absurd (let one = deep [] tt in omega (arith, one))
deep-nested (suc depth) sequences all s lt deep =
    let it = at sequences s lt in
    let P : Option Sequence → Type 0 = λ o. MatchOption o ⊥ (λ q. AllByRecursion (IsNestedWithin depth sequences) q.members) in
    let M : ℕ → Option Sequence → Type 0 = λ t o. IsSomeAnd o (λ q. Contains q.members (Seq t)) in
    subst P (sym it.there)
    (each_nested depth sequences it.node.members (all s it.node it.there)
    (λ t c within. deep-nested depth sequences all t within
    (λ chain follows. let short = deep (t ∷ chain) (subst (M t) (sym it.there) c, follows) in omega (arith, short))))
