-- The counts of all workers together.
use Rattle.std.proofs.Common.{◌≡◌, ℕ, ◌+◌, ◌<◌, min, List, [], ◌∷◌, ◌++◌, length, map, refl, ap, ◌∙◌, arith, length-append}
use Rattle.std.proofs.lemmas.Grind.{flat_map-append}
use Rattle.std.proofs.lemmas.List.Concat.{flat_map-cons}
use Rattle.std.proofs.lemmas.List.Elements.{All-head, All-tail}
use Rattle.std.proofs.lemmas.List.Sorted.{length_permutation}
use Rattle.std.proofs.lemmas.List.Sums.{sum_by-cons}
use Rattle.std.specs.List.{All, flat_map, sum_by}
use Rattle.expr_code.specs.Claim.{Done as Executed}
use Rattle.hive_hall.specs.Closing.{IsConserved}
use Rattle.hive_hall.specs.Pass.{own, put, seen, took}
use Rattle.hive_hall.specs.declared.hall.Hall.{Hall}
use Rattle.hive_hall.specs.declared.pass.Pass.{Pass}
use Rattle.hive_workers.specs.Items.{count_at, is_done}
use Rattle.hive_workers.specs.Totals.{HasKeptOut, IsNewRun, Run, dones_of}
use Rattle.hive_workers.specs.declared.limits.TheConstants.{MOST_COUNTED}

all-counted : (strays astray most : ℕ) → strays ≡ min astray most → strays < most → strays ≡ astray
all-counted strays astray most is less = omega arith

-- one run
run-balance : (hall : Hall) (r : Run) → IsNewRun hall r →
    r.end.given + length (took r.last) ≡ dones_of r.last + length (put r.last) + r.end.strays
run-balance hall r it =
    let w = it.worked in
    let q = w.queue in
    let own_is : own r.last ≡ w.added = w.items.own_more ∙ ap (λ (l : List ℕ). l ++ w.added) it.owned_none in
    let put_is : put r.last ≡ w.queued = q.put_more ∙ ap (λ (l : List Executed). l ++ w.queued) it.put_none in
    let took_is : took r.last ≡ w.taken = q.took_more ∙ ap (λ (l : List Executed). l ++ w.taken) it.took_none in
    let strays = all-counted r.end.strays q.astray MOST_COUNTED q.strays_are it.counted in
    let dones = ap (count_at is_done (seen r.last)) own_is in
    let puts = ap (λ (l : List Executed). length l) put_is in
    let takes = ap (λ (l : List Executed). length l) took_is in
    let balance = q.balance in
    omega (arith, strays, dones, puts, takes, balance)

-- how many results a list of passes has queued, or taken
abbrev many : (Pass → List Executed) → List Pass → ℕ
many f passes = length (flat_map f passes)

many-cons : (f : Pass → List Executed) (p : Pass) (passes : List Pass) →
    many f (p ∷ passes) ≡ length (f p) + many f passes
many-cons f p passes =
    ap (λ (l : List Executed). length l) (flat_map-cons f p passes) ∙ length-append (f p) (flat_map f passes)

-- all runs
runs-balance : (hall : Hall) (runs : List Run) → All (IsNewRun hall) runs →
    sum_by (λ (r : Run). r.end.given) runs + many took (map (λ (r : Run). r.last) runs)
    ≡ sum_by (λ (r : Run). dones_of r.last) runs + many put (map (λ (r : Run). r.last) runs)
    + sum_by (λ (r : Run). r.end.strays) runs
runs-balance hall [] all = refl
runs-balance hall (r ∷ runs) all =
    let passes = map (λ (x : Run). x.last) runs in
    let one = run-balance hall r (All-head (IsNewRun hall) r runs all) in
    let others = runs-balance hall runs (All-tail (IsNewRun hall) r runs all) in
    let given = sum_by-cons (λ (x : Run). x.end.given) r runs in
    let dones = sum_by-cons (λ (x : Run). dones_of x.last) r runs in
    let strays = sum_by-cons (λ (x : Run). x.end.strays) r runs in
    let puts = many-cons put r.last passes in
    let takes = many-cons took r.last passes in
    omega (arith, one, others, given, dones, strays, puts, takes)

-- who kept out
kept-out : (others : List Pass) → All HasKeptOut others → (many put others ≡ 0) × (many took others ≡ 0)
kept-out [] all = (refl, refl)
kept-out (p ∷ others) all =
    let one = All-head HasKeptOut p others all in
    let rest = kept-out others (All-tail HasKeptOut p others all) in
    let puts = many-cons put p others in
    let takes = many-cons took p others in
    let no_put = ap (λ (l : List Executed). length l) one.0 in
    let no_take = ap (λ (l : List Executed). length l) one.1 in
    let rest_put = rest.0 in
    let rest_take = rest.1 in
    (omega (arith, puts, no_put, rest_put), omega (arith, takes, no_take, rest_take))

many-append : (f : Pass → List Executed) (passes others : List Pass) →
    many f (passes ++ others) ≡ many f passes + many f others
many-append f passes others = ap (λ (l : List Executed). length l) (flat_map-append f passes others)
    ∙ length-append (flat_map f passes) (flat_map f others)

pub given-accounted : (hall : Hall) (runs : List Run) (others : List Pass) (left : List Executed) →
    All (IsNewRun hall) runs → All HasKeptOut others →
    IsConserved hall (map (λ (r : Run). r.last) runs ++ others) left →
    sum_by (λ (r : Run). r.end.given) runs
    ≡ sum_by (λ (r : Run). dones_of r.last) runs + length left + sum_by (λ (r : Run). r.end.strays) runs
given-accounted hall runs others left all kept conserved =
    let passes = map (λ (x : Run). x.last) runs in
    let balance = runs-balance hall runs all in
    let out = kept-out others kept in
    let no_put = out.0 in
    let no_take = out.1 in
    let puts = many-append put passes others in
    let takes = many-append took passes others in
    let same = length_permutation (flat_map put (passes ++ others)) (flat_map took (passes ++ others) ++ left)
    conserved.conserved in
    let parts = length-append (flat_map took (passes ++ others)) left in
    omega (arith, balance, no_put, no_take, puts, takes, same, parts)
