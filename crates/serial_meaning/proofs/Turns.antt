-- A round, algorithm by algorithm.
use Rattle.std.proofs.Common.{◌≡◌, ℕ, ◌<◌, ◌≤◌, ◌+◌, Bool, true, false, List, [], ◌∷◌, ◌++◌, Option, Some, None, length, get_or, map, set, take, refl, sym, ap, ◌∙◌, length-set, arith}
use Rattle.std.specs.List.{enumerate_from}
use Rattle.std.specs.Option.{option_flatten}
use Rattle.std.proofs.lemmas.List.{get_or-set_other, get_or_default, take_more, take_more_set, take_all}
use Rattle.std.proofs.lemmas.List.FromFn.{length-enumerate_from}
use Rattle.std.proofs.lemmas.Option.{slice_get-get_or}
use Rattle.hive_model.specs.Algorithm.{Algorithm}
use Rattle.hive_model.specs.Enabled.{is_ready, inputs_in}
use Rattle.hive_model.specs.Execution.{Execution, execution}
use Rattle.hive_model.specs.Results.{Results, outcome_of, ran_at}
use Rattle.hive_model.specs.declared.product.Product.{Product}
use Rattle.hive_model.specs.declared.sequence.Member.{Member}
use Rattle.serial_meaning.proofs.Joined.{mapped_more, numbered_at}
use Rattle.serial_meaning.specs.Round.{run_by}

-- The algorithms before a number have had their turn; of the others the results are as they were.
pub record IsAfterTurns (members : List Member) (places : List (Option Product)) (algorithms : List Algorithm)
    (old now : Results) (n : ℕ) (added : Bool) : Type 0 where
  pub size : length now ≡ length algorithms
  pub old_size : length old ≡ length algorithms
  pub front : take n now ≡ map (run_by members places old) (take n (enumerate_from 0 algorithms))
  pub rest : (k : ℕ) → n ≤ k → get_or now k None ≡ get_or old k None
  pub same : added ≡ false → now ≡ old

pub turns-none : (members : List Member) (places : List (Option Product)) (algorithms : List Algorithm)
    (old : Results) →
    length old ≡ length algorithms → IsAfterTurns members places algorithms old old 0 false
turns-none members places algorithms old e =
    record { size = e; old_size = e; front = refl; rest = λ k h. refl; same = λ _. refl }

-- what stands in the place whose turn it is, is what stood there
untouched : (members : List Member) (places : List (Option Product)) (algorithms : List Algorithm) (old now : Results)
    (n : ℕ) (added : Bool) (it : Option Execution) →
    n < length algorithms → it ≡ get_or now n it → IsAfterTurns members places algorithms old now n added →
    ran_at old n ≡ it
untouched members places algorithms old now n added it h i r =
    let there : n < length old = omega (arith, r.old_size) in
    let here : n < length now = omega (arith, r.size) in
    let from : n ≤ n = omega arith in
    ap option_flatten (slice_get-get_or old n None there) ∙ sym (r.rest n from) ∙ get_or_default now n None it here
    ∙ sym i

turn-kept : (members : List Member) (places : List (Option Product)) (old : Results) (n : ℕ) (a : Algorithm)
    (it : Option Execution) →
    ran_at old n ≡ it → is_ready members places n a (outcome_of it) ≡ false → it ≡ run_by members places old (n, a)
turn-kept members places old n a it e off = rw (e, off) refl

turn-added : (members : List Member) (places : List (Option Product)) (old : Results) (n : ℕ) (a : Algorithm)
    (it : Option Execution) →
    ran_at old n ≡ it → is_ready members places n a (outcome_of it) ≡ true →
    Some (execution a (inputs_in places a.inputs)) ≡ run_by members places old (n, a)
turn-added members places old n a it e on = rw (e, on) refl

-- the front after one more turn
front_more : (members : List Member) (places : List (Option Product)) (algorithms : List Algorithm) (old now : Results)
    (n : ℕ) (added : Bool) (a : Algorithm) (front : Results) (y : Option Execution) →
    n < length algorithms → a ≡ get_or algorithms n a → IsAfterTurns members places algorithms old now n added →
    front ≡ take n now ++ y ∷ [] → y ≡ run_by members places old (n, a) →
    front ≡ map (run_by members places old) (take (n + 1) (enumerate_from 0 algorithms))
front_more members places algorithms old now n added a front y h e r is turn =
    mapped_more (run_by members places old) (enumerate_from 0 algorithms) n (n, a) (take n now) front y
    (rw length-enumerate_from h) r.front is
    (turn ∙ ap (run_by members places old) (sym (numbered_at algorithms n a h e)))

pub turns-kept : (members : List Member) (places : List (Option Product)) (algorithms : List Algorithm)
    (old now : Results) (n : ℕ) (added : Bool) (a : Algorithm) (it : Option Execution) →
    n < length algorithms → a ≡ get_or algorithms n a → it ≡ get_or now n it →
    is_ready members places n a (outcome_of it) ≡ false → IsAfterTurns members places algorithms old now n added →
    IsAfterTurns members places algorithms old now (n + 1) added
turns-kept members places algorithms old now n added a it h e i off r =
    let here : n < length now = omega (arith, r.size) in
    let was = untouched members places algorithms old now n added it h i r in
    record {
      size = r.size;
      old_size = r.old_size;
      front =
          front_more members places algorithms old now n added a (take (n + 1) now) it h e r
          (take_more now n it here ∙ ap (λ x. take n now ++ x ∷ []) (sym i))
          (turn-kept members places old n a it was off);
      rest = λ k later. r.rest k (omega (arith, later));
      same = r.same;
    }

pub turns-added : (members : List Member) (places : List (Option Product)) (algorithms : List Algorithm)
    (old now after : Results) (n : ℕ) (added : Bool) (a : Algorithm) (it : Option Execution) →
    n < length algorithms → a ≡ get_or algorithms n a → it ≡ get_or now n it →
    is_ready members places n a (outcome_of it) ≡ true →
    after ≡ set now n (Some (execution a (inputs_in places a.inputs))) →
    IsAfterTurns members places algorithms old now n added →
    IsAfterTurns members places algorithms old after (n + 1) true
turns-added members places algorithms old now after n added a it h e i on changed r =
    let here : n < length now = omega (arith, r.size) in
    let y = Some (execution a (inputs_in places a.inputs)) in
    let was = untouched members places algorithms old now n added it h i r in
    record {
      size = ap length changed ∙ length-set now n y ∙ r.size;
      old_size = r.old_size;
      front =
          front_more members places algorithms old now n added a (take (n + 1) after) y h e r
          (ap (take (n + 1)) changed ∙ take_more_set now n y here)
          (turn-added members places old n a it was on);
      rest = λ k later.
          ap (λ them. get_or them k None) changed ∙ get_or-set_other now n k y None (λ s. omega (arith, later, s))
          ∙ r.rest k (omega (arith, later));
      same = λ f. cc;
    }

pub turns-all : (members : List Member) (places : List (Option Product)) (algorithms : List Algorithm)
    (old now : Results) (n : ℕ) (added : Bool) →
    length algorithms ≤ n → IsAfterTurns members places algorithms old now n added →
    now ≡ map (run_by members places old) (enumerate_from 0 algorithms)
turns-all members places algorithms old now n added h r =
    let past : length now ≤ n = omega (arith, r.size) in
    sym (take_all n now past) ∙ r.front
    ∙ ap (map (run_by members places old)) (take_all n (enumerate_from 0 algorithms) (rw length-enumerate_from h))
