-- Which members a reached node enters: all of them, or where it is sequential, those before which every member lets it go on.
use Rattle.std.proofs.Common.{◌≡◌, ◌≢◌, not, ◌&&◌, ℕ, zero, suc, ◌+◌, ◌<◌, ◌≤◌, Bool, true, false, cond, if◌then◌else◌, nat_eq, List, [], ◌∷◌, length, map, take, slice_get, Option, Some, refl, sym, ap, ◌∙◌, subst, length-take, arith}
use Rattle.std.specs.List.{prefix_len}
use Rattle.std.proofs.lemmas.Bool.{false≢true, or_left, eq-eqb}
use Rattle.std.proofs.lemmas.Option.{same_Some, none-some, slice_get_within}
use Rattle.event_laws.proofs.Placing.{front-at, entered-at}
use Rattle.event_laws.specs.Places.{is_reached_sequence, IsReachedPlace, LetsGoOn}
use Rattle.hive_model.specs.Decision.{decision, fixing}
use Rattle.hive_model.specs.Job.{Job}
use Rattle.hive_model.specs.Reached.{passes, entered, reached_within, reached}
use Rattle.hive_model.specs.Sequence.{Sequence}
use Rattle.hive_model.specs.declared.decision.Decision.{Decision}
use Rattle.hive_model.specs.declared.decision.Decision.TheVariants.{True, False, Undecided}
use Rattle.hive_model.specs.declared.outcome.Outcome.{Outcome}
use Rattle.hive_model.specs.declared.sequence.Member.{Member}

-- fronts of a mapped list that pass a test

one-before : {X Y : Type 0} (p : Y → Bool) (f : X → Y) (xs : List X) (y : X) (b : Bool) (j : ℕ) (x : X) → p (f y) ≡ b →
    ((k : ℕ) → k < prefix_len p (map f xs) → slice_get xs k ≡ Some x → p (f x) ≡ true) →
    j < cond b (1 + prefix_len p (map f xs)) 0 → slice_get (y ∷ xs) j ≡ Some x → p (f x) ≡ true
one-before p f xs y true zero x e further h at = ap (λ it. p (f it)) (sym (same_Some y x at)) ∙ e
one-before p f xs y true (suc j) x e further h at = further j (omega arith) at
one-before p f xs y false j x e further h at = absurd (omega arith)

before-end : {X Y : Type 0} (p : Y → Bool) (f : X → Y) (xs : List X) (j : ℕ) (x : X) → j < prefix_len p (map f xs) → slice_get xs j ≡ Some x → p (f x) ≡ true
before-end p f [] j x h at = absurd (none-some x at)
before-end p f (y ∷ xs) j x h at = one-before p f xs y (p (f y)) j x refl (λ k. before-end p f xs k x) h at

up-to-end : {X Y : Type 0} (p : Y → Bool) (f : X → Y) (xs : List X) (i : ℕ) → i ≤ length xs →
    ((j : ℕ) (x : X) → j < i → slice_get xs j ≡ Some x → p (f x) ≡ true) → i ≤ prefix_len p (map f xs)
up-to-end p f xs zero h all = omega arith
up-to-end p f [] (suc i) h all = omega arith
up-to-end p f (x ∷ xs) (suc i) h all =
    let first : p (f x) ≡ true = all 0 x (omega arith) refl in
    let rest = up-to-end p f xs i (omega arith) (λ j y less at. all (suc j) y (omega arith) at) in
    subst (λ b. suc i ≤ cond b (1 + prefix_len p (map f xs)) 0) (sym first) (omega arith)

-- a node goes on after a member that is decided and, in a short-circuit node, doesn't fix it

true-unfixed : (short_circuit mode_or : Bool) → not (short_circuit && mode_or) ≡ true → short_circuit ≡ true → True ≢ fixing mode_or
true-unfixed true true e short = λ _. false≢true e
true-unfixed true false e short = λ same. cc
true-unfixed false mode_or e short = λ _. false≢true short

false-unfixed : (short_circuit mode_or : Bool) → not (short_circuit && not mode_or) ≡ true → short_circuit ≡ true → False ≢ fixing mode_or
false-unfixed true true e short = λ same. cc
false-unfixed true false e short = λ _. false≢true e
false-unfixed false mode_or e short = λ _. false≢true short

true-passes : (short_circuit mode_or : Bool) → (short_circuit ≡ true → True ≢ fixing mode_or) → not (short_circuit && mode_or) ≡ true
true-passes true true h = absurd (h refl refl)
true-passes true false h = refl
true-passes false mode_or h = refl

false-passes : (short_circuit mode_or : Bool) → (short_circuit ≡ true → False ≢ fixing mode_or) → not (short_circuit && not mode_or) ≡ true
false-passes true true h = refl
false-passes true false h = absurd (h refl refl)
false-passes false mode_or h = refl

passes-decided : (q : Sequence) (d : Decision) → passes q d ≡ true → d ≢ Undecided
passes-decided q True e = λ same. cc
passes-decided q False e = λ same. cc
passes-decided q Undecided e = absurd (false≢true e)

passes-unfixed : (q : Sequence) (d : Decision) → passes q d ≡ true → q.short_circuit ≡ true → d ≢ fixing q.mode_or
passes-unfixed q True e = true-unfixed q.short_circuit q.mode_or e
passes-unfixed q False e = false-unfixed q.short_circuit q.mode_or e
passes-unfixed q Undecided e = absurd (false≢true e)

passes-from : (q : Sequence) (d : Decision) → d ≢ Undecided → (q.short_circuit ≡ true → d ≢ fixing q.mode_or) → passes q d ≡ true
passes-from q True made unfixed = true-passes q.short_circuit q.mode_or unfixed
passes-from q False made unfixed = false-passes q.short_circuit q.mode_or unfixed
passes-from q Undecided made unfixed = absurd (made refl)

-- in a job

-- what is entered at a place is the node's member there
pub place-member : (job : Job) (ran : List (Option Outcome)) (s i : ℕ) (m : Member) (place : IsReachedPlace job ran s i m) → slice_get place.node.members i ≡ Some m
place-member job ran s i m place =
    let members = entered place.node (map (decision job ran) place.node.members) in
    sym (entered-at place.node (map (decision job ran) place.node.members) i (slice_get_within members i m place.is_entered)) ∙ place.is_entered

-- each member before a reached place of a sequential node lets it go on
pub place-waits : (job : Job) (ran : List (Option Outcome)) (s i : ℕ) (m : Member) (place : IsReachedPlace job ran s i m) →
    place.node.sequential ≡ true → (j : ℕ) → j < i → LetsGoOn job ran place.node j
unfolding entered
place-waits job ran s i m place in_order j less =
    let q = place.node in
    let goes = prefix_len (passes q) (map (decision job ran) q.members) in
    let front : slice_get (take (goes + 1) q.members) i ≡ Some m =
    subst (λ b. slice_get (if b then take (goes + 1) q.members else q.members) i ≡ Some m) in_order place.is_entered
    in
    let within : i < length (take (goes + 1) q.members) = slice_get_within (take (goes + 1) q.members) i m front in
    let goes_on : (before : Member) → slice_get q.members j ≡ Some before → passes q (decision job ran before) ≡ true =
    λ before at. before-end (passes q) (decision job ran) q.members j before (omega (arith, length-take (goes + 1) q.members)) at
    in
    record {
      decided = λ before at. passes-decided q (decision job ran before) (goes_on before at);
      unfixed = λ before at. passes-unfixed q (decision job ran before) (goes_on before at);
    }

-- and a place of a reached node is reached where each member before it does so
pub place-entered : (job : Job) (ran : List (Option Outcome)) (s i : ℕ) (q : Sequence) (m : Member) → slice_get job.sequences s ≡ Some q →
    is_reached_sequence (reached job ran) s ≡ true → slice_get q.members i ≡ Some m →
    (q.sequential ≡ true → (j : ℕ) → j < i → LetsGoOn job ran q j) →
    IsReachedPlace job ran s i m
unfolding entered
place-entered job ran s i q m there is_reached at goes_on =
    let within = slice_get_within q.members i m at in
    record {
      node = q;
      there = there;
      is_reached = is_reached;
      is_entered = entered-by q.sequential refl within;
    }
  where
    entered-by : (b : Bool) → q.sequential ≡ b → i < length q.members →
        slice_get (if b then take (prefix_len (passes q) (map (decision job ran) q.members) + 1) q.members else q.members) i ≡ Some m
    entered-by false e within = at
    entered-by true e within =
        let far = up-to-end (passes q) (decision job ran) q.members i (omega arith) (λ j before less at.
        passes-from q (decision job ran before) ((goes_on e j less).decided before at) ((goes_on e j less).unfixed before at)) in
        let n = prefix_len (passes q) (map (decision job ran) q.members) + 1 in
        let front : i < length (take n q.members) = omega (arith, length-take n q.members) in
        front-at n q.members i front ∙ at

pub top-reached : (job : Job) (ran : List (Option Outcome)) → is_reached_sequence (reached job ran) job.top ≡ true
unfolding reached reached_within
top-reached job ran = or_left (nat_eq job.top job.top) _ (eq-eqb job.top job.top refl)
