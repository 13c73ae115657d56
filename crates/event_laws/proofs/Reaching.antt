-- What is reached stays reached when more algorithms have run: a node whose members' decisions stay enters no fewer of them, so
-- each test that a reached member passes is passed by one later.
use Rattle.std.proofs.Common.{◌≡◌, ℕ, zero, suc, ◌+◌, ◌≤◌, Bool, true, false, cond, if◌then◌else◌, List, [], ◌∷◌, length, map, take, slice_get, Option, Some, None, sym, ◌∙◌, subst, length-take, arith}
use Rattle.std.specs.List.{flat_map, list_any, prefix_len}
use Rattle.std.specs.Option.{option_map_or}
use Rattle.std.proofs.lemmas.Bool.{false≢true}
use Rattle.std.proofs.lemmas.List.Folds.{list_any-append}
use Rattle.event_laws.proofs.Settling.{Settles, AllSettle, decision-settles}
use Rattle.event_laws.proofs.Staying.{all_zip-map, or-stays, AreOutcomesWithin}
use Rattle.hive_model.specs.Decision.{decision}
use Rattle.hive_model.specs.Job.{Job}
use Rattle.hive_model.specs.Reached.{passes, entered, reached_within, reached}
use Rattle.hive_model.specs.Sequence.{Sequence}
use Rattle.hive_model.specs.declared.decision.Decision.{Decision}
use Rattle.hive_model.specs.declared.decision.Decision.TheVariants.{True, False, Undecided}
use Rattle.hive_model.specs.declared.outcome.Outcome.{Outcome}
use Rattle.hive_model.specs.declared.sequence.Member.{Member}
use Rattle.hive_model.specs.declared.sequence.Member.TheVariants.{Alg, Seq}

-- how far a sequential node goes on

longer : (goes_on : Bool) (m n : ℕ) → m ≤ n → cond goes_on (1 + m) 0 ≤ cond goes_on (1 + n) 0
longer true m n h = omega arith
longer false m n h = omega arith

passed-stays : (q : Sequence) (ds later : List Decision) → AllSettle ds later → prefix_len (passes q) ds ≤ prefix_len (passes q) later
passed-stays q [] [] all = omega arith
passed-stays q [] (x ∷ later) all = absurd all
passed-stays q (d ∷ ds) [] all = absurd all
passed-stays q (True ∷ ds) (x ∷ later) all =
    subst (λ d. prefix_len (passes q) (True ∷ ds) ≤ prefix_len (passes q) (d ∷ later)) (sym all.0)
    (longer (passes q True) (prefix_len (passes q) ds) (prefix_len (passes q) later) (passed-stays q ds later all.1))
passed-stays q (False ∷ ds) (x ∷ later) all =
    subst (λ d. prefix_len (passes q) (False ∷ ds) ≤ prefix_len (passes q) (d ∷ later)) (sym all.0)
    (longer (passes q False) (prefix_len (passes q) ds) (prefix_len (passes q) later) (passed-stays q ds later all.1))
passed-stays q (Undecided ∷ ds) (x ∷ later) all = omega arith

-- a test that passes somewhere in what comes of a front passes in what comes of a longer one

any-fronts : {X Y : Type 0} (p : Y → Bool) (f g : X → List Y) → ((x : X) → list_any p (f x) ≡ true → list_any p (g x) ≡ true) →
    (m n : ℕ) (xs : List X) → m ≤ n → list_any p (flat_map f (take m xs)) ≡ true → list_any p (flat_map g (take n xs)) ≡ true
any-fronts p f g h zero n xs le e = absurd (false≢true e)
any-fronts p f g h (suc m) zero xs le e = absurd (omega arith)
any-fronts p f g h (suc m) (suc n) [] le e = e
any-fronts p f g h (suc m) (suc n) (x ∷ xs) le e =
    list_any-append p (g x) (flat_map g (take n xs))
    ∙ or-stays (list_any p (f x)) (list_any p (flat_map f (take m xs))) (list_any p (g x)) (list_any p (flat_map g (take n xs)))
    (h x) (any-fronts p f g h m n xs (omega arith)) (sym (list_any-append p (f x) (flat_map f (take m xs))) ∙ e)

any-all : {X Y : Type 0} (p : Y → Bool) (f g : X → List Y) → ((x : X) → list_any p (f x) ≡ true → list_any p (g x) ≡ true) →
    (xs : List X) → list_any p (flat_map f xs) ≡ true → list_any p (flat_map g xs) ≡ true
any-all p f g h [] e = e
any-all p f g h (x ∷ xs) e =
    list_any-append p (g x) (flat_map g xs)
    ∙ or-stays (list_any p (f x)) (list_any p (flat_map f xs)) (list_any p (g x)) (list_any p (flat_map g xs))
    (h x) (any-all p f g h xs) (sym (list_any-append p (f x) (flat_map f xs)) ∙ e)

any-entered : (p : Member → Bool) (f g : Member → List Member) → ((m : Member) → list_any p (f m) ≡ true → list_any p (g m) ≡ true) →
    (q : Sequence) (ds later : List Decision) → AllSettle ds later → list_any p (flat_map f (entered q ds)) ≡ true → list_any p (flat_map g (entered q later)) ≡ true
unfolding entered
any-entered p f g h q ds later all =
    let further : prefix_len (passes q) ds + 1 ≤ prefix_len (passes q) later + 1 = omega (arith, passed-stays q ds later all) in
    elim q.sequential
    as (λ b.
    list_any p (flat_map f (if b then take (prefix_len (passes q) ds + 1) q.members else q.members)) ≡ true
    → list_any p (flat_map g (if b then take (prefix_len (passes q) later + 1) q.members else q.members)) ≡ true) [
      | true ↦ any-fronts p f g h (prefix_len (passes q) ds + 1) (prefix_len (passes q) later + 1) q.members further
      | false ↦ any-all p f g h q.members
    ]

-- no fewer members are entered
pub entered-stays : (q : Sequence) (ds later : List Decision) → AllSettle ds later → length (entered q ds) ≤ length (entered q later)
unfolding entered
entered-stays q ds later all =
    let passed = passed-stays q ds later all in
    let few = length-take (prefix_len (passes q) ds + 1) q.members in
    let more = length-take (prefix_len (passes q) later + 1) q.members in
    elim q.sequential
    as (λ b.
    length (if b then take (prefix_len (passes q) ds + 1) q.members else q.members)
    ≤ length (if b then take (prefix_len (passes q) later + 1) q.members else q.members)) [
      | true ↦ omega arith
      | false ↦ omega arith
    ]

-- what is reached

pub reached_within-stays : (p : Member → Bool) (depth : ℕ) (sequences : List Sequence) (decide later : Member → Decision) (m : Member) →
    ((it : Member) → Settles (decide it) (later it)) →
    list_any p (reached_within depth sequences decide m) ≡ true → list_any p (reached_within depth sequences later m) ≡ true
unfolding reached_within
reached_within-stays p zero sequences decide later (Alg a) h = λ e. e
reached_within-stays p (suc depth) sequences decide later (Alg a) h = λ e. e
reached_within-stays p zero sequences decide later (Seq s) h = λ e. e
reached_within-stays p (suc depth) sequences decide later (Seq s) h =
    let now : Member → List Member = reached_within depth sequences decide in
    let onward : Member → List Member = reached_within depth sequences later in
    or-stays (p (Seq s)) _ (p (Seq s)) _ (λ e. e)
    (elim (slice_get sequences s)
    as (λ o.
    list_any p (option_map_or (λ q. flat_map now (entered q (map decide q.members))) o []) ≡ true
    → list_any p (option_map_or (λ q. flat_map onward (entered q (map later q.members))) o []) ≡ true) [
      | None ↦ λ e. e
      | Some q ↦
          any-entered p now onward (λ m. reached_within-stays p depth sequences decide later m h) q (map decide q.members) (map later q.members)
          (all_zip-map Settles decide later h q.members)
    ])

-- in a job, for each test
pub reached-stays : (p : Member → Bool) (job : Job) (ran others : List (Option Outcome)) → AreOutcomesWithin ran others →
    list_any p (reached job ran) ≡ true → list_any p (reached job others) ≡ true
unfolding reached
reached-stays p job ran others h =
    reached_within-stays p _ job.sequences (decision job ran) (decision job others) (Seq job.top) (λ m. decision-settles job ran others m h)
