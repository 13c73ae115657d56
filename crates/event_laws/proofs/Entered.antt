-- The members that a node enters are the first ones, up to the first that doesn't let it go on.
use Rattle.std.proofs.Common.{◌≡◌, ℕ, ◌+◌, ◌<◌, ◌≤◌, ◌⊎◌, Bool, true, false, not, ◌&&◌, List, Some, length, take, get_or, slice_get, min, refl, sym, ap, ◌∙◌, ◌↔◌, if◌then◌else◌, arith}
use mathlib.Core.Logic.{inl, inr}
use Rattle.std.specs.List.{prefix_len}
use Rattle.std.proofs.lemmas.Bool.{cases_lt}
use Rattle.std.proofs.lemmas.List.{length-take}
use Rattle.std.proofs.lemmas.List.Sums.{prefix_len_passes, prefix_len_stops}
use Rattle.std.proofs.lemmas.Option.{slice_get-get_or, get_or_from_slice_get}
use Rattle.event_laws.specs.Entering.{Enters, EntersByRule, LetsPass}
use Rattle.hive_model.specs.Decision.{is_undecided, is_fixing}
use Rattle.hive_model.specs.Reached.{entered, passes}
use Rattle.hive_model.specs.Sequence.{Sequence}
use Rattle.hive_model.specs.declared.decision.Decision.{Decision}
use Rattle.hive_model.specs.declared.decision.Decision.TheVariants.{Undecided}

-- the test by its two words

both : (undecided short fixes : Bool) → (not undecided && not (short && fixes)) ≡ true → (undecided ≡ false) × (short ≡ true → fixes ≡ false)
both true short fixes e = cc
both false true true e = cc
both false true false e = (refl, λ _. refl)
both false false fixes e = (refl, λ h. cc)

either : (undecided short fixes : Bool) → undecided ≡ false → (short ≡ true → fixes ≡ false) → (not undecided && not (short && fixes)) ≡ true
either true short fixes o f = cc
either false true true o f = let no_fix = f refl in cc
either false true false o f = refl
either false false fixes o f = refl

passes-lets : (q : Sequence) (d : Decision) → passes q d ≡ true → LetsPass q d
passes-lets q d e =
    let it = both (is_undecided d) q.short_circuit (is_fixing q.mode_or d) e in record { decided = it.0; fixes_nothing = it.1 }

lets-passes : (q : Sequence) (d : Decision) → LetsPass q d → passes q d ≡ true
lets-passes q d h = either (is_undecided d) q.short_circuit (is_fixing q.mode_or d) h.decided h.fixes_nothing

-- a prefix is as long as its elements pass

passed : (q : Sequence) (ds : List Decision) (number : ℕ) → number ≤ prefix_len (passes q) ds →
    (before : ℕ) (d : Decision) → before < number → slice_get ds before ≡ Some d → LetsPass q d
passed q ds number le before d lt e =
    passes-lets q d (sym (ap (passes q) (get_or_from_slice_get ds before d d e)) ∙ prefix_len_passes (passes q) ds before d (omega arith))

all_pass : (q : Sequence) (ds : List Decision) (number : ℕ) → number < length ds →
    ((before : ℕ) (d : Decision) → before < number → slice_get ds before ≡ Some d → LetsPass q d) → number ≤ prefix_len (passes q) ds
all_pass q ds number lt all = by_cases (cases_lt (prefix_len (passes q) ds) number)
  where
    stopped : prefix_len (passes q) ds < number → ⊥
    stopped short =
        let at = prefix_len (passes q) ds in
        let within : at < length ds = omega arith in
        let there = slice_get-get_or ds at Undecided within in
        let goes_on = lets-passes q (get_or ds at Undecided) (all at (get_or ds at Undecided) short there) in
        let stops = prefix_len_stops (passes q) ds Undecided within in
        cc

    by_cases : (prefix_len (passes q) ds < number) ⊎ (number ≤ prefix_len (passes q) ds) → number ≤ prefix_len (passes q) ds
    by_cases (inl short) = absurd (stopped short)
    by_cases (inr le) = le

-- the number of members that are entered
count : (q : Sequence) (ds : List Decision) → q.sequential ≡ true → length (entered q ds) ≡ min (prefix_len (passes q) ds + 1) (length q.members)
unfolding entered
count q ds e =
    ap (λ b. length (if b then take (prefix_len (passes q) ds + 1) q.members else q.members)) e ∙ length-take (prefix_len (passes q) ds + 1) q.members

count-all : (q : Sequence) (ds : List Decision) → q.sequential ≡ false → length (entered q ds) ≡ length q.members
unfolding entered
count-all q ds e = ap (λ b. length (if b then take (prefix_len (passes q) ds + 1) q.members else q.members)) e

by_rule : (q : Sequence) (ds : List Decision) (number : ℕ) → length ds ≡ length q.members → number < length q.members → Enters q ds number → EntersByRule q ds number
by_rule q ds number long lt h s before d b e =
    let all = count q ds s in passed q ds number (omega (arith, all, h)) before d b e

pub entered-rule : (q : Sequence) (ds : List Decision) (number : ℕ) → length ds ≡ length q.members → number < length q.members → Enters q ds number ↔ EntersByRule q ds number
entered-rule q ds number long lt = (by_rule q ds number long lt, λ rule. back q.sequential refl rule)
  where
    back : (b : Bool) → q.sequential ≡ b → EntersByRule q ds number → Enters q ds number
    back true s rule = let all = count q ds s in let far = all_pass q ds number (omega (arith, long)) (rule s) in omega (arith, all, far)
    back false s rule = let all = count-all q ds s in omega (arith, all)
