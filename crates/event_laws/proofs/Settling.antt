-- A decision that is made stays when more algorithms have run: at a leaf, at a node whose members' decisions stay, and so at
-- every member.
use Rattle.std.proofs.Common.{◌≡◌, ◌≢◌, ℕ, zero, suc, Bool, true, false, if◌then◌else◌, List, [], ◌∷◌, map, slice_get, Option, Some, None, refl, sym, ap, ap₂, ◌∙◌, subst}
use Rattle.std.specs.List.{AllZip, list_any}
use Rattle.std.specs.Option.{option_map_or}
use Rattle.std.proofs.lemmas.Bool.{true≢false, or_right, cond_both, cond-true, cond-false}
use Rattle.event_laws.proofs.Staying.{Stays, all_zip-map, or-stays, AreOutcomesWithin}
use Rattle.hive_model.specs.Decision.{leaf_decision, is_undecided, is_fixing, fixing, neutral, strict, concurrent, sequential, inverted, ignored, node_decision, decision_within, decision}
use Rattle.hive_model.specs.Job.{Job}
use Rattle.hive_model.specs.Sequence.{Sequence}
use Rattle.hive_model.specs.declared.decision.Decision.{Decision}
use Rattle.hive_model.specs.declared.decision.Decision.TheVariants.{True, False, Undecided}
use Rattle.hive_model.specs.declared.outcome.Outcome.{Outcome}
use Rattle.hive_model.specs.declared.sequence.Member.{Member}
use Rattle.hive_model.specs.declared.sequence.Member.TheVariants.{Alg, Seq}

-- a decision that is made stays as it is
abbrev pub Settles : Decision → Decision → Type 0
Settles True later = later ≡ True
Settles False later = later ≡ False
Settles Undecided later = Unit {0}

pub settles-same : (d later : Decision) → later ≡ d → Settles d later
settles-same True later e = e
settles-same False later e = e
settles-same Undecided later e = tt

pub settles-value : (d later : Decision) → Settles d later → d ≢ Undecided → later ≡ d
settles-value True later h made = h
settles-value False later h made = h
settles-value Undecided later h made = absurd (made refl)

leaf-settles : (o later : Option Outcome) → Stays o later → Settles (leaf_decision o) (leaf_decision later)
leaf-settles None later h = tt
leaf-settles (Some o) later h = settles-same (leaf_decision (Some o)) (leaf_decision later) (ap leaf_decision h)

-- the members of a node

abbrev pub AllSettle : List Decision → List Decision → Type 0
AllSettle ds later = AllZip Settles ds later

-- where all are decided, they are the same later
settled-members : (ds later : List Decision) → AllSettle ds later → list_any is_undecided ds ≡ false → later ≡ ds
settled-members [] [] all e = refl
settled-members [] (x ∷ later) all e = absurd all
settled-members (d ∷ ds) [] all e = absurd all
settled-members (True ∷ ds) (x ∷ later) all e = ap₂ ◌∷◌ all.0 (settled-members ds later all.1 e)
settled-members (False ∷ ds) (x ∷ later) all e = ap₂ ◌∷◌ all.0 (settled-members ds later all.1 e)
settled-members (Undecided ∷ ds) (x ∷ later) all e = absurd (true≢false e)

-- one that fixes the node does so later
fixed-members : (mode_or : Bool) (ds later : List Decision) → AllSettle ds later → list_any (is_fixing mode_or) ds ≡ true → list_any (is_fixing mode_or) later ≡ true
fixed-members mode_or [] [] all e = e
fixed-members mode_or [] (x ∷ later) all e = absurd all
fixed-members mode_or (d ∷ ds) [] all e = absurd all
fixed-members mode_or (True ∷ ds) (x ∷ later) all e =
    or-stays (is_fixing mode_or True) (list_any (is_fixing mode_or) ds) (is_fixing mode_or x) (list_any (is_fixing mode_or) later)
    (λ own. ap (is_fixing mode_or) all.0 ∙ own) (fixed-members mode_or ds later all.1) e
fixed-members mode_or (False ∷ ds) (x ∷ later) all e =
    or-stays (is_fixing mode_or False) (list_any (is_fixing mode_or) ds) (is_fixing mode_or x) (list_any (is_fixing mode_or) later)
    (λ own. ap (is_fixing mode_or) all.0 ∙ own) (fixed-members mode_or ds later all.1) e
fixed-members mode_or (Undecided ∷ ds) (x ∷ later) all e =
    or_right (is_fixing mode_or x) (list_any (is_fixing mode_or) later) (fixed-members mode_or ds later all.1 e)

-- the kinds of node

strict-settles : (mode_or : Bool) (ds later : List Decision) → AllSettle ds later → Settles (strict mode_or ds) (strict mode_or later)
strict-settles mode_or ds later all =
    let decided : Decision = if list_any (is_fixing mode_or) ds then fixing mode_or else neutral mode_or in
    cond_both (list_any is_undecided ds) Undecided decided (λ d. Settles d (strict mode_or later)) (λ _. tt)
    (λ none.
    settles-same decided (strict mode_or later)
    (ap (strict mode_or) (settled-members ds later all none) ∙ cond-false (list_any is_undecided ds) Undecided decided none))

concurrent-settles : (mode_or : Bool) (ds later : List Decision) → AllSettle ds later → Settles (concurrent mode_or ds) (concurrent mode_or later)
concurrent-settles mode_or ds later all =
    let unfixed : Decision = if list_any is_undecided ds then Undecided else neutral mode_or in
    let same : Decision → Type 0 = λ d. Settles d (concurrent mode_or later) in
    cond_both (list_any (is_fixing mode_or) ds) (fixing mode_or) unfixed same
    (λ one.
    settles-same (fixing mode_or) (concurrent mode_or later)
    (cond-true (list_any (is_fixing mode_or) later) (fixing mode_or) _ (fixed-members mode_or ds later all one)))
    (λ none.
    cond_both (list_any is_undecided ds) Undecided (neutral mode_or) same (λ _. tt)
    (λ decided.
    settles-same (neutral mode_or) (concurrent mode_or later)
    (ap (concurrent mode_or) (settled-members ds later all decided)
    ∙ cond-false (list_any (is_fixing mode_or) ds) (fixing mode_or) unfixed none
    ∙ cond-false (list_any is_undecided ds) Undecided (neutral mode_or) decided)))

sequential-settles : (mode_or : Bool) (ds later : List Decision) → AllSettle ds later → Settles (sequential mode_or ds) (sequential mode_or later)
sequential-settles mode_or [] [] all = settles-same (neutral mode_or) (neutral mode_or) refl
sequential-settles mode_or [] (x ∷ later) all = absurd all
sequential-settles mode_or (d ∷ ds) [] all = absurd all
sequential-settles true (True ∷ ds) (x ∷ later) all = ap (λ d. sequential true (d ∷ later)) all.0
sequential-settles false (True ∷ ds) (x ∷ later) all =
    subst (λ d. Settles (sequential false ds) (sequential false (d ∷ later))) (sym all.0) (sequential-settles false ds later all.1)
sequential-settles true (False ∷ ds) (x ∷ later) all =
    subst (λ d. Settles (sequential true ds) (sequential true (d ∷ later))) (sym all.0) (sequential-settles true ds later all.1)
sequential-settles false (False ∷ ds) (x ∷ later) all = ap (λ d. sequential false (d ∷ later)) all.0
sequential-settles mode_or (Undecided ∷ ds) (x ∷ later) all = tt

kind-settles : (short_circuit in_order mode_or : Bool) (ds later : List Decision) → AllSettle ds later →
    Settles
    (if short_circuit then (if in_order then sequential mode_or ds else concurrent mode_or ds) else strict mode_or ds)
    (if short_circuit then (if in_order then sequential mode_or later else concurrent mode_or later) else strict mode_or later)
kind-settles true true mode_or ds later all = sequential-settles mode_or ds later all
kind-settles true false mode_or ds later all = concurrent-settles mode_or ds later all
kind-settles false in_order mode_or ds later all = strict-settles mode_or ds later all

-- the flags

inverted-settles : (inverts : Bool) (d later : Decision) → Settles d later → Settles (inverted inverts d) (inverted inverts later)
inverted-settles false d later h = h
inverted-settles true True later h = ap (inverted true) h
inverted-settles true False later h = ap (inverted true) h
inverted-settles true Undecided later h = tt

ignored-settles : (ignores : Bool) (d later : Decision) → Settles d later → Settles (ignored ignores d) (ignored ignores later)
ignored-settles false d later h = h
ignored-settles true True later h = ap (ignored true) h
ignored-settles true False later h = ap (ignored true) h
ignored-settles true Undecided later h = tt

pub node-settles : (q : Sequence) (ds later : List Decision) → AllSettle ds later → Settles (node_decision q ds) (node_decision q later)
unfolding node_decision
node-settles q ds later all =
    ignored-settles q.ignore_filter _ _ (inverted-settles q.invert _ _ (kind-settles q.short_circuit q.sequential q.mode_or ds later all))

-- every member

pub decision_within-settles : (depth : ℕ) (sequences : List Sequence) (ran others : List (Option Outcome)) (m : Member) → AreOutcomesWithin ran others →
    Settles (decision_within depth sequences ran m) (decision_within depth sequences others m)
unfolding decision_within
decision_within-settles zero sequences ran others (Alg a) h = leaf-settles _ _ (h a)
decision_within-settles (suc depth) sequences ran others (Alg a) h = leaf-settles _ _ (h a)
decision_within-settles zero sequences ran others (Seq s) h = tt
decision_within-settles (suc depth) sequences ran others (Seq s) h =
    let now : Member → Decision = decision_within depth sequences ran in
    let later : Member → Decision = decision_within depth sequences others in
    elim (slice_get sequences s)
    as (λ o.
    Settles (option_map_or (λ q. node_decision q (map now q.members)) o Undecided)
    (option_map_or (λ q. node_decision q (map later q.members)) o Undecided)) [
      | None ↦ tt
      | Some q ↦
          node-settles q (map now q.members) (map later q.members)
          (all_zip-map Settles now later (λ m. decision_within-settles depth sequences ran others m h) q.members)
    ]

pub decision-settles : (job : Job) (ran others : List (Option Outcome)) (m : Member) → AreOutcomesWithin ran others →
    Settles (decision job ran m) (decision job others m)
unfolding decision
decision-settles job ran others m h = decision_within-settles _ job.sequences ran others m h
