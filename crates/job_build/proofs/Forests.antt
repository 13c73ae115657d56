-- The forest of a job's sequences, and its members sequence by sequence.
use Rattle.std.proofs.Common.{◌≡◌, ◌≢◌, ℕ, ◌+◌, ◌<◌, List, [], ◌∷◌, ◌++◌, drop, length, map, get_or, slice_get, Some, Err, refl, ap, sym, ◌∙◌, append_assoc}
use Rattle.std.proofs.lemmas.List.{drop_more}
use Rattle.std.proofs.lemmas.Option.{get_or_from_slice_get, slice_get_within}
use Rattle.std.specs.List.{zip}
use Rattle.hive_model.specs.Sequence.{Sequence}
use Rattle.hive_model.specs.Valid.{AreDistinctNames}
use Rattle.hive_model.specs.declared.sequence.Member.{Member}
use Rattle.text_model.specs.Forest.{Branch, branch_names, forest_of}
use Rattle.text_model.specs.JobNames.{algorithm_names, sequence_names}
use Rattle.text_model.specs.Jobs.{branch_of, sequence_with}
use Rattle.text_model.specs.RawOptions.{RawOptions, RawSequence}
use Rattle.text_model.specs.Refusals.{of_tree}
use Rattle.text_model.specs.Steps.{map_err}
use Rattle.text_model.specs.declared.job_refusal.JobRefusal.{JobRefusal}
use Rattle.text_model.specs.declared.job_refusal.JobRefusal.TheVariants.{NoMemory}
use Rattle.text_model.specs.declared.tree_refusal.TreeRefusal.{TreeRefusal}
use Rattle.text_model.specs.declared.tree_refusal.TreeRefusal.TheVariants as tree

pub names-of-branches : (sequences : List RawSequence) → branch_names (map branch_of sequences) ≡ map (λ (q : RawSequence). q.name) sequences
names-of-branches [] = refl
names-of-branches (q ∷ sequences) = ap (λ names. q.name ∷ names) (names-of-branches sequences)

pub branches-distinct : (raw : RawOptions) → AreDistinctNames (algorithm_names raw ++ sequence_names raw) →
    AreDistinctNames (algorithm_names raw ++ branch_names (map branch_of raw.sequences))
branches-distinct raw h = rw (names-of-branches raw.sequences) h

pub tree-told : (raw : RawOptions) (names : List (List ℕ)) (branches : List Branch) (top : List ℕ) (e : TreeRefusal) (r : JobRefusal) →
    names ≡ algorithm_names raw → branches ≡ map branch_of raw.sequences → top ≡ raw.top → (e ≢ tree.NoMemory → forest_of names branches top ≡ Err e) →
    r ≡ of_tree e → r ≢ NoMemory → map_err of_tree (forest_of (algorithm_names raw) (map branch_of raw.sequences) raw.top) ≡ Err r
tree-told raw names branches top e r named branched at refused told other =
    ap (map_err of_tree)
    (ap (λ ns. forest_of ns (map branch_of raw.sequences) raw.top) (sym named) ∙ ap (λ bs. forest_of names bs raw.top) (sym branched)
    ∙ ap (forest_of names branches) (sym at) ∙ refused (λ same. other (told ∙ ap of_tree same)))
    ∙ ap Err (sym told)

pub ruleset forests = (branches-distinct)

pub drop-at : {A : Type 0} (xs : List A) (i : ℕ) (x : A) → slice_get xs i ≡ Some x → drop i xs ≡ x ∷ drop (i + 1) xs
drop-at xs i x e =
    drop_more xs i x (slice_get_within xs i x e) ∙ ap (λ y. y ∷ drop (i + 1) xs) (get_or_from_slice_get xs i x x e)

pub sequences-more : (raws : List RawSequence) (members : List (List Member)) (found pushed : List Sequence) (i : ℕ) (raw : RawSequence) (ms : List Member)
    (s : Sequence) (whole : List Sequence) →
    i < length raws → raw ≡ get_or raws i raw → slice_get members i ≡ Some ms → s ≡ sequence_with (raw, ms) → pushed ≡ found ++ s ∷ [] →
    found ++ map sequence_with (zip (drop i raws) (drop i members)) ≡ whole →
    pushed ++ map sequence_with (zip (drop (i + 1) raws) (drop (i + 1) members)) ≡ whole
sequences-more raws members found pushed i raw ms s whole inside here below is new known =
    let front : drop i raws ≡ raw ∷ drop (i + 1) raws = drop_more raws i raw inside ∙ ap (λ q. q ∷ drop (i + 1) raws) (sym here) in
    let back : drop i members ≡ ms ∷ drop (i + 1) members = drop-at members i ms below in
    let rest = map sequence_with (zip (drop (i + 1) raws) (drop (i + 1) members)) in
    ap (λ xs. xs ++ rest) (new ∙ ap (λ x. found ++ x ∷ []) is)
    ∙ append_assoc found (sequence_with (raw, ms) ∷ []) rest
    ∙ sym (ap (λ qs. found ++ map sequence_with (zip qs (drop i members))) front
    ∙ ap (λ them. found ++ map sequence_with (zip (raw ∷ drop (i + 1) raws) them)) back)
    ∙ known
