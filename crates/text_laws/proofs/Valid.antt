-- A job that the definition answers is a valid one, fact by fact.
use Rattle.std.proofs.Common.{◌≡◌, ℕ, ◌<◌, ◌≤◌, ◌==◌, Bool, true, false, if◌then◌else◌, List, [], ◌∷◌, ◌++◌, length, map, filter_map, slice_get, Some, Ok, refl, ap, sym, subst, ◌∙◌, arith, length-append}
use Rattle.std.proofs.lemmas.List.{length-map}
use Rattle.std.specs.List.{AllByRecursion, Contains, flat_map, zip}
use Rattle.hive_model.specs.Algorithm.{Algorithm}
use Rattle.hive_model.specs.ControlFlow.{IsMemberOf, IsNestedWithin, algorithm_number, all_members, member_sequences, sequence_number}
use Rattle.hive_model.specs.DataFlow.{AreNumberedFrom, Takes}
use Rattle.hive_model.specs.Handles.{handle_count, kinds_of, output_kinds}
use Rattle.hive_model.specs.Job.{Job}
use Rattle.hive_model.specs.Kinds.{HasExpressions}
use Rattle.hive_model.specs.Sequence.{Sequence}
use Rattle.hive_model.specs.Paths.{HasNoCycle}
use Rattle.hive_model.specs.Valid.{AreDistinctNames, AreDistinctNumbers, IsValidJob, IsWithinLimits, handle_names, member_names, output_names}
use Rattle.hive_model.specs.declared.algorithm.Raw.{Raw}
use Rattle.hive_model.specs.declared.algorithm.Resource.{Resource}
use Rattle.hive_model.specs.declared.limits.TheConstants.{MOST_ALGORITHMS, MOST_DEPTH, MOST_HANDLES, MOST_INSTANCES, MOST_LEAVES, MOST_UNITS}
use Rattle.hive_model.specs.declared.product.Kind.{Kind}
use Rattle.hive_model.specs.declared.sequence.Member.{Member}
use Rattle.hive_model.specs.declared.sequence.Member.TheVariants.{Alg, Seq}
use Rattle.text_model.specs.Forest.{Branch, Forest, all_of, branch_names, member_named, sequences_below}
use Rattle.text_model.specs.JobAlgorithms.{handle_named, raw_kinds}
use Rattle.text_model.specs.JobNames.{algorithm_names, resource_names}
use Rattle.text_model.specs.Jobs.{branch_of, job_of_raw, job_with, needs_of, raw_names, scope_of, sequence_with}
use Rattle.text_model.specs.Names.{number_of}
use Rattle.text_model.specs.Producers.{Graph, handles_of}
use Rattle.text_model.specs.RawOptions.{RawAlgorithm, RawOptions}
use Rattle.text_model.specs.Shape.{HasShape, IsAlgorithm, IsResource}
use Rattle.text_model.specs.Walks.{is_deeper_than}
use Rattle.text_model.specs.declared.limits.TheConstants.{FIRST_VERSION, MOST_ALGORITHMS_OF_VERSION_1}
use Rattle.text_model.specs.declared.named.Named.{Named}
use Rattle.text_laws.proofs.Built.{IsBuiltAt, as-many-built, built-at, names_built, numbered-built, output-kinds-built}
use Rattle.text_laws.proofs.Lists.{all-flat, all-from_get, all-get, all-mapped, all-unmapped}
use Rattle.text_laws.proofs.Looked.{IsLooked}
use Rattle.text_laws.proofs.Made.{IsMade, told}
use Rattle.text_laws.proofs.Numbers.{handles-differ, handles-within, numbers-differ, numbers-within}
use Rattle.text_laws.proofs.Planted.{IsAmong, all-members, deep-nested, members-among, members-of_sequences, names-of_sequences, not-deep}
use Rattle.text_laws.proofs.Seen.{expressions-built}
use Rattle.text_laws.proofs.Taking.{acyclic, drawn, named-as-told}
use Rattle.text_laws.proofs.Uncovered.{cuts-closed}

-- limits of the options

pub few-algorithms : (raw : RawOptions) → HasShape raw → length raw.algorithms ≤ MOST_ALGORITHMS
few-algorithms raw h = by (raw.version == FIRST_VERSION) h.few_algorithms
  where
    by : (t : Bool) → length raw.algorithms ≤ (if t then MOST_ALGORITHMS_OF_VERSION_1 else MOST_ALGORITHMS) → length raw.algorithms ≤ MOST_ALGORITHMS
    by true h = omega arith
    by false h = h

units-within : (resources : List Resource) → AllByRecursion IsResource resources → AllByRecursion (λ (r : Resource). (1 ≤ r.units) × (r.units ≤ MOST_UNITS)) resources
units-within [] h = tt
units-within (r ∷ resources) (h, hs) = ((h.1, h.2), units-within resources hs)

-- as many kinds as names
outputs-many : (all : List Algorithm) → length (flat_map output_kinds all) ≡ length (flat_map output_names all)
outputs-many [] = refl
outputs-many (a ∷ all) =
    rw (length-append, length-append, length-map, length-map, outputs-many all) refl

as-many-handles : (job : Job) → handle_count job ≡ length (handle_names job)
as-many-handles job = rw (length-append, length-append, length-map, length-map, outputs-many job.algorithms) refl

each-member : (job : Job) (members : List (List Member)) → AllByRecursion (AllByRecursion (IsAmong (length job.algorithms) (length job.sequences))) members →
    AllByRecursion (AllByRecursion (IsMemberOf job)) members
each-member job [] h = tt
each-member job (ms ∷ members) (h, hs) = (each ms h, each-member job members hs)
  where
    each : (ms : List Member) → AllByRecursion (IsAmong (length job.algorithms) (length job.sequences)) ms → AllByRecursion (IsMemberOf job) ms
    each [] h = tt
    each (Alg a ∷ ms) (h, hs) = (h, each ms hs)
    each (Seq s ∷ ms) (h, hs) = (h, each ms hs)

-- The facts are about the job that is put together of what each phase gave.
module _ (raw : RawOptions) (g : Graph) (all : List Algorithm) (f : Forest) (made : IsMade raw g all f) where
  -- handles: their names, and their kinds as the scope tells them

  names-told : g.names ≡ handles_of (raw_names raw) (needs_of raw)
  names-told = (drawn (raw_names raw) (needs_of raw) g made.drawn).names

  handle-names : handle_names (job_with raw all f) ≡ handles_of (raw_names raw) (needs_of raw)
  handle-names = named-as-told raw (scope_of raw g) all f made.built

  handle_names_differ : AreDistinctNames (handle_names (job_with raw all f))
  handle_names_differ =
      subst (λ (names : List (List ℕ)). AreDistinctNames names) (sym handle-names) (drawn (raw_names raw) (needs_of raw) g made.drawn).once

  kinds-told : raw_kinds raw ≡ kinds_of (job_with raw all f)
  kinds-told =
      ap (λ (ks : List Kind). map (λ (r : Raw). r.kind) raw.raws ++ ks)
      (sym (output-kinds-built (scope_of raw g) (length raw.raws) raw.algorithms all made.built))

  handles-fit : handle_count (job_with raw all f) ≤ MOST_HANDLES
  handles-fit =
      let fit = made.fit in
      let names : length (handle_names (job_with raw all f)) ≡ length (handles_of (raw_names raw) (needs_of raw)) = ap length handle-names in
      let same = as-many-handles (job_with raw all f) in omega (arith, fit, names, same)

  -- algorithms

  built_at : (n : ℕ) (a : Algorithm) → slice_get all n ≡ Some a → IsBuiltAt (scope_of raw g) raw.algorithms n a
  built_at n a e = built-at (scope_of raw g) (length raw.raws) raw.algorithms all n a made.built e

  numbered : AreNumberedFrom (length raw.raws) all
  numbered = numbered-built (scope_of raw g) (length raw.raws) raw.algorithms all made.built

  inputs : AllByRecursion (λ (a : Algorithm). AllByRecursion (λ h. h < handle_count (job_with raw all f)) a.inputs) all
  inputs = all-from_get (λ (a : Algorithm). AllByRecursion (λ h. h < handle_count (job_with raw all f)) a.inputs) all (λ n a e.
      let it = built_at n a e in
      subst (λ (hs : List ℕ). AllByRecursion (λ h. h < handle_count (job_with raw all f)) hs) (sym it.built.inputs)
      (subst (λ (ks : List Kind). AllByRecursion (λ h. h < length ks) (map (λ (n : Named). n.handle) (filter_map (handle_named (scope_of raw g)) it.raw.inputs)))
      kinds-told
      (all-mapped (λ h. h < length (raw_kinds raw)) (λ (n : Named). n.handle) (filter_map (handle_named (scope_of raw g)) it.raw.inputs)
      (handles-within (scope_of raw g) it.raw.inputs))))

  looked_at : (n : ℕ) (a : RawAlgorithm) → slice_get raw.algorithms n ≡ Some a → IsLooked a
  looked_at n a e = all-get IsLooked raw.algorithms n a made.looked.algorithms e

  inputs_differ : AllByRecursion (λ (a : Algorithm). AreDistinctNumbers a.inputs) all
  inputs_differ = all-from_get (λ (a : Algorithm). AreDistinctNumbers a.inputs) all (λ n a e.
      let it = built_at n a e in
      subst (λ (hs : List ℕ). AreDistinctNumbers hs) (sym it.built.inputs)
      (handles-differ (scope_of raw g) it.raw.inputs (looked_at n it.raw it.there).inputs))

  resources : AllByRecursion (λ (a : Algorithm). AllByRecursion (λ r. r < length raw.resources) a.resources) all
  resources = all-from_get (λ (a : Algorithm). AllByRecursion (λ r. r < length raw.resources) a.resources) all (λ n a e.
      let it = built_at n a e in
      subst (λ (rs : List ℕ). AllByRecursion (λ r. r < length raw.resources) rs) (sym it.built.resources)
      (subst (λ (k : ℕ). AllByRecursion (λ r. r < k) (filter_map (number_of (resource_names raw)) it.raw.resources))
      (length-map raw.resources (λ (r : Resource). r.name)) (numbers-within (resource_names raw) it.raw.resources)))

  resources_differ : AllByRecursion (λ (a : Algorithm). AreDistinctNumbers a.resources) all
  resources_differ = all-from_get (λ (a : Algorithm). AreDistinctNumbers a.resources) all (λ n a e.
      let it = built_at n a e in
      subst (λ (rs : List ℕ). AreDistinctNumbers rs) (sym it.built.resources)
      (numbers-differ (resource_names raw) it.raw.resources (looked_at n it.raw it.there).resources))

  no_cycle : HasNoCycle (Takes (job_with raw all f))
  no_cycle = acyclic raw (scope_of raw g) all f made.built names-told (drawn (raw_names raw) (needs_of raw) g made.drawn).acyclic

  expressions : AllByRecursion (HasExpressions (job_with raw all f)) all
  expressions = all-from_get (HasExpressions (job_with raw all f)) all (λ n a e.
      let it = built_at n a e in
      expressions-built (job_with raw all f) (scope_of raw g) it.first n it.raw a numbered kinds-told e it.built)

  -- sequences

  as-many-members : length f.members ≡ length raw.sequences
  as-many-members =
      ap length made.planted.members
      ∙ length-map (map branch_of raw.sequences) (λ (b : Branch). filter_map (member_named (algorithm_names raw) (branch_names (map branch_of raw.sequences))) b.members)
      ∙ length-map raw.sequences branch_of

  members-told : map (λ (q : Sequence). q.members) (map sequence_with (zip raw.sequences f.members)) ≡ f.members
  members-told = members-of_sequences raw.sequences f.members as-many-members

  as-many-sequences : length (map sequence_with (zip raw.sequences f.members)) ≡ length raw.sequences
  as-many-sequences =
      sym (length-map (map sequence_with (zip raw.sequences f.members)) (λ (q : Sequence). q.members)) ∙ ap length members-told ∙ as-many-members

  all-told : all_members (map sequence_with (zip raw.sequences f.members)) ≡ all_of f.members
  all-told = all-members (map sequence_with (zip raw.sequences f.members)) ∙ ap all_of members-told

  member_names_differ : AreDistinctNames (member_names (job_with raw all f))
  member_names_differ =
      subst (λ (names : List (List ℕ)). AreDistinctNames names)
      (sym (ap (λ ns. ns ++ map (λ (q : Sequence). q.name) (map sequence_with (zip raw.sequences f.members)))
      (names_built (scope_of raw g) (length raw.raws) raw.algorithms all made.built)
      ∙ ap (λ ns. algorithm_names raw ++ ns) (names-of_sequences raw.sequences f.members as-many-members)))
      made.looked.members

  among : AllByRecursion (AllByRecursion (IsAmong (length all) (length (map sequence_with (zip raw.sequences f.members))))) f.members
  among =
      let algorithms : length (algorithm_names raw) ≡ length all =
      length-map raw.algorithms (λ (a : RawAlgorithm). a.name) ∙ sym (as-many-built (scope_of raw g) (length raw.raws) raw.algorithms all made.built) in
      let sequences : length (branch_names (map branch_of raw.sequences)) ≡ length (map sequence_with (zip raw.sequences f.members)) =
      length-map (map branch_of raw.sequences) (λ (b : Branch). b.name) ∙ length-map raw.sequences branch_of ∙ sym as-many-sequences in
      subst (λ (k : ℕ). AllByRecursion (AllByRecursion (IsAmong k (length (map sequence_with (zip raw.sequences f.members))))) f.members) algorithms
      (subst (λ (k : ℕ). AllByRecursion (AllByRecursion (IsAmong (length (algorithm_names raw)) k)) f.members) sequences
      (subst (λ (them : List (List Member)).
      AllByRecursion (AllByRecursion (IsAmong (length (algorithm_names raw)) (length (branch_names (map branch_of raw.sequences))))) them)
      (sym made.planted.members) (members-among (algorithm_names raw) (branch_names (map branch_of raw.sequences)) (map branch_of raw.sequences))))

  members : AllByRecursion (IsMemberOf (job_with raw all f)) (all_members (map sequence_with (zip raw.sequences f.members)))
  members =
      subst (λ (ms : List Member). AllByRecursion (IsMemberOf (job_with raw all f)) ms) (sym all-told)
      (all-flat (IsMemberOf (job_with raw all f)) f.members
      (each-member (job_with raw all f) f.members among))

  forest : AreDistinctNumbers (member_sequences (job_with raw all f))
  forest = subst (λ (ms : List Member). AreDistinctNumbers (filter_map sequence_number ms)) (sym all-told) made.planted.once

  top_is_no_member : Contains (member_sequences (job_with raw all f)) f.top → ⊥
  top_is_no_member = subst (λ (ms : List Member). Contains (filter_map sequence_number ms) f.top → ⊥) (sym all-told) made.planted.top_is_no_member

  top : f.top < length (map sequence_with (zip raw.sequences f.members))
  top =
      let inside = made.planted.top in
      let names : length (branch_names (map branch_of raw.sequences)) ≡ length raw.sequences =
      length-map (map branch_of raw.sequences) (λ (b : Branch). b.name) ∙ length-map raw.sequences branch_of in
      let many = as-many-sequences in omega (arith, inside, names, many)

  nested : (s : ℕ) → s < length (map sequence_with (zip raw.sequences f.members)) →
      IsNestedWithin MOST_DEPTH (map sequence_with (zip raw.sequences f.members)) (Seq s)
  nested s h =
      let sequences = map sequence_with (zip raw.sequences f.members) in
      let each : AllByRecursion (λ (q : Sequence). AllByRecursion (IsAmong (length all) (length sequences)) q.members) sequences =
      all-unmapped (AllByRecursion (IsAmong (length all) (length sequences))) (λ (q : Sequence). q.members) sequences
      (subst (λ (ms : List (List Member)). AllByRecursion (AllByRecursion (IsAmong (length all) (length sequences))) ms) (sym members-told) among) in
      let many = as-many-sequences in let more = as-many-members in
      let shallow = not-deep f.members made.planted.shallow s (omega (arith, h, many, more)) in
      deep-nested MOST_DEPTH sequences (length all) each s h
      (ap (λ (ms : List (List Member)). is_deeper_than (sequences_below ms) MOST_DEPTH s) members-told ∙ shallow)

  limits : HasShape raw → IsWithinLimits (job_with raw all f)
  limits shape =
      let some = as-many-built (scope_of raw g) (length raw.raws) raw.algorithms all made.built in
      let few = few-algorithms raw shape in
      let others = as-many-sequences in
      let few_others = shape.few_sequences in
      record {
        algorithms = omega (arith, some, few);
        sequences = omega (arith, others, few_others);
        resources = shape.few_resources;
        handles = handles-fit;
        leaves = subst (λ (ms : List Member). length (filter_map algorithm_number ms) ≤ MOST_LEAVES) (sym all-told) made.planted.few;
        cardinalities = all-from_get (λ (a : Algorithm). a.cardinality ≤ MOST_INSTANCES) all (λ n a e.
            let it = built_at n a e in
            subst (λ (k : ℕ). k ≤ MOST_INSTANCES) (sym it.built.cardinality)
            (all-get IsAlgorithm raw.algorithms n it.raw shape.algorithms it.there).cardinality);
        units = units-within raw.resources shape.resources;
      }

  valid : HasShape raw → IsValidJob (job_with raw all f)
  valid shape = record {
    resource_names = made.looked.resources;
    member_names_differ = member_names_differ;
    handle_names_differ = handle_names_differ;
    numbered = numbered;
    inputs = inputs;
    inputs_differ = inputs_differ;
    resources = resources;
    resources_differ = resources_differ;
    acyclic = no_cycle;
    expressions = expressions;
    members = members;
    forest = forest;
    top_is_no_member = top_is_no_member;
    top = top;
    nested = nested;
    cuts = cuts-closed (job_with raw all f) members numbered made.uncut;
    limits = limits shape;
  }

pub told-valid : (raw : RawOptions) (job : Job) → HasShape raw → job_of_raw raw ≡ Ok job → IsValidJob job
told-valid raw job shape e =
    let it = told raw job e in subst IsValidJob it.is (valid raw it.graph it.algorithms it.forest it.made shape)
