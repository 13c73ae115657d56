-- The phases of a job's definition, one after another.
use Rattle.std.proofs.Common.{codes, ◌≡◌, ◌≢◌, ℕ, ◌+◌, ◌≤◌, nat_lt, Bool, true, false, not, ◌&&◌, List, [], ◌∷◌, ◌++◌, length, map, find, position, Option, Some, None, Result, Ok, Err, IfOk, option_map, refl, ap, sym, ◌∙◌, subst, arith, length-append}
use Rattle.std.proofs.lemmas.List.{length-map}
use Rattle.std.specs.List.{AllByRecursion, enumerate_from, flat_map, list_any, zip}
use Rattle.std.specs.Option.{option_map_or}
use Rattle.event_laws.specs.Uncut.{HasNoCut}
use Rattle.hive_model.specs.Algorithm.{Algorithm}
use Rattle.hive_model.specs.Below.{is_algorithm_below}
use Rattle.hive_model.specs.Job.{Job}
use Rattle.hive_model.specs.Sequence.{Sequence}
use Rattle.hive_model.specs.Valid.{AreDistinctNames, IsValidJob, handle_names}
use Rattle.hive_model.specs.declared.limits.TheConstants.{MOST_HANDLES}
use Rattle.hive_model.specs.declared.product.Kind.{Kind as KindOf}
use Rattle.hive_model.specs.declared.sequence.Member.{Member}
use Rattle.text_model.specs.CutNodes.{cut_refusal, input_cut_off, is_cut_off, is_of_wrong_kind, is_shared, may_lack, produces, shared, wrong_kind}
use Rattle.text_model.specs.Forest.{Forest, forest_of}
use Rattle.text_model.specs.Gives.{Gives}
use Rattle.text_model.specs.JobAlgorithms.{Scope, algorithms_from, raw_kinds}
use Rattle.text_model.specs.JobNames.{algorithm_names, names_refusal, resource_names, sequence_names}
use Rattle.text_model.specs.Jobs.{branch_of, handles_fit, job_of, job_of_raw, job_with, need_of, needs_of, raw_names, scope_of, sequence_with}
use Rattle.text_model.specs.Names.{name_at}
use Rattle.text_model.specs.Producers.{Graph, Need, graph_of, handles_of}
use Rattle.text_model.specs.RawOptions.{RawAlgorithm, RawOptions, RawSequence}
use Rattle.text_model.specs.Refusals.{of_graph, of_options, of_tree}
use Rattle.text_model.specs.Shape.{HasShape}
use Rattle.text_model.specs.Options.{read_of}
use Rattle.text_model.specs.Steps.{◌>>=◌, find_map, first_of, map_err, refuse_found, refuse_if, refuse_some}
use Rattle.text_model.specs.declared.graph_refusal.GraphRefusal.{GraphRefusal}
use Rattle.text_model.specs.declared.graph_refusal.GraphRefusal.TheVariants as graph
use Rattle.text_model.specs.declared.job_refusal.JobRefusal.{JobRefusal}
use Rattle.text_model.specs.declared.job_refusal.JobRefusal.TheVariants.{Cut, NoMemory, Options}
use Rattle.text_model.specs.declared.options_refusal.OptionsRefusal.{OptionsRefusal}
use Rattle.text_model.specs.declared.options_refusal.OptionsRefusal.TheVariants as options
use Rattle.text_model.specs.declared.options_refusal.OptionsRefusal.TheVariants.{Range}
use Rattle.text_model.specs.declared.cut_refusal.CutRefusal.TheVariants.{Input, Kind, Shared}
use Rattle.job_build.specs.Steps.{scope_read}
use Rattle.job_options.specs.Known.{known_language}
use Rattle.job_options.specs.Uncut.{IsUncut}
use Rattle.text_laws.proofs.Looked.{names-looked}
use Rattle.text_laws.proofs.Made.{told as job-told}
use Rattle.text_laws.proofs.Planted.{planted}
use Rattle.text_laws.proofs.Steps.{at-most, untold}
use Rattle.text_laws.proofs.Valid.{few-algorithms, told-valid}

-- regrouping the steps

regroup : {A B C S J E : Type 0} (a : Result A E) (b : Result B E) (c : Result C E) (of : C → S) (next : S → Result J E) →
    (a >>= λ _. b >>= λ _. c >>= λ x. next (of x)) ≡ ((a >>= λ _. b >>= λ _. c >>= λ x. Ok (of x)) >>= next)
regroup (Err e) b c of next = refl
regroup (Ok x) (Err e) c of next = refl
regroup (Ok x) (Ok y) (Err e) of next = refl
regroup (Ok x) (Ok y) (Ok z) of next = refl

abbrev pub forest_read : RawOptions → Result Forest JobRefusal
forest_read raw = map_err of_tree (forest_of (algorithm_names raw) (map branch_of raw.sequences) raw.top)

abbrev pub job_in : RawOptions → Scope → Result Job JobRefusal
job_in raw scope =
    algorithms_from scope 1 (length raw.raws) raw.algorithms >>= λ algorithms.
    forest_read raw >>= λ forest.
    refuse_some Cut (cut_refusal (job_with raw algorithms forest)) >>= λ _. Ok (job_with raw algorithms forest)

pub scope-first : (raw : RawOptions) → job_of_raw raw ≡ (scope_read raw >>= job_in raw)
unfolding job_of_raw scope_read
scope-first raw =
    regroup (handles_fit raw) (refuse_found (names_refusal raw)) (map_err of_graph (graph_of (raw_names raw) (needs_of raw))) (scope_of raw) (job_in raw)

-- no sequence has `cut`

find-none : {A : Type 0} (f : A → Bool) (xs : List A) → ((x : A) → f x ≡ false) → find f xs ≡ None
find-none f [] h = refl
find-none f (x ∷ xs) h = rw (h x) (find-none f xs h)

find_map-nothing : {A B : Type 0} (f : A → Option B) (xs : List A) → ((x : A) → f x ≡ None) → find_map f xs ≡ None
find_map-nothing f [] h = refl
find_map-nothing f (x ∷ xs) h = rw (h x) (find_map-nothing f xs h)

abbrev pub HaveNoCut : List Sequence → Type 0
HaveNoCut qs = AllByRecursion (λ (q : Sequence). q.cut ≡ false) qs

any-uncut : (n : ℕ) (qs : List Sequence) (test : ℕ → Bool) → HaveNoCut qs →
    list_any (λ (it : ℕ × Sequence). it.1.cut && test it.0) (enumerate_from n qs) ≡ false
any-uncut n [] test h = refl
any-uncut n (q ∷ qs) test (h, hs) = rw h (any-uncut (n + 1) qs test hs)

kind-uncut : (qs : List Sequence) → HaveNoCut qs → find is_of_wrong_kind qs ≡ None
kind-uncut [] h = refl
kind-uncut (q ∷ qs) (h, hs) = rw h (kind-uncut qs hs)

pub zip-uncut : (raws : List RawSequence) (members : List (List Member)) → AllByRecursion (λ (q : RawSequence). q.cut ≡ false) raws →
    HaveNoCut (map sequence_with (zip raws members))
zip-uncut [] members h = tt
zip-uncut (q ∷ raws) [] h = tt
zip-uncut (q ∷ raws) (ms ∷ members) (h, hs) = (h, zip-uncut raws members hs)

-- so the job that is told has none
told-uncut : (raw : RawOptions) (job : Job) → IsUncut raw → job_of_raw raw ≡ Ok job → HasNoCut job
told-uncut raw job uncut e =
    let it = job-told raw job e in
    subst (λ (j : Job). HasNoCut j) it.is (zip-uncut raw.sequences it.forest.members uncut)

shared-uncut : (job : Job) (number : ℕ) → HaveNoCut job.sequences → is_shared job number ≡ false
shared-uncut job number h = rw (any-uncut 0 job.sequences (λ s. is_algorithm_below job s number) h) refl

lacks-uncut : (job : Job) (taker handle : ℕ) → HaveNoCut job.sequences → may_lack job taker handle ≡ false
lacks-uncut job taker handle h = by (position (produces handle) job.algorithms)
  where
    by : (o : Option ℕ) → option_map_or (is_cut_off job taker) o false ≡ false
    by None = refl
    by (Some producer) = any-uncut 0 job.sequences (λ s. is_algorithm_below job s producer && not (is_algorithm_below job s taker)) h

all-none : {B : Type 0} (a b c : Option B) → a ≡ None → b ≡ None → c ≡ None → first_of (a ∷ b ∷ c ∷ []) ≡ None
all-none a b c e f g = rw (e, f, g) refl

inputs-uncut : (job : Job) (taker : ℕ) (inputs : List ℕ) → HaveNoCut job.sequences → find (may_lack job taker) inputs ≡ None
inputs-uncut job taker inputs h = find-none (may_lack job taker) inputs (λ x. lacks-uncut job taker x h)

pub nothing-cut : (job : Job) → HaveNoCut job.sequences → cut_refusal job ≡ None
unfolding cut_refusal
nothing-cut job h = all-none (wrong_kind job) (shared job) (input_cut_off job)
    (ap (option_map (λ (q : Sequence). Kind q.name)) (kind-uncut job.sequences h))
    (ap (option_map (λ (it : ℕ × Algorithm). Shared it.1.name))
    (find-none (λ (it : ℕ × Algorithm). is_shared job it.0) (enumerate_from 0 job.algorithms) (λ it. shared-uncut job it.0 h)))
    (find_map-nothing (λ (it : ℕ × Algorithm). option_map (λ handle. Input it.1.name (name_at (handle_names job) handle)) (find (may_lack job it.0) it.1.inputs))
    (enumerate_from 0 job.algorithms)
    (λ it. ap (option_map (λ handle. Input it.1.name (name_at (handle_names job) handle))) (inputs-uncut job it.0 it.1.inputs h)))

pub uncut_refusal : (raw : RawOptions) (algorithms : List Algorithm) (forest : Forest) → IsUncut raw →
    cut_refusal (job_with raw algorithms forest) ≡ None
uncut_refusal raw algorithms forest h = nothing-cut (job_with raw algorithms forest) (zip-uncut raw.sequences forest.members h)

-- the forest has members for each sequence

pub forest-members : (raw : RawOptions) (f : Forest) → forest_read raw ≡ Ok f → length f.members ≡ length raw.sequences
forest-members raw f e =
    let grown =
    planted (algorithm_names raw) (map branch_of raw.sequences) raw.top f
    (untold of_tree (forest_of (algorithm_names raw) (map branch_of raw.sequences) raw.top) f e) in
    rw (grown.members, length-map, length-map) refl

-- the names and the room where the scope was read

pub scope-checked : (raw : RawOptions) (s : Scope) → scope_read raw ≡ Ok s → (handles_fit raw ≡ Ok tt) × (names_refusal raw ≡ None)
unfolding scope_read
scope-checked raw s e = by (handles_fit raw) (names_refusal raw) e
  where
    by : (fit : Result (Unit {0}) JobRefusal) (named : Option JobRefusal) →
        (fit >>= λ _. refuse_found named >>= λ _. map_err of_graph (graph_of (raw_names raw) (needs_of raw)) >>= λ graph. Ok (scope_of raw graph)) ≡ Ok s →
        (fit ≡ Ok tt) × (named ≡ None)
    by (Err r) named h = cc
    by (Ok u) (Some r) h = cc
    by (Ok u) None h = (refl, refl)

handles-within : (raw : RawOptions) → handles_fit raw ≡ Ok tt → length (handles_of (raw_names raw) (needs_of raw)) ≤ MOST_HANDLES
handles-within raw e = by (nat_lt MOST_HANDLES (length (handles_of (raw_names raw) (needs_of raw)))) refl e
  where
    by : (t : Bool) → nat_lt MOST_HANDLES (length (handles_of (raw_names raw) (needs_of raw))) ≡ t →
        refuse_if t (Options (Range (codes "handle"))) ≡ Ok tt → length (handles_of (raw_names raw) (needs_of raw)) ≤ MOST_HANDLES
    by true test h = cc
    by false test h = at-most (length (handles_of (raw_names raw) (needs_of raw))) MOST_HANDLES test

outputs-length : (algorithms : List RawAlgorithm) →
    length (flat_map (λ (a : Need). a.outputs) (map need_of algorithms)) ≡ length (flat_map (λ (a : RawAlgorithm). a.outputs) algorithms)
outputs-length [] = refl
outputs-length (a ∷ rest) = rw (length-append, length-append, length-map, outputs-length rest) refl

pub scope-room : (raw : RawOptions) (s : Scope) → scope_read raw ≡ Ok s →
    length raw.raws + length (flat_map (λ (a : RawAlgorithm). a.outputs) raw.algorithms) ≤ MOST_HANDLES
scope-room raw s e =
    let within = handles-within raw (scope-checked raw s e).0 in
    let counted : length (handles_of (raw_names raw) (needs_of raw)) ≡ length raw.raws + length (flat_map (λ (a : RawAlgorithm). a.outputs) raw.algorithms) =
    rw (length-append, length-map, outputs-length raw.algorithms) refl in
    omega (arith, within, counted)

-- the graph, where the names were looked at

abbrev pub Few : List (List ℕ) → List Need → Type 0
Few raws needs = nat_lt MOST_HANDLES (length (handles_of raws needs)) ≡ false

pub few-again : (raws others : List (List ℕ)) (needs again : List Need) → raws ≡ others → needs ≡ again → Few raws needs → Few others again
few-again raws others needs again e f few =
    ap (λ ns. nat_lt MOST_HANDLES (length (handles_of ns again))) (sym e) ∙ ap (λ ns. nat_lt MOST_HANDLES (length (handles_of raws ns))) (sym f) ∙ few

pub graph-refused : (raw : RawOptions) (raws : List (List ℕ)) (needs : List Need) (e : GraphRefusal) (r : JobRefusal) → raws ≡ raw_names raw →
    needs ≡ needs_of raw → Few raws needs → names_refusal raw ≡ None → (e ≢ graph.NoMemory → graph_of raws needs ≡ Err e) → r ≡ of_graph e →
    r ≢ NoMemory → scope_read raw ≡ Err r
unfolding scope_read
graph-refused raw raws needs e r named need few unrefused refused told other =
    let read : graph_of (raw_names raw) (needs_of raw) ≡ Err e =
    ap (λ ns. graph_of ns (needs_of raw)) (sym named) ∙ ap (graph_of raws) (sym need) ∙ refused (λ same. other (told ∙ ap of_graph same)) in
    let fit : nat_lt MOST_HANDLES (length (handles_of (raw_names raw) (needs_of raw))) ≡ false =
    ap (λ ns. nat_lt MOST_HANDLES (length (handles_of ns (needs_of raw)))) (sym named)
    ∙ ap (λ ns. nat_lt MOST_HANDLES (length (handles_of raws ns))) (sym need) ∙ few in
    rw (fit, unrefused, read, told) refl

pub scope-built : (raw : RawOptions) (raws : List (List ℕ)) (needs : List Need) (g : Graph) (kinds : List KindOf) (resources : List (List ℕ)) →
    raws ≡ raw_names raw → needs ≡ needs_of raw → Few raws needs → names_refusal raw ≡ None → graph_of raws needs ≡ Ok g → kinds ≡ raw_kinds raw →
    resources ≡ resource_names raw → scope_read raw ≡ Ok (record { handles = g.names; kinds = kinds; resources = resources })
unfolding scope_read
scope-built raw raws needs g kinds resources named need few unrefused built of_kinds of_resources =
    let read : graph_of (raw_names raw) (needs_of raw) ≡ Ok g =
    ap (λ ns. graph_of ns (needs_of raw)) (sym named) ∙ ap (graph_of raws) (sym need) ∙ built in
    let fit : nat_lt MOST_HANDLES (length (handles_of (raw_names raw) (needs_of raw))) ≡ false =
    ap (λ ns. nat_lt MOST_HANDLES (length (handles_of ns (needs_of raw)))) (sym named)
    ∙ ap (λ ns. nat_lt MOST_HANDLES (length (handles_of raws ns))) (sym need) ∙ few in
    rw (fit, unrefused, read, of_kinds, of_resources) refl

pub scope-names : (raw : RawOptions) (s : Scope) → scope_read raw ≡ Ok s → AreDistinctNames (algorithm_names raw ++ sequence_names raw)
scope-names raw s e = (names-looked raw (scope-checked raw s e).1).members

-- the phases behind the scope

pub algorithms-refused : (raw : RawOptions) (s : Scope) (e : JobRefusal) → scope_read raw ≡ Ok s →
    algorithms_from s 1 (length raw.raws) raw.algorithms ≡ Err e → job_of_raw raw ≡ Err e
algorithms-refused raw s e read refused = scope-first raw ∙ rw (read, refused) refl

pub scope-refused : (raw : RawOptions) (e : JobRefusal) → scope_read raw ≡ Err e → job_of_raw raw ≡ Err e
scope-refused raw e read = scope-first raw ∙ rw read refl

pub forest-refused : (raw : RawOptions) (s : Scope) (algorithms : List Algorithm) (e : JobRefusal) → scope_read raw ≡ Ok s →
    algorithms_from s 1 (length raw.raws) raw.algorithms ≡ Ok algorithms → forest_read raw ≡ Err e → job_of_raw raw ≡ Err e
forest-refused raw s algorithms e read built refused = scope-first raw ∙ rw (read, built, refused) refl

pub job-built : (raw : RawOptions) (s : Scope) (algorithms : List Algorithm) (f : Forest) → IsUncut raw → scope_read raw ≡ Ok s →
    algorithms_from s 1 (length raw.raws) raw.algorithms ≡ Ok algorithms → forest_read raw ≡ Ok f → job_of_raw raw ≡ Ok (job_with raw algorithms f)
job-built raw s algorithms f uncut read built forest = scope-first raw ∙ rw (read, built, forest, uncut_refusal raw algorithms f uncut) refl

-- the text

pub job-of-read : (bytes : List ℕ) (raw : RawOptions) → read_of known_language bytes ≡ Ok raw → job_of known_language bytes ≡ job_of_raw raw
unfolding job_of
job-of-read bytes raw e = rw e refl

pub job-of-refused : (bytes : List ℕ) (e : OptionsRefusal) → (e ≢ options.NoMemory → read_of known_language bytes ≡ Err e) → of_options e ≢ NoMemory →
    job_of known_language bytes ≡ Err (of_options e)
unfolding job_of
job-of-refused bytes e refused other =
    let read = refused (λ same. other (ap of_options same)) in rw read refl

-- where a job is answered, it is valid

pub given-valid : (raw : RawOptions) (r : Result Job JobRefusal) → HasShape raw → Gives NoMemory r (job_of_raw raw) → IfOk r IsValidJob
given-valid raw (Ok job) shape told = told-valid raw job shape told
given-valid raw (Err e) shape told = tt

pub given-uncut : (raw : RawOptions) (r : Result Job JobRefusal) → IsUncut raw → Gives NoMemory r (job_of_raw raw) →
    IfOk r (λ (job : Job). HasNoCut job)
given-uncut raw (Ok job) uncut told_of = told-uncut raw job uncut told_of
given-uncut raw (Err e) uncut told_of = tt

pub ruleset reading = (job-of-read, job-of-refused, given-valid, given-uncut)

pub ruleset few = (few-algorithms)

pub ruleset phases = (few-algorithms, scope-room, scope-names, forest-members, job-built)
