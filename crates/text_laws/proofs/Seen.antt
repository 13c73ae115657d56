-- The expressions of a job: each sees what it may, and is one over that.
use Rattle.std.proofs.Common.{◌≡◌, ℕ, zero, suc, ◌+◌, ◌<◌, ◌≤◌, nat_eq, nat_le, nat_lt, true, ◌&&◌, ◌||◌, List, [], ◌∷◌, ◌++◌, length, map, take, slice_get, Option, Some, None, Ok, MatchOption, option_map, refl, ap, sym, subst, ◌∙◌, arith}
use Rattle.std.proofs.lemmas.Bool.{eq-eqb, or_left, or_right}
use Rattle.std.proofs.lemmas.Bool.Decides.{nat_tests}
use Rattle.std.proofs.lemmas.List.{length-map, take_all}
use Rattle.std.proofs.lemmas.Option.{slice_get-map}
use Rattle.std.specs.List.{AllByRecursion, enumerate_from, flat_map, list_any}
use Rattle.hive_model.specs.Algorithm.{Algorithm}
use Rattle.hive_model.specs.DataFlow.{AreNumberedFrom}
use Rattle.hive_model.specs.Handles.{kind_of, kinds_of, output_kinds}
use Rattle.hive_model.specs.Job.{Job}
use Rattle.hive_model.specs.Kinds.{HasExpressions, HaveExpressions, IsExpression, visible_kind}
use Rattle.hive_model.specs.Tree.{nodes_of}
use Rattle.hive_model.specs.declared.algorithm.Output.{Output}
use Rattle.hive_model.specs.declared.algorithm.Raw.{Raw}
use Rattle.hive_model.specs.declared.expr.Node.{Node}
use Rattle.hive_model.specs.declared.product.Kind.{Kind}
use Rattle.hive_model.specs.declared.product.Kind.TheVariants as kinds
use Rattle.text_model.specs.ExprText.{expr_of}
use Rattle.text_model.specs.JobAlgorithms.{Scope, filter_at, handle_named, inputs_of, nodes_at, output_at, outputs_of}
use Rattle.text_model.specs.RawOptions.{RawAlgorithm}
use Rattle.text_model.specs.Refusals.{of_expr}
use Rattle.text_model.specs.Steps.{◌>>=◌, collect, map_err}
use Rattle.text_model.specs.declared.named.Named.{Named}
use Rattle.text_model.specs.declared.raw_options.RawOutput.{RawOutput}
use Rattle.text_laws.specs.Known.{Knows}
use Rattle.text_laws.proofs.Built.{IsBuilt, as-many-outputs}
use Rattle.text_laws.proofs.Handles.{at-output}
use Rattle.text_laws.proofs.Lists.{all-append, all-given}
use Rattle.text_laws.proofs.Numbers.{handle-named}
use Rattle.text_laws.proofs.Reading.{expression-valid}
use Rattle.text_laws.proofs.Steps.{bound, same-ok, untold}

-- one expression

nodes-valid : (see : ℕ → Option Kind) (path text : List ℕ) (seen : List Named) (kind : Kind) (nodes : List Node) → Knows see seen →
    nodes_at path text seen kind ≡ Ok nodes → IsExpression see kind nodes
unfolding nodes_at
nodes-valid see path text seen kind nodes known e =
    let (tree, read, is) = bound (map_err (of_expr path) (expr_of text seen kind)) _ nodes e in
    rw (← same-ok (nodes_of tree) nodes is)
    (expression-valid see text seen kind tree known (untold (of_expr path) (expr_of text seen kind) tree read))

output-first : (job : Job) (a : Algorithm) (n : ℕ) (o : RawOutput) (nodes : List Node) (y : Output) (ys outputs : List Output) →
    record { name = o.name; kind = o.kind; value = nodes } ≡ y → y ∷ ys ≡ outputs → IsExpression (visible_kind job a n) o.kind nodes →
    HaveExpressions job a (n + 1) ys → HaveExpressions job a n outputs
output-first job a n o nodes y ys outputs this all valid later = rw (← all, ← this) (valid, later)

-- the outputs from a number on
outputs-valid : (job : Job) (a : Algorithm) (path : List ℕ) (inputs all : List Named) →
    ((above : ℕ) → Knows (visible_kind job a above) (inputs ++ take above all)) → (n : ℕ) (raws : List RawOutput) (outputs : List Output) →
    collect (output_at path inputs all) (enumerate_from n raws) ≡ Ok outputs → HaveExpressions job a n outputs
unfolding collect output_at
outputs-valid job a path inputs all known n [] outputs e =
    let none : [] ≡ outputs = same-ok [] outputs e in rw (← none) tt
outputs-valid job a path inputs all known n (o ∷ raws) outputs e =
    let (y, made, rest) = bound (output_at path inputs all (n, o))
    (λ y. collect (output_at path inputs all) (enumerate_from (n + 1) raws) >>= λ ys. Ok (y ∷ ys)) outputs e in
    let (ys, later, same) = bound (collect (output_at path inputs all) (enumerate_from (n + 1) raws)) (λ ys. Ok (y ∷ ys)) outputs rest in
    let (nodes, read, is) = bound (nodes_at _ o.value (inputs ++ take n all) o.kind) (λ (nodes : List Node). Ok (record { name = o.name; kind = o.kind; value = nodes })) y made in
    let all_of : y ∷ ys ≡ outputs = same-ok (y ∷ ys) outputs same in
    let this : record { name = o.name; kind = o.kind; value = nodes } ≡ y = same-ok (record { name = o.name; kind = o.kind; value = nodes }) y is in
    let valid : IsExpression (visible_kind job a n) o.kind nodes = nodes-valid (visible_kind job a n) _ o.value (inputs ++ take n all) o.kind nodes (known n) read in
    output-first job a n o nodes y ys outputs this all_of valid (outputs-valid job a path inputs all known (n + 1) raws ys later)

filter-valid : (see : ℕ → Option Kind) (path : List ℕ) (seen : List Named) (text : Option (List ℕ)) (filter : Option (List Node)) → Knows see seen →
    filter_at path seen text ≡ Ok filter → MatchOption filter (Unit {0}) (IsExpression see kinds.Num)
unfolding filter_at
filter-valid see path seen None filter known e = let none : None ≡ filter = same-ok None filter e in rw (← none) tt
filter-valid see path seen (Some text) filter known e =
    let (nodes, read, is) = bound (nodes_at _ text seen kinds.Num) (λ nodes. Ok (Some nodes)) filter e in
    let some : Some nodes ≡ filter = same-ok (Some nodes) filter is in
    rw (← some) (nodes-valid see _ text seen kinds.Num nodes known read)

-- what an expression may name has the kind that it is told to have

visible : (job : Job) (a : Algorithm) (above h : ℕ) → (list_any (nat_eq h) a.inputs || (nat_le a.first_output h && nat_lt h (a.first_output + above))) ≡ true →
    visible_kind job a above h ≡ kind_of job h
visible job a above h e = rw e refl

input-known : (job : Job) (a : Algorithm) (above : ℕ) (inputs all : List Named) → a.inputs ≡ map (λ (n : Named). n.handle) all →
    ((n : Named) → list_any (nat_eq n.handle) (map (λ (n : Named). n.handle) inputs) ≡ true → list_any (nat_eq n.handle) (map (λ (n : Named). n.handle) all) ≡ true) →
    AllByRecursion (λ (n : Named). kind_of job n.handle ≡ Some n.kind) inputs → Knows (visible_kind job a above) inputs
input-known job a above [] all e within h = tt
input-known job a above (n ∷ inputs) all e within (h, hs) =
    let here : list_any (nat_eq n.handle) a.inputs ≡ true =
    ap (list_any (nat_eq n.handle)) e
    ∙ within n (or_left (nat_eq n.handle n.handle) (list_any (nat_eq n.handle) (map (λ (n : Named). n.handle) inputs)) (eq-eqb n.handle n.handle refl)) in (
      visible job a above n.handle (or_left (list_any (nat_eq n.handle) a.inputs) (nat_le a.first_output n.handle && nat_lt n.handle (a.first_output + above)) here) ∙ h,
      input-known job a above inputs all e
          (λ m found. within m (or_right (nat_eq m.handle n.handle) (list_any (nat_eq m.handle) (map (λ (n : Named). n.handle) inputs)) found)) hs,
    )

between : (first above i : ℕ) → i < above → (nat_le first (first + i) && nat_lt (first + i) (first + above)) ≡ true
between first above i h =
    let low : nat_le first (first + i) ≡ true = grind (arith, nat_tests) in
    let high : nat_lt (first + i) (first + above) ≡ true = grind (arith, nat_tests) in
    rw (low, high) refl

-- the first of the outputs
told-known : (see : ℕ → Option Kind) (count first : ℕ) (os : List RawOutput) →
    ((i : ℕ) (o : RawOutput) → i < count → slice_get os i ≡ Some o → see (first + i) ≡ Some o.kind) →
    Knows see (take count (map (λ (it : ℕ × RawOutput). record { name = it.1.name; handle = it.0; kind = it.1.kind }) (enumerate_from first os)))
told-known see zero first os h = tt
told-known see (suc count) first [] h = tt
told-known see (suc count) first (o ∷ os) h = (
  ap see (omega arith) ∙ h 0 o (omega arith) refl,
  told-known see count (first + 1) os (λ i q lt e. ap see (omega arith) ∙ h (suc i) q (omega arith) e),
)

-- kinds of handles are those that the scope tells

kind-at : (raws : List Raw) (all : List Algorithm) (n : ℕ) (b : Algorithm) (i : ℕ) → AreNumberedFrom (length raws) all → slice_get all n ≡ Some b →
    i < length b.outputs → slice_get (map (λ (r : Raw). r.kind) raws ++ flat_map output_kinds all) (b.first_output + i) ≡ slice_get (output_kinds b) i
kind-at raws all n b i numbered e h =
    at-output output_kinds (λ a. length-map a.outputs (λ (o : Output). o.kind)) (map (λ (r : Raw). r.kind) raws) all n b i
    (subst (λ (k : ℕ). AreNumberedFrom k all) (sym (length-map raws (λ (r : Raw). r.kind))) numbered) e h

output-kind : (job : Job) (s : Scope) (first n : ℕ) (raw : RawAlgorithm) (a : Algorithm) → AreNumberedFrom (length job.raws) job.algorithms →
    slice_get job.algorithms n ≡ Some a → IsBuilt s first raw a → (i : ℕ) (o : RawOutput) → i < length a.outputs → slice_get raw.outputs i ≡ Some o →
    kind_of job (a.first_output + i) ≡ Some o.kind
output-kind job s first n raw a numbered there built i o inside e =
    kind-at job.raws job.algorithms n a i numbered there inside ∙ ap (λ ks. slice_get ks i) built.kinds
    ∙ slice_get-map (λ (o : RawOutput). o.kind) raw.outputs i ∙ ap (option_map (λ (o : RawOutput). o.kind)) e

inside-get : {X : Type 0} (xs : List X) (i : ℕ) (x : X) → slice_get xs i ≡ Some x → i < length xs
inside-get [] i x e = cc
inside-get (y ∷ xs) zero x e = omega arith
inside-get (y ∷ xs) (suc i) x e = let later = inside-get xs i x e in omega (arith, later)

told-length : (first : ℕ) (os : List RawOutput) →
    length {A = Named} (map (λ (it : ℕ × RawOutput). record { name = it.1.name; handle = it.0; kind = it.1.kind }) (enumerate_from first os)) ≡ length os
told-length first [] = refl
told-length first (o ∷ os) = ap suc (told-length (first + 1) os)

outputs-whole : (first : ℕ) (raw : RawAlgorithm) (count : ℕ) → length raw.outputs ≤ count → take count (outputs_of first raw) ≡ outputs_of first raw
outputs-whole first raw count h = let size = told-length first raw.outputs in take_all count (outputs_of first raw) (omega (arith, h, size))

-- an algorithm's expressions
pub expressions-built : (job : Job) (s : Scope) (first n : ℕ) (raw : RawAlgorithm) (a : Algorithm) → AreNumberedFrom (length job.raws) job.algorithms →
    s.kinds ≡ kinds_of job → slice_get job.algorithms n ≡ Some a → IsBuilt s first raw a → HasExpressions job a
expressions-built job s first n raw a numbered kinds there built =
    let many = as-many-outputs s first raw a built in
    let named : AllByRecursion (λ (n : Named). kind_of job n.handle ≡ Some n.kind) (inputs_of s raw) =
    all-given (λ (n : Named). kind_of job n.handle ≡ Some n.kind) (handle_named s) raw.inputs
    (λ name n e. ap (λ ks. slice_get ks n.handle) (sym kinds) ∙ (handle-named s name n e).kind) in
    let ins : (above : ℕ) → Knows (visible_kind job a above) (inputs_of s raw) =
    λ above. input-known job a above (inputs_of s raw) (inputs_of s raw) built.inputs (λ n found. found) named in
    let outs : (above : ℕ) → Knows (visible_kind job a above) (take above (outputs_of first raw)) =
    λ above. told-known (visible_kind job a above) above first raw.outputs
    (λ i o lt e.
    let inside = inside-get raw.outputs i o e in
    subst (λ (k : ℕ). visible_kind job a above (k + i) ≡ Some o.kind) built.first_output
    (visible job a above (a.first_output + i)
    (or_right (list_any (nat_eq (a.first_output + i)) a.inputs)
    (nat_le a.first_output (a.first_output + i) && nat_lt (a.first_output + i) (a.first_output + above)) (between a.first_output above i lt))
    ∙ output-kind job s first n raw a numbered there built i o (omega (arith, inside, many)) e)) in
    let all : (above : ℕ) → Knows (visible_kind job a above) (inputs_of s raw ++ take above (outputs_of first raw)) =
    λ above. all-append (λ (n : Named). visible_kind job a above n.handle ≡ Some n.kind) (inputs_of s raw) (take above (outputs_of first raw)) (ins above) (outs above) in
    let whole : take (length a.outputs) (outputs_of first raw) ≡ outputs_of first raw = outputs-whole first raw (length a.outputs) (omega (arith, many)) in (
      outputs-valid job a built.path (inputs_of s raw) (outputs_of first raw) all 0 raw.outputs a.outputs built.outputs,
      filter-valid (visible_kind job a (length a.outputs)) built.path (inputs_of s raw ++ outputs_of first raw) raw.filter a.filter
          (subst (λ (them : List Named). Knows (visible_kind job a (length a.outputs)) (inputs_of s raw ++ them)) whole (all (length a.outputs))) built.filter,
    )
