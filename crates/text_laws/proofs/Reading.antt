-- An expression as it was read: the tree of what is written has the kind that is said, and a node for each part.
use Rattle.std.proofs.Common.{◌≡◌, ℕ, ◌+◌, ◌≤◌, nat_lt, Bool, true, false, cond, if◌then◌else◌, List, length, [], ◌∷◌, ◌++◌, Option, Ok, Err, Some, None, ◌⊎◌, inl, inr, refl, sym, ap, ◌∙◌, arith}
use Rattle.std.proofs.lemmas.Bool.Decides.{nat_tests}
use Rattle.std.specs.List.{AllByRecursion}
use Rattle.std.specs.Option.{option_and_then}
use Rattle.text_model.specs.ExprText.{expr_of, function_of, handle_of, if_few, if_known, if_short, if_wanted, of_some_kind, piece, tree_over, tree_written, trees_written}
use Rattle.text_model.specs.Grammar.{written_of}
use Rattle.text_model.specs.Tokens.{tokens_of}
use Rattle.text_model.specs.declared.limits.TheConstants.{MOST_NESTING}
use Rattle.hive_model.specs.declared.limits.TheConstants.{MOST_NODES}
use Rattle.hive_model.specs.Same.{same_kind, same_text}
use Rattle.text_model.specs.Steps.{◌>>=◌, or_refuse}
use Rattle.hive_model.specs.Tree.{Tree, Literal, Held, Minus, Operation, Unary, Dual, nodes_of, size as tree_size}
use Rattle.hive_model.specs.Kinds.{IsExpression, if_num, one_kind, two_kind, tree_kind}
use Rattle.text_model.specs.Written.{Written, Operands, Over, Bare, And, place_of, size, size_all}
use Rattle.text_model.specs.declared.expr_refusal.ExprRefusal.TheVariants as refusals
use Rattle.text_model.specs.declared.named.Named.{Named}
use Rattle.hive_model.specs.declared.product.Kind.{Kind}
use Rattle.hive_model.specs.declared.product.Kind.TheVariants as kinds
use Rattle.text_model.specs.declared.token.Form.{Form}
use Rattle.text_model.specs.declared.token.Form.TheVariants as forms
use Rattle.text_laws.specs.Known.{Knows}
use Rattle.text_laws.proofs.Steps.{bound, same-ok, unrefused}

-- the nodes of trees in a row
abbrev pub sizes : List (Tree × Kind) → ℕ
sizes [] = 0
sizes (x ∷ xs) = tree_size x.0 + sizes xs

abbrev HaveKinds : (ℕ → Option Kind) → List (Tree × Kind) → Type 0
HaveKinds see xs = AllByRecursion (λ (x : Tree × Kind). tree_kind see x.0 ≡ Some x.1) xs

find_step : (b : Bool) (x n : Named) (rest : Option Named) → cond b (Some x) rest ≡ Some n → (x ≡ n) ⊎ (rest ≡ Some n)
find_step true x n rest h = inl cc
find_step false x n rest h = inr h

handle_of-kind : (see : ℕ → Option Kind) (names : List Named) (name : List ℕ) (n : Named) → Knows see names →
    handle_of names name ≡ Some n → see n.handle ≡ Some n.kind
unfolding handle_of
handle_of-kind see [] name n all h = absurd cc
handle_of-kind see (x ∷ names) name n all h =
    let rest = handle_of-kind see names name n all.1 in
    elim (find_step (same_text x.name name) x n (handle_of names name) h) as (λ _. see n.handle ≡ Some n.kind) [ inl e ↦ rw (← e) all.0 | inr k ↦ rest k ]

haves-push : (see : ℕ → Option Kind) (xs : List (Tree × Kind)) (y : Tree × Kind) → HaveKinds see xs →
    tree_kind see y.0 ≡ Some y.1 → HaveKinds see (xs ++ y ∷ [])
haves-push see [] y all h = (h, tt)
haves-push see (x ∷ xs) y all h = (all.0, haves-push see xs y all.1 h)

sizes-push : (xs : List (Tree × Kind)) (y : Tree × Kind) → sizes (xs ++ y ∷ []) ≡ sizes xs + tree_size y.0
sizes-push [] y = omega arith
sizes-push (x ∷ xs) y = omega (arith, sizes-push xs y)

-- what a tree that was read has
pub record IsRead (see : ℕ → Option Kind) (n : ℕ) (y : Tree × Kind) : Type 0 where
  pub kind_is : tree_kind see y.0 ≡ Some y.1
  pub size_is : tree_size y.0 ≡ n

kind_read : (see : ℕ → Option Kind) (n at : ℕ) (t : Tree) (o : Option Kind) (y : Tree × Kind) → tree_kind see t ≡ o →
    tree_size t ≡ n → of_some_kind at t o ≡ Ok y → IsRead see n y
kind_read see n at t (Some k) y h s e =
    let same : ◌≡◌ {A = Tree × Kind} (t, k) y = cc in
    rw (← same) (record { kind_is = h; size_is = s })
kind_read see n at t None y h s e = absurd cc

tree_over-read : (see : ℕ → Option Kind) (text : List ℕ) (names : List Named) (at : ℕ) (form : Form) (xs : List (Tree × Kind)) (y : Tree × Kind) →
    Knows see names → HaveKinds see xs → tree_over text names at form xs ≡ Ok y → IsRead see (sizes xs + 1) y
unfolding tree_over tree_kind
tree_over-read see text names at (forms.Number n) [] y known all h = kind_read see 1 at (Literal n) (Some kinds.Num) y refl refl h
tree_over-read see text names at (forms.Number n) (x ∷ xs) y known all h = absurd cc
tree_over-read see text names at (forms.Name len) [] y known all h =
    let found = bound (or_refuse (refusals.UnknownName at) (handle_of names (piece text at len))) _ y h in
    kind_read see 1 at (Held found.0.handle) (Some found.0.kind) y (handle_of-kind see names (piece text at len) found.0 known (unrefused _ _ _ found.1)) refl found.2
tree_over-read see text names at (forms.Name len) (x ∷ xs) y known all h = absurd cc
tree_over-read see text names at forms.Sign [] y known all h = absurd cc
tree_over-read see text names at forms.Sign (x ∷ []) y known all h =
    kind_read see _ at (Minus x.0) (if_num x.1 kinds.Num) y (rw all.0 refl) (omega arith) h
tree_over-read see text names at forms.Sign (x ∷ z ∷ xs) y known all h = absurd cc
tree_over-read see text names at (forms.Operator op) [] y known all h = absurd cc
tree_over-read see text names at (forms.Operator op) (x ∷ []) y known all h = absurd cc
tree_over-read see text names at (forms.Operator op) (x ∷ z ∷ []) y known all h =
    kind_read see _ at (Operation op x.0 z.0) (option_and_then (if_num z.1) (if_num x.1 kinds.Num)) y (rw all.0 (rw all.1.0 refl)) (omega arith) h
tree_over-read see text names at (forms.Operator op) (x ∷ z ∷ v ∷ xs) y known all h = absurd cc
tree_over-read see text names at (forms.Call len) [] y known all h = absurd cc
tree_over-read see text names at (forms.Call len) (x ∷ []) y known all h =
    let found = bound (or_refuse (refusals.UnknownName at) (function_of (piece text at len))) _ y h in
    kind_read see _ at (Unary found.0 x.0) (one_kind found.0 x.1) y (rw all.0 refl) (omega arith) found.2
tree_over-read see text names at (forms.Call len) (x ∷ z ∷ []) y known all h =
    let found = bound (or_refuse (refusals.UnknownName at) (function_of (piece text at len))) _ y h in
    kind_read see _ at (Dual found.0 x.0 z.0) (two_kind found.0 x.1 z.1) y (rw all.0 (rw all.1.0 refl)) (omega arith) found.2
tree_over-read see text names at (forms.Call len) (x ∷ z ∷ v ∷ xs) y known all h = absurd cc

mutual
  unfolding tree_written

  pub tree_written-read : (see : ℕ → Option Kind) (text : List ℕ) (names : List Named) (w : Written) (y : Tree × Kind) → Knows see names → tree_written text names w ≡ Ok y → IsRead see (size w) y
  tree_written-read see text names (Over at form operands) y known h =
      let parts = bound (trees_written text names operands) (tree_over text names at form) y h in
      let read = trees_written-read see text names operands parts.0 known parts.1 in
      rw (← read.1) (tree_over-read see text names at form parts.0 y known read.0 parts.2)

  pub trees_written-read : (see : ℕ → Option Kind) (text : List ℕ) (names : List Named) (operands : Operands) (xs : List (Tree × Kind)) → Knows see names → trees_written text names operands ≡ Ok xs → HaveKinds see xs × (sizes xs ≡ size_all operands)
  trees_written-read see text names Bare xs known h = let none : [] ≡ xs = cc in rw (← none) (tt, refl)
  trees_written-read see text names (And before last) xs known h =
      let front = bound (trees_written text names before) (λ trees. tree_written text names last >>= λ tree. Ok (trees ++ tree ∷ [])) xs h in
      let end = bound (tree_written text names last) (λ tree. Ok (front.0 ++ tree ∷ [])) xs front.2 in
      let all : front.0 ++ end.0 ∷ [] ≡ xs = cc in
      let read = trees_written-read see text names before front.0 known front.1 in
      let final = tree_written-read see text names last end.0 known end.1 in
      rw (← all) (haves-push see front.0 end.0 read.0 final.kind_is, sizes-push front.0 end.0 ∙ omega (arith, read.1, final.size_is))

is_kind-same : (k l : Kind) → same_kind k l ≡ true → k ≡ l
is_kind-same kinds.Num kinds.Num h = refl
is_kind-same kinds.Num kinds.List h = absurd cc
is_kind-same kinds.List kinds.Num h = absurd cc
is_kind-same kinds.List kinds.List h = refl

-- the nodes are an expression of the wanted kind
pub read-valid : (see : ℕ → Option Kind) (text : List ℕ) (names : List Named) (wanted : Kind) (w : Written) (t : Tree) (k : Kind) →
    Knows see names → size w ≤ 256 → tree_written text names w ≡ Ok (t, k) → same_kind wanted k ≡ true →
    IsExpression see wanted (nodes_of t)
read-valid see text names wanted w t k known few h e =
    let read = tree_written-read see text names w (t, k) known h in
    (t, refl, read.kind_is ∙ ap Some (sym (is_kind-same wanted k e)), omega (arith, read.size_is))

-- the phases of a text that was read

few-parts : (w : Written) → nat_lt MOST_NODES (size w) ≡ false → size w ≤ MOST_NODES
few-parts w test = grind (arith, nat_tests)

counted : (w v : Written) → if_few w ≡ Ok v → (w ≡ v) × (size w ≤ MOST_NODES)
counted w v e = by (nat_lt MOST_NODES (size w)) refl e
  where
    by : (t : Bool) → nat_lt MOST_NODES (size w) ≡ t → (if t then Err refusals.TooMany else Ok w) ≡ Ok v → (w ≡ v) × (size w ≤ MOST_NODES)
    by true test h = absurd cc
    by false test h = (same-ok w v h, few-parts w test)

wanted-kind : (wanted : Kind) (at : ℕ) (it : Tree × Kind) (t : Tree) → if_wanted wanted at it ≡ Ok t → (same_kind wanted it.1 ≡ true) × (it.0 ≡ t)
wanted-kind wanted at it t e = by (same_kind wanted it.1) refl e
  where
    by : (b : Bool) → same_kind wanted it.1 ≡ b → (if b then Ok it.0 else Err (refusals.Kind at)) ≡ Ok t → (same_kind wanted it.1 ≡ true) × (it.0 ≡ t)
    by true test h = (test, same-ok it.0 t h)
    by false test h = absurd cc

pub expression-valid : (see : ℕ → Option Kind) (text : List ℕ) (names : List Named) (wanted : Kind) (t : Tree) →
    Knows see names → expr_of text names wanted ≡ Ok t → IsExpression see wanted (nodes_of t)
unfolding expr_of
expression-valid see text names wanted t known e =
    let (short, one, behind_length) = bound (if_short text) _ t e in
    let (tokens, two, behind_tokens) = bound (tokens_of short) _ t behind_length in
    let (read, three, behind_grammar) = bound (written_of (length text) MOST_NESTING tokens) _ t behind_tokens in
    let (named, four, behind_names) = bound (if_known text names tokens read) _ t behind_grammar in
    let (few, five, behind_count) = bound (if_few named) _ t behind_names in
    let (tree, six, last) = bound (tree_written text names few) _ t behind_count in
    let (same, small) = counted named few five in
    let (kind, is) = wanted-kind wanted (place_of few) tree t last in
    rw (← is) (read-valid see text names wanted few tree.0 tree.1 known (rw (← same) small) six kind)
