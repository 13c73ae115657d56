-- The phases of a text: what the first ones give decides the whole.
use Rattle.std.proofs.Common.{◌≡◌, ℕ, ◌<◌, ◌≤◌, true, false, nat_lt, List, [], ◌∷◌, ◌++◌, length, Result, Ok, Err, Some, None, refl, sym, ap, ◌∙◌, arith}
use Rattle.std.proofs.lemmas.Bool.Decides.{nat_tests}
use Rattle.std.proofs.lemmas.List.{length-append}
use Rattle.text_model.specs.ExprText.{expr_of, if_known, if_wanted, tree_of_kind, tree_written, unknown_name}
use Rattle.hive_model.specs.Same.{same_kind}
use Rattle.text_model.specs.Grammar.{written_of}
use Rattle.text_model.specs.Steps.{◌>>=◌}
use Rattle.text_model.specs.Tokens.{tokens_of}
use Rattle.hive_model.specs.Tree.{Tree, nodes_of}
use Rattle.text_model.specs.Written.{Written, Operands, Over, Bare, And, place_of, size, size_all}
use Rattle.hive_model.specs.declared.expr.Node.{Node}
use Rattle.text_model.specs.declared.expr_refusal.ExprRefusal.{ExprRefusal}
use Rattle.text_model.specs.declared.expr_refusal.ExprRefusal.TheVariants as refusals
use Rattle.text_model.specs.declared.named.Named.{Named}
use Rattle.hive_model.specs.declared.product.Kind.{Kind}
use Rattle.text_model.specs.declared.token.Token.{Token}
use Rattle.expr_text.proofs.Building.Assembling.{bind_ok, run-written, slot}
use Rattle.expr_text.specs.Assembly.{run}
use Rattle.expr_text.specs.Parts.{count, part, postfix, postfix_all}
use Rattle.expr_text.specs.declared.assembly.Slot.{Slot}
use Rattle.expr_text.specs.declared.grammar.Part.{Part}

mutual
  -- each part is a node
  pub length-postfix : (w : Written) → length (postfix w) ≡ size w
  length-postfix (Over at form operands) = omega (arith, length-append {A = Part}, length-postfix_all operands)

  pub length-postfix_all : (operands : Operands) → length (postfix_all operands) ≡ size_all operands
  length-postfix_all Bare = refl
  length-postfix_all (And before last) = omega (arith, length-append {A = Part}, length-postfix_all before, length-postfix last)

-- the whole stands last
pub postfix-last : (w : Written) → (front : List Part) × (p : Part) × (postfix w ≡ front ++ p ∷ []) × (p.at ≡ place_of w)
postfix-last (Over at form operands) = (postfix_all operands, part at form (count operands), refl, refl)

-- the phases behind the length

abbrev pub behind_grammar : List ℕ → List Named → Kind → List Token → Written → Result Tree ExprRefusal
behind_grammar text names wanted tokens w = if_known text names tokens w >>= tree_of_kind text names wanted

abbrev pub behind_tokens : List ℕ → List Named → Kind → List Token → Result Tree ExprRefusal
behind_tokens text names wanted tokens = written_of (length text) 64 tokens >>= behind_grammar text names wanted tokens

pub expr_of-long : (text : List ℕ) (names : List Named) (wanted : Kind) → 1024 < length text →
    expr_of text names wanted ≡ Err refusals.TooLong
unfolding expr_of
expr_of-long text names wanted h =
    let long : nat_lt 1024 (length text) ≡ true = grind (arith, nat_tests) in
    rw long refl

pub expr_of-short : (text : List ℕ) (names : List Named) (wanted : Kind) → length text ≤ 1024 →
    expr_of text names wanted ≡ (tokens_of text >>= behind_tokens text names wanted)
unfolding expr_of
expr_of-short text names wanted h =
    let short : nat_lt 1024 (length text) ≡ false = grind (arith, nat_tests) in
    rw short refl

pub expr_of-token : (text : List ℕ) (names : List Named) (wanted : Kind) (e : ExprRefusal) → length text ≤ 1024 →
    tokens_of text ≡ Err e → expr_of text names wanted ≡ Err e
expr_of-token text names wanted e h k = expr_of-short text names wanted h ∙ rw k refl

pub expr_of-grammar : (text : List ℕ) (names : List Named) (wanted : Kind) (tokens : List Token) (e : ExprRefusal) →
    length text ≤ 1024 → tokens_of text ≡ Ok tokens → written_of (length text) 64 tokens ≡ Err e →
    expr_of text names wanted ≡ Err e
expr_of-grammar text names wanted tokens e h k g = expr_of-short text names wanted h ∙ rw k (rw g refl)

pub expr_of-unknown : (text : List ℕ) (names : List Named) (wanted : Kind) (tokens : List Token) (w : Written) (at : ℕ) →
    length text ≤ 1024 → tokens_of text ≡ Ok tokens → written_of (length text) 64 tokens ≡ Ok w →
    unknown_name text names tokens ≡ Some at → expr_of text names wanted ≡ Err (refusals.UnknownName at)
expr_of-unknown text names wanted tokens w at h k g n = expr_of-short text names wanted h ∙ rw k (rw g (rw n refl))

pub expr_of-known : (text : List ℕ) (names : List Named) (wanted : Kind) (tokens : List Token) (w : Written) →
    length text ≤ 1024 → tokens_of text ≡ Ok tokens → written_of (length text) 64 tokens ≡ Ok w →
    unknown_name text names tokens ≡ None → expr_of text names wanted ≡ tree_of_kind text names wanted w
expr_of-known text names wanted tokens w h k g n = expr_of-short text names wanted h ∙ rw k (rw g (rw n refl))

pub tree_of_kind-many : (text : List ℕ) (names : List Named) (wanted : Kind) (w : Written) → 256 < size w →
    tree_of_kind text names wanted w ≡ Err refusals.TooMany
tree_of_kind-many text names wanted w h =
    let many : nat_lt 256 (size w) ≡ true = grind (arith, nat_tests) in
    rw many refl

pub tree_of_kind-few : (text : List ℕ) (names : List Named) (wanted : Kind) (w : Written) → size w ≤ 256 →
    tree_of_kind text names wanted w ≡ (tree_written text names w >>= if_wanted wanted (place_of w))
tree_of_kind-few text names wanted w h =
    let few : nat_lt 256 (size w) ≡ false = grind (arith, nat_tests) in
    rw few refl

-- the nodes and the tree

bind_err : {A B : Type 0} (r : Result A ExprRefusal) (f : A → B) (e : ExprRefusal) → (r >>= λ x. Ok (f x)) ≡ Err e → r ≡ Err e
bind_err (Ok x) f e h = absurd cc
bind_err (Err d) f e h = let same : d ≡ e = cc in ap Err same

pub tree-refused : (text : List ℕ) (names : List Named) (w : Written) (e : ExprRefusal) →
    run text names (postfix w) [] [] ≡ Err e → tree_written text names w ≡ Err e
tree-refused text names w e h = bind_err (tree_written text names w) _ e (sym (run-written text names w) ∙ h)

pub record IsTreeOf (text : List ℕ) (names : List Named) (w : Written) (nodes : List Node) (slots : List Slot) : Type 0 where
  pub tree : Tree
  pub kind : Kind
  pub written : tree_written text names w ≡ Ok (tree, kind)
  pub nodes_are : nodes ≡ nodes_of tree
  pub slots_are : slots ≡ slot 0 (tree, kind) ∷ []

ok_both : {A B : Type 0} (a x : A) (b y : B) → ◌≡◌ {A = Result (A × B) ExprRefusal} (Ok (a, b)) (Ok (x, y)) → (x ≡ a) × (y ≡ b)
ok_both {A} {B} a x b y h = let same : ◌≡◌ {A = A × B} (a, b) (x, y) = cc in (sym (ap (λ p. p.0) same), sym (ap (λ p. p.1) same))

pub tree-read : (text : List ℕ) (names : List Named) (w : Written) (nodes : List Node) (slots : List Slot) →
    run text names (postfix w) [] [] ≡ Ok (nodes, slots) → IsTreeOf text names w nodes slots
tree-read text names w nodes slots h =
    let found = bind_ok (tree_written text names w) (λ x. Ok (nodes_of x.0, slot 0 x ∷ [])) (nodes, slots) (sym (run-written text names w) ∙ h) in
    let parts = ok_both (nodes_of found.0.0) nodes (slot 0 found.0 ∷ []) slots found.2 in
    record { tree = found.0.0; kind = found.0.1; written = found.1; nodes_are = parts.0; slots_are = parts.1 }

-- the kind of the waiting operand decides
pub tree_of_kind-wanted : (text : List ℕ) (names : List Named) (wanted : Kind) (w : Written) (t : Tree) (k : Kind) →
    size w ≤ 256 → tree_written text names w ≡ Ok (t, k) → same_kind wanted k ≡ true → tree_of_kind text names wanted w ≡ Ok t
tree_of_kind-wanted text names wanted w t k h r e = tree_of_kind-few text names wanted w h ∙ rw r (rw e refl)

pub tree_of_kind-unwanted : (text : List ℕ) (names : List Named) (wanted : Kind) (w : Written) (t : Tree) (k : Kind) →
    size w ≤ 256 → tree_written text names w ≡ Ok (t, k) → same_kind wanted k ≡ false →
    tree_of_kind text names wanted w ≡ Err (refusals.Kind (place_of w))
tree_of_kind-unwanted text names wanted w t k h r e = tree_of_kind-few text names wanted w h ∙ rw r (rw e refl)

pub tree_of_kind-refused : (text : List ℕ) (names : List Named) (wanted : Kind) (w : Written) (e : ExprRefusal) → size w ≤ 256 →
    tree_written text names w ≡ Err e → tree_of_kind text names wanted w ≡ Err e
tree_of_kind-refused text names wanted w e h r = tree_of_kind-few text names wanted w h ∙ rw r refl
