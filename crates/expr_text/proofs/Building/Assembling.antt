-- The parts of what is written become the nodes of its tree.
use Rattle.std.proofs.Common.{◌≡◌, ℕ, ◌+◌, ◌-◌, List, [], ◌∷◌, ◌++◌, length, Option, Result, Ok, Err, Some, None, refl, sym, ap, ◌∙◌, arith}
use Rattle.std.specs.Option.{option_map}
use Rattle.std.proofs.Math.Dec.{eqb-suc-zero}
use Rattle.std.proofs.Math.Seq.{take-append_seam}
use Rattle.std.proofs.lemmas.List.{append_assoc, append-nil, drop_at, length-append}
use Rattle.text_model.specs.ExprText.{function_of, handle_of, number_and_kind, of_some_kind, piece, tree_over, tree_written, trees_written}
use Rattle.text_model.specs.Steps.{◌>>=◌, or_refuse}
use Rattle.hive_model.specs.Tree.{Tree, Held, Minus, Operation, Unary, Dual, root, nodes_from, nodes_of, size as tree_size}
use Rattle.hive_model.specs.Kinds.{if_num, one_kind, two_kind}
use Rattle.text_model.specs.Written.{Written, Operands, Over, Bare, And}
use Rattle.hive_model.specs.declared.expr.Function.{Function}
use Rattle.hive_model.specs.declared.expr.Node.{Node}
use Rattle.hive_model.specs.declared.expr.Node.TheVariants as node
use Rattle.text_model.specs.declared.expr_refusal.ExprRefusal.{ExprRefusal}
use Rattle.text_model.specs.declared.named.Named.{Named}
use Rattle.hive_model.specs.declared.product.Kind.{Kind}
use Rattle.hive_model.specs.declared.product.Kind.TheVariants as kinds
use Rattle.text_model.specs.declared.token.Form.{Form}
use Rattle.text_model.specs.declared.token.Form.TheVariants as forms
use Rattle.event_laws.proofs.Trees.{length-nodes_from}
use Rattle.text_laws.proofs.Reading.{sizes}
use Rattle.expr_text.specs.Assembly.{call_over, node_over, of_kind, run}
use Rattle.expr_text.specs.Parts.{count, part, postfix, postfix_all}
use Rattle.expr_text.specs.declared.assembly.Slot.{Slot}
use Rattle.expr_text.specs.declared.grammar.Part.{Part}

-- steps

pub bind_ok : {A B : Type 0} (r : Result A ExprRefusal) (f : A → Result B ExprRefusal) (y : B) → (r >>= f) ≡ Ok y →
    (x : A) × (r ≡ Ok x) × (f x ≡ Ok y)
bind_ok (Ok x) f y h = (x, refl, h)
bind_ok (Err e) f y h = absurd cc

pub bind_both : {A B C : Type 0} (r : Result A ExprRefusal) (f : A → Result C ExprRefusal) (g : A → Result B ExprRefusal) (k : B → Result C ExprRefusal) →
    ((x : A) → r ≡ Ok x → f x ≡ (g x >>= k)) → (r >>= f) ≡ ((r >>= g) >>= k)
bind_both (Ok x) f g k h = h x refl
bind_both (Err e) f g k h = refl

pub bind_same : {A C : Type 0} (r : Result A ExprRefusal) (f g : A → Result C ExprRefusal) → ((x : A) → f x ≡ g x) →
    (r >>= f) ≡ (r >>= g)
bind_same (Ok x) f g h = h x
bind_same (Err e) f g h = refl

-- nodes of trees in a row

abbrev pub nodes_all : ℕ → List (Tree × Kind) → List Node
nodes_all from [] = []
nodes_all from (x ∷ xs) = nodes_from from x.0 ++ nodes_all (from + tree_size x.0) xs

abbrev pub slot : ℕ → Tree × Kind → Slot
slot from x = record { kind = x.1; place = root from x.0 }

abbrev pub slots_all : ℕ → List (Tree × Kind) → List Slot
slots_all from [] = []
slots_all from (x ∷ xs) = slot from x ∷ slots_all (from + tree_size x.0) xs

pub length-nodes_all : (from : ℕ) (xs : List (Tree × Kind)) → length (nodes_all from xs) ≡ sizes xs
length-nodes_all from [] = refl
length-nodes_all from (x ∷ xs) =
    omega (arith, length-append {A = Node}, length-nodes_from from x.0, length-nodes_all (from + tree_size x.0) xs)

pub nodes_all-push : (from : ℕ) (xs : List (Tree × Kind)) (y : Tree × Kind) →
    nodes_all from (xs ++ y ∷ []) ≡ nodes_all from xs ++ nodes_from (from + sizes xs) y.0
nodes_all-push from [] y = append-nil (nodes_from from y.0) ∙ ap (λ n. nodes_from n y.0) (omega arith)
nodes_all-push from (x ∷ xs) y =
    let e : from + tree_size x.0 + sizes xs ≡ from + (tree_size x.0 + sizes xs) = omega arith in
    ap (λ ns. nodes_from from x.0 ++ ns) (nodes_all-push (from + tree_size x.0) xs y ∙ ap (λ n. nodes_all (from + tree_size x.0) xs ++ nodes_from n y.0) e)
    ∙ sym (append_assoc (nodes_from from x.0) (nodes_all (from + tree_size x.0) xs) (nodes_from (from + (tree_size x.0 + sizes xs)) y.0))

pub slots_all-push : (from : ℕ) (xs : List (Tree × Kind)) (y : Tree × Kind) →
    slots_all from (xs ++ y ∷ []) ≡ slots_all from xs ++ slot (from + sizes xs) y ∷ []
slots_all-push from [] y = ap (λ n. slot n y ∷ []) (omega arith)
slots_all-push from (x ∷ xs) y =
    let e : from + tree_size x.0 + sizes xs ≡ from + (tree_size x.0 + sizes xs) = omega arith in
    ap (λ ss. slot from x ∷ ss) (slots_all-push (from + tree_size x.0) xs y ∙ ap (λ n. slots_all (from + tree_size x.0) xs ++ slot n y ∷ []) e)

pub length-slots_all : (from : ℕ) (xs : List (Tree × Kind)) → length (slots_all from xs) ≡ length xs
length-slots_all from [] = refl
length-slots_all from (x ∷ xs) = omega (arith, length-slots_all (from + tree_size x.0) xs)

-- one part

-- a node and a tree whose root it is go the same way
same_kind : {R : Type 0} (n p at : ℕ) (front : List Node) (nd : Node) (t : Tree) (o : Option Kind) (next : List Node → Slot → Result R ExprRefusal) →
    front ++ nd ∷ [] ≡ nodes_from n t → p ≡ root n t →
    (of_kind at nd o >>= λ it. next (front ++ it.0 ∷ []) (record { kind = it.1; place = p })) ≡ (of_some_kind at t o >>= λ x. next (nodes_from n x.0) (slot n x))
same_kind n p at front nd t (Some k) next e q = rw (e, q) refl
same_kind n p at front nd t None next e q = refl

same_call : {R : Type 0} (n p at : ℕ) (front : List Node) (e : ExprRefusal) (o : Option Function) (nd : Function → Node) (tr : Function → Tree) (kd : Function → Option Kind) (next : List Node → Slot → Result R ExprRefusal) →
    ((f : Function) → front ++ nd f ∷ [] ≡ nodes_from n (tr f)) → ((f : Function) → p ≡ root n (tr f)) →
    ((or_refuse e o >>= λ f. of_kind at (nd f) (kd f)) >>= λ it. next (front ++ it.0 ∷ []) (record { kind = it.1; place = p })) ≡ ((or_refuse e o >>= λ f. of_some_kind at (tr f) (kd f)) >>= λ x. next (nodes_from n x.0) (slot n x))
same_call n p at front e (Some f) nd tr kd next h q = same_kind n p at front (nd f) (tr f) (kd f) next (h f) (q f)
same_call n p at front e None nd tr kd next h q = refl

abbrev handle_node : ℕ × Kind → Result (Node × Kind) ExprRefusal
handle_node h = Ok (node.Handle h.0, h.1)

abbrev handle_tree : Named → Result (Tree × Kind) ExprRefusal
handle_tree h = Ok (Held h.handle, h.kind)

same_handle : {R : Type 0} (n p : ℕ) (e : ExprRefusal) (o : Option Named) (next : List Node → Slot → Result R ExprRefusal) →
    p ≡ root n (Held 0) →
    ((or_refuse e (option_map number_and_kind o) >>= handle_node) >>= λ it. next (it.0 ∷ []) (record { kind = it.1; place = p })) ≡ ((or_refuse e o >>= handle_tree) >>= λ x. next (nodes_from n x.0) (slot n x))
same_handle n p e (Some h) next q = ap (λ m. next (node.Handle h.handle ∷ []) (record { kind = h.kind; place = m })) q
same_handle n p e None next q = refl

pub node_over-is : {R : Type 0} (text : List ℕ) (names : List Named) (n at : ℕ) (form : Form) (xs : List (Tree × Kind)) (next : List Node → Slot → Result R ExprRefusal) →
    (node_over text names at form (slots_all n xs) >>= λ it. next (nodes_all n xs ++ it.0 ∷ []) (record { kind = it.1; place = n + sizes xs })) ≡ (tree_over text names at form xs >>= λ x. next (nodes_from n x.0) (slot n x))
unfolding node_over call_over tree_over
node_over-is text names n at (forms.Number z) [] next =
    ap (λ m. next (node.Number z ∷ []) (record { kind = kinds.Num; place = m })) (omega arith)
node_over-is text names n at (forms.Number z) (x ∷ xs) next = rw (eqb-suc-zero (length (slots_all (n + tree_size x.0) xs))) refl
node_over-is text names n at (forms.Name len) [] next = same_handle n _ _ (handle_of names (piece text at len)) next (omega arith)
node_over-is text names n at (forms.Name len) (x ∷ xs) next = rw (eqb-suc-zero (length (slots_all (n + tree_size x.0) xs))) refl
node_over-is text names n at forms.Sign [] next = refl
node_over-is text names n at forms.Sign (x ∷ []) next =
    same_kind n _ at _ (node.Negate (root n x.0)) (Minus x.0) (if_num x.1 _) next (simp append-nil) (omega arith)
node_over-is text names n at forms.Sign (x ∷ y ∷ xs) next = refl
node_over-is text names n at (forms.Operator op) [] next = refl
node_over-is text names n at (forms.Operator op) (x ∷ []) next = refl
node_over-is text names n at (forms.Operator op) (x ∷ y ∷ []) next =
    same_kind n _ at _ (node.Binary op (root n x.0) (root (n + tree_size x.0) y.0)) (Operation op x.0 y.0) _ next (simp (append-nil, append_assoc)) (omega arith)
node_over-is text names n at (forms.Operator op) (x ∷ y ∷ z ∷ xs) next = refl
node_over-is text names n at (forms.Call len) [] next = refl
node_over-is text names n at (forms.Call len) (x ∷ []) next =
    same_call n _ at _ _ (function_of (piece text at len)) (λ f. node.Call f (root n x.0) None) (λ f. Unary f x.0) (λ f. one_kind f x.1) next (λ f. simp append-nil) (λ f. omega arith)
node_over-is text names n at (forms.Call len) (x ∷ y ∷ []) next =
    same_call n _ at _ _ (function_of (piece text at len)) (λ f. node.Call f (root n x.0) (Some (root (n + tree_size x.0) y.0))) (λ f. Dual f x.0 y.0) (λ f. two_kind f x.1 y.1) next (λ f. simp (append-nil, append_assoc)) (λ f. omega arith)
node_over-is text names n at (forms.Call len) (x ∷ y ∷ z ∷ xs) next = refl

-- all parts

trees_count : (text : List ℕ) (names : List Named) (operands : Operands) (xs : List (Tree × Kind)) →
    trees_written text names operands ≡ Ok xs → length xs ≡ count operands
unfolding trees_written
trees_count text names Bare xs h = let e : [] ≡ xs = cc in ap length (sym e)
trees_count text names (And before last) xs h =
    let a = bind_ok (trees_written text names before) (λ trees. tree_written text names last >>= λ tree. Ok (trees ++ tree ∷ [])) xs h in
    let b = bind_ok (tree_written text names last) (λ tree. Ok (a.0 ++ tree ∷ [])) xs a.2 in
    let e : a.0 ++ b.0 ∷ [] ≡ xs = cc in
    omega (arith, ap length e, length-append a.0 (b.0 ∷ []), trees_count text names before a.0 a.1)

abbrev Ran : Type 0
Ran = Result (List Node × List Slot) ExprRefusal

-- one part behind its operands
run-part : (text : List ℕ) (names : List Named) (at : ℕ) (form : Form) (n : ℕ) (xs : List (Tree × Kind)) (nodes : List Node) (slots : List Slot) (more : List Part) →
    n ≡ length xs →
    run text names (part at form n ∷ more) (nodes ++ nodes_all (length nodes) xs) (slots ++ slots_all (length nodes) xs) ≡ (tree_over text names at form xs >>= λ x. run text names more (nodes ++ nodes_from (length nodes) x.0) (slots ++ slot (length nodes) x ∷ []))
unfolding run
run-part text names at form n xs nodes slots more e =
    let from = length nodes in
    let cut : length (slots ++ slots_all from xs) - n ≡ length slots = omega (arith, length-append slots (slots_all from xs), length-slots_all from xs) in
    let place : length (nodes ++ nodes_all from xs) ≡ from + sizes xs = omega (arith, length-append nodes (nodes_all from xs), length-nodes_all from xs) in
    rw (cut, drop_at slots (slots_all from xs) (length slots) refl, take-append_seam slots (slots_all from xs), place)
    (bind_same (node_over text names at form (slots_all from xs)) _ _ (λ it. ap (λ ns. run text names more ns (slots ++ record { kind = it.1; place = from + sizes xs } ∷ [])) (append_assoc nodes (nodes_all from xs) (it.0 ∷ [])))
    ∙ node_over-is text names from at form xs (λ ns s. run text names more (nodes ++ ns) (slots ++ s ∷ [])))

-- the operands with one more
run-operand : (text : List ℕ) (names : List Named) (xs : List (Tree × Kind)) (y : Tree × Kind) (nodes : List Node) (slots : List Slot) (more : List Part) →
    run text names more ((nodes ++ nodes_all (length nodes) xs) ++ nodes_from (length (nodes ++ nodes_all (length nodes) xs)) y.0) ((slots ++ slots_all (length nodes) xs) ++ slot (length (nodes ++ nodes_all (length nodes) xs)) y ∷ []) ≡ run text names more (nodes ++ nodes_all (length nodes) (xs ++ y ∷ [])) (slots ++ slots_all (length nodes) (xs ++ y ∷ []))
run-operand text names xs y nodes slots more =
    let from = length nodes in
    let place : length (nodes ++ nodes_all from xs) ≡ from + sizes xs = omega (arith, length-append nodes (nodes_all from xs), length-nodes_all from xs) in
    rw (place, append_assoc nodes (nodes_all from xs) (nodes_from (from + sizes xs) y.0), append_assoc slots (slots_all from xs) (slot (from + sizes xs) y ∷ []), ← nodes_all-push from xs y, ← slots_all-push from xs y) refl

mutual
  unfolding tree_written

  pub run-postfix : (text : List ℕ) (names : List Named) (w : Written) (nodes : List Node) (slots : List Slot) (more : List Part) → run text names (postfix w ++ more) nodes slots ≡ (tree_written text names w >>= λ x. run text names more (nodes ++ nodes_from (length nodes) x.0) (slots ++ slot (length nodes) x ∷ []))
  run-postfix text names (Over at form operands) nodes slots more =
      let grouped = append_assoc (postfix_all operands) (part at form (count operands) ∷ []) more in
      ap (λ ps. run text names ps nodes slots) grouped
      ∙ (run-postfix_all text names operands nodes slots (part at form (count operands) ∷ more)
      ∙ bind_both (trees_written text names operands) _ (tree_over text names at form) _ (λ xs h. run-part text names at form (count operands) xs nodes slots more (sym (trees_count text names operands xs h))))

  pub run-postfix_all : (text : List ℕ) (names : List Named) (operands : Operands) (nodes : List Node) (slots : List Slot) (more : List Part) → run text names (postfix_all operands ++ more) nodes slots ≡ (trees_written text names operands >>= λ xs. run text names more (nodes ++ nodes_all (length nodes) xs) (slots ++ slots_all (length nodes) xs))
  run-postfix_all text names Bare nodes slots more = rw (append-nil nodes, append-nil slots) refl
  run-postfix_all text names (And before last) nodes slots more =
      let from = length nodes in
      ap (λ ps. run text names ps nodes slots) (append_assoc (postfix_all before) (postfix last) more)
      ∙ (run-postfix_all text names before nodes slots (postfix last ++ more)
      ∙ bind_both (trees_written text names before) _ (λ trees. tree_written text names last >>= λ tree. Ok (trees ++ tree ∷ [])) _ (λ xs h.
      run-postfix text names last (nodes ++ nodes_all from xs) (slots ++ slots_all from xs) more
      ∙ bind_both (tree_written text names last) _ (λ tree. Ok (xs ++ tree ∷ [])) _ (λ y k. run-operand text names xs y nodes slots more)))

-- what is written becomes the nodes of its tree, and one waiting operand
pub run-written : (text : List ℕ) (names : List Named) (w : Written) →
    run text names (postfix w) [] [] ≡ (tree_written text names w >>= λ x. Ok (nodes_of x.0, slot 0 x ∷ []))
unfolding run nodes_of
run-written text names w = ap (λ ps. run text names ps [] []) (sym (append-nil (postfix w))) ∙ run-postfix text names w [] [] []
