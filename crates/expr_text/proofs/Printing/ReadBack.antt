-- The printed text of a tree is read as that tree.
use Rattle.std.proofs.Common.{◌≡◌, ℕ, zero, suc, ◌+◌, ◌≤◌, ◌==◌, pos, negsuc, Bool, true, false, cond, List, [], ◌∷◌, ◌++◌, length, map, take, drop, find, Option, Result, Ok, Some, None, refl, sym, ap, ◌∙◌, subst, arith}
use Rattle.std.specs.List.{AllByRecursion, IsDistinct}
use Rattle.std.specs.Option.{option_map_or, option_and_then}
use Rattle.std.proofs.lemmas.List.{append_assoc, append-nil, drop-drop, drop_at, length-append}
use Rattle.std.proofs.Math.Seq.{take-append_seam}
use Rattle.text_model.specs.ExprText.{expr_of, function_of, handle_of, piece, tree_over, tree_written, unknown_name}
use Rattle.hive_model.specs.Same.{same_kind, same_text}
use Rattle.text_model.specs.Grammar.{Reading, arguments, behind, behind_close, expr, factor, is_open, operation}
use Rattle.text_model.specs.Tokens.{tokens_from, tokens_of}
use Rattle.hive_model.specs.Tree.{Tree, Literal, Held, Minus, Operation, Unary, Dual, size as tree_size}
use Rattle.hive_model.specs.Kinds.{if_num, one_kind, two_kind, tree_kind}
use Rattle.text_model.specs.Written.{Written, Operands, Over, Bare, And, size}
use Rattle.hive_model.specs.declared.expr.Binary.{Binary}
use Rattle.hive_model.specs.declared.expr.Binary.TheVariants.{Add, Sub, Mul, Div, Rem, Eq, Ne, Lt, Le, Gt, Ge}
use Rattle.hive_model.specs.declared.expr.Function.{Function}
use Rattle.hive_model.specs.declared.expr.Function.TheVariants as functions
use Rattle.text_model.specs.declared.expr_refusal.ExprRefusal.{ExprRefusal}
use Rattle.text_model.specs.declared.named.Named.{Named}
use Rattle.hive_model.specs.declared.product.Kind.{Kind}
use Rattle.hive_model.specs.declared.product.Kind.TheVariants as kinds
use Rattle.text_model.specs.declared.token.Form.TheVariants as forms
use Rattle.text_model.specs.declared.token.Symbol.TheVariants.{Number, Name, Operator, Open, Close, Comma}
use Rattle.text_model.specs.declared.token.Token.{Token}
use Rattle.expr_text.specs.Printed.{HasLiterals, IsName, IsPrintable, enclosed, enclosed_nesting, function_text, is_compound, kind_named, nesting, operator_text, printed, word_of}
use Rattle.expr_text.proofs.Lexemes.Lexing.{Stops, token, lex-name, lex-number, lex-sign, lex-open, lex-close, lex-comma, lex-operator}
use Rattle.expr_text.proofs.Parsing.Readings.{factor-begun, signed-read, bracketed-read, arguments-begin, further-more, further-end, called-read, named-leaf, named-call, written-end}
use Rattle.expr_text.proofs.Building.Phases.{expr_of-known, tree_of_kind-wanted}
use Rattle.expr_text.proofs.Parsing.Rows.{Ends, ends-open, expr_alone, expr_two}
use Rattle.expr_text.proofs.Lexemes.TokenLists.{with_front}
use Rattle.expr_text.proofs.Printing.NodeLists.{and_then_some, map_some}
use Rattle.std.proofs.lemmas.Bool.Decides.{nat_tests}

abbrev pub NotOpen : List Token → Type 0
NotOpen more = behind is_open more ≡ None

-- the tokens are read as the tree, and those behind it are left
pub record Found (text : List ℕ) (names : List Named) (read : List Token → Reading) (lexed : Result (List Token) ExprRefusal) (more : List Token) (t : Tree) (k : Kind) : Type 0 where
  pub tokens : List Token
  pub written : Written
  pub lexed_is : lexed ≡ Ok tokens
  pub read_is : read tokens ≡ Ok (written, more)
  pub tree_is : tree_written text names written ≡ Ok (t, k)
  pub known : unknown_name text names tokens ≡ unknown_name text names more
  pub sized : size written ≡ tree_size t

abbrev pub ReadsBack : List ℕ → List Named → (List Token → Reading) → (List Token → Type 0) → ℕ → List ℕ → List ℕ → Tree → Kind →
    Type 0
ReadsBack text names read follow at bytes rest t k =
    (more : List Token) → tokens_from (at + length bytes) 0 rest ≡ Ok more → follow more → Found text names read (tokens_from at 0 (bytes ++ rest)) more t k

-- what is asked of a part that stands in a text
pub record Stands (text : List ℕ) (names : List Named) (t : Tree) (at : ℕ) (bytes rest : List ℕ) (k : Kind) : Type 0 where
  pub text_is : drop at text ≡ bytes ++ rest
  pub stops : Stops rest
  pub kind_is : tree_kind (kind_named names) t ≡ Some k
  pub literals : HasLiterals t

pub record IsReadBack (text : List ℕ) (names : List Named) (stop : ℕ) (t : Tree) : Type 0 where
  pub whole : (d at : ℕ) (rest : List ℕ) (k : Kind) → Stands text names t at (printed names t) rest k → nesting t ≤ d → ReadsBack text names (expr (factor stop d)) Ends at (printed names t) rest t k
  pub alone : is_compound t ≡ false → (d at : ℕ) (rest : List ℕ) (k : Kind) → Stands text names t at (printed names t) rest k → nesting t ≤ d → ReadsBack text names (factor stop d) NotOpen at (printed names t) rest t k

-- what the names must be
pub record AreNames (names : List Named) : Type 0 where
  pub are : AllByRecursion (λ (n : Named). IsName n.name) names
  pub differ : IsDistinct same_text (map (λ (n : Named). n.name) names)

-- pieces of the text

after : (text : List ℕ) (at : ℕ) (x y : List ℕ) → drop at text ≡ x ++ y → drop (at + length x) text ≡ y
after text at x y h = sym (drop-drop (length x) at text) ∙ (ap (drop (length x)) h ∙ drop_at x y (length x) refl)

piece-is : (text : List ℕ) (at : ℕ) (x y : List ℕ) → drop at text ≡ x ++ y → piece text at (length x) ≡ x
piece-is text at x y h = ap (take (length x)) h ∙ take-append_seam x y

-- a factor is an expression
whole_of : (text : List ℕ) (names : List Named) (stop d at : ℕ) (bytes rest : List ℕ) (t : Tree) (k : Kind) →
    ReadsBack text names (factor stop d) NotOpen at bytes rest t k →
    ReadsBack text names (expr (factor stop d)) Ends at bytes rest t k
whole_of text names stop d at bytes rest t k f = λ more lexed ends.
    let it = f more lexed (ends-open more ends) in
    record { tokens = it.tokens; written = it.written; lexed_is = it.lexed_is; read_is = expr_alone (factor stop d) it.tokens more it.written it.read_is ends; tree_is = it.tree_is; known = it.known; sized = it.sized }

-- brackets round a part
in_brackets : (text : List ℕ) (names : List Named) (stop d at : ℕ) (bytes rest : List ℕ) (t : Tree) (k : Kind) →
    ReadsBack text names (expr (factor stop d)) Ends (at + 1) bytes (41 ∷ rest) t k →
    ReadsBack text names (factor stop (suc d)) NotOpen at (40 ∷ (bytes ++ 41 ∷ [])) rest t k
unfolding unknown_name
in_brackets text names stop d at bytes rest t k f = λ more lexed follow.
    let close = token (at + 1 + length bytes) Close in
    let place : at + 1 + length bytes + 1 ≡ at + length (40 ∷ (bytes ++ 41 ∷ [])) = omega (arith, length-append bytes (41 ∷ [])) in
    let lexed' : tokens_from (at + 1 + length bytes) 0 (41 ∷ rest) ≡ Ok (close ∷ more) = lex-close (at + 1 + length bytes) rest ∙ ap (with_front (close ∷ [])) (ap (λ n. tokens_from n 0 rest) place ∙ lexed) in
    let it = f (close ∷ more) lexed' tt in
    record {
      tokens = token at Open ∷ it.tokens;
      written = it.written;
      lexed_is = lex-open at ((bytes ++ 41 ∷ []) ++ rest)
          ∙ ap (with_front (token at Open ∷ [])) (ap (tokens_from (at + 1) 0) (append_assoc bytes (41 ∷ []) rest) ∙ it.lexed_is);
      read_is = factor-begun stop (suc d) (token at Open ∷ it.tokens)
          ∙ bracketed-read stop (factor stop d) it.tokens (close ∷ more) more it.written it.read_is refl;
      tree_is = it.tree_is;
      known = it.known;
      sized = it.sized;
    }

-- an operand of an operator or a sign, in brackets where it is compound
operand_by : (text : List ℕ) (names : List Named) (stop : ℕ) (t : Tree) (back : IsReadBack text names stop t) (b : Bool) →
    is_compound t ≡ b → (d at : ℕ) (rest : List ℕ) (k : Kind) → Stands text names t at (enclosed t (printed names t)) rest k →
    enclosed_nesting t (nesting t) ≤ d → ReadsBack text names (factor stop d) NotOpen at (enclosed t (printed names t)) rest t k
operand_by text names stop t back false e d at rest k s n =
    let same : enclosed t (printed names t) ≡ printed names t = rw e refl in
    let nest : enclosed_nesting t (nesting t) ≡ nesting t = rw e refl in
    let stands : Stands text names t at (printed names t) rest k = record { text_is = s.text_is ∙ ap (λ xs. xs ++ rest) same; stops = s.stops; kind_is = s.kind_is; literals = s.literals } in
    subst (λ xs. ReadsBack text names (factor stop d) NotOpen at xs rest t k) (sym same) (back.alone e d at rest k stands (omega arith))
operand_by text names stop t back true e zero at rest k s n =
    let nest : enclosed_nesting t (nesting t) ≡ suc (nesting t) = rw e refl in
    absurd (omega arith)
operand_by text names stop t back true e (suc d) at rest k s n =
    let same : enclosed t (printed names t) ≡ 40 ∷ (printed names t ++ 41 ∷ []) = rw e refl in
    let nest : enclosed_nesting t (nesting t) ≡ suc (nesting t) = rw e refl in
    let here : drop at text ≡ (40 ∷ []) ++ (printed names t ++ (41 ∷ rest)) = s.text_is ∙ (ap (λ xs. xs ++ rest) same ∙ ap (λ xs. 40 ∷ xs) (append_assoc (printed names t) (41 ∷ []) rest)) in
    let stands : Stands text names t (at + 1) (printed names t) (41 ∷ rest) k = record { text_is = after text at (40 ∷ []) (printed names t ++ (41 ∷ rest)) here; stops = refl; kind_is = s.kind_is; literals = s.literals } in
    subst (λ xs. ReadsBack text names (factor stop (suc d)) NotOpen at xs rest t k) (sym same)
    (in_brackets text names stop d at (printed names t) rest t k (back.whole d (at + 1) (41 ∷ rest) k stands (omega arith)))

operand_back : (text : List ℕ) (names : List Named) (stop : ℕ) (t : Tree) → IsReadBack text names stop t →
    (d at : ℕ) (rest : List ℕ) (k : Kind) → Stands text names t at (enclosed t (printed names t)) rest k →
    enclosed_nesting t (nesting t) ≤ d → ReadsBack text names (factor stop d) NotOpen at (enclosed t (printed names t)) rest t k
operand_back text names stop t back = operand_by text names stop t back (is_compound t) refl

abbrev Alone : List ℕ → List Named → ℕ → Tree → Type 0
Alone text names stop t =
    (d at : ℕ) (rest : List ℕ) (k : Kind) → Stands text names t at (printed names t) rest k → nesting t ≤ d → ReadsBack text names (factor stop d) NotOpen at (printed names t) rest t k

from_alone : (text : List ℕ) (names : List Named) (stop : ℕ) (t : Tree) → Alone text names stop t → IsReadBack text names stop t
from_alone text names stop t f = record {
  whole = λ d at rest k s n. whole_of text names stop d at (printed names t) rest t k (f d at rest k s n);
  alone = λ e. f;
}

some_same : {A : Type 0} (x y : A) → Some x ≡ Some y → x ≡ y
some_same x y h = cc

-- literals

literal_back : (text : List ℕ) (names : List Named) (stop n : ℕ) → Alone text names stop (Literal (pos n))
unfolding printed tree_written tree_over tree_kind unknown_name
literal_back text names stop n d at rest k s nest = λ more lexed follow. record {
  tokens = token at (Number (pos n)) ∷ more;
  written = Over at (forms.Number (pos n)) Bare;
  lexed_is = lex-number at n rest s.literals s.stops ∙ ap (with_front (token at (Number (pos n)) ∷ [])) lexed;
  read_is = factor-begun stop d (token at (Number (pos n)) ∷ more);
  tree_is = ap (λ kind. Ok (Literal (pos n), kind)) (some_same kinds.Num k s.kind_is);
  known = refl;
  sized = refl;
}

-- handles

same_text-refl : (xs : List ℕ) → same_text xs xs ≡ true
same_text-refl [] = refl
same_text-refl (x ∷ xs) =
    let first : (x == x) ≡ true = grind (arith, nat_tests) in
    rw first (same_text-refl xs)

pub record IsFound (names : List Named) (h : ℕ) (n : Named) : Type 0 where
  pub handle_is : n.handle ≡ h
  pub named_is : IsName n.name
  pub found_is : handle_of names n.name ≡ Some n

-- what holds of all names holds of the one that is found
found_name : (P : List ℕ → Type 0) (test : Named → Bool) (names : List Named) (n : Named) →
    AllByRecursion P (map (λ (m : Named). m.name) names) → find test names ≡ Some n → P n.name
found_name P test [] n all h = absurd cc
found_name P test (x ∷ names) n all h = found_by (test x) x n (find test names) P all.0 (found_name P test names n all.1) h
  where
    found_by : (b : Bool) (x n : Named) (rest : Option Named) (P : List ℕ → Type 0) → P x.name → (rest ≡ Some n → P n.name) → cond b (Some x) rest ≡ Some n → P n.name
    found_by true x n rest P here later h = let same : x ≡ n = cc in subst (λ m. P m.name) same here
    found_by false x n rest P here later h = later h

found_in : (names : List Named) (h : ℕ) (n : Named) → AllByRecursion (λ (m : Named). IsName m.name) names →
    IsDistinct same_text (map (λ (m : Named). m.name) names) → find (λ (m : Named). m.handle == h) names ≡ Some n →
    IsFound names h n
unfolding handle_of IsDistinct
found_in [] h n are differ e = absurd cc
found_in (x ∷ names) h n are differ e =
    found_by (x.handle == h) refl e (found_in names h n are.1 differ.1) (λ k. found_name (λ y. same_text x.name y ≡ false) (λ (m : Named). m.handle == h) names n differ.0 k)
  where
    found_by : (b : Bool) → (x.handle == h) ≡ b → cond b (Some x) (find (λ (m : Named). m.handle == h) names) ≡ Some n → (find (λ (m : Named). m.handle == h) names ≡ Some n → IsFound names h n) → (find (λ (m : Named). m.handle == h) names ≡ Some n → same_text x.name n.name ≡ false) → IsFound (x ∷ names) h n
    found_by true q e later other =
        let same : x ≡ n = cc in
        let handle : x.handle ≡ h = grind (arith, nat_tests) in
        subst (IsFound (x ∷ names) h) same (record { handle_is = handle; named_is = are.0; found_is = rw (same_text-refl x.name) refl })
    found_by false q e later other =
        let it = later e in
        record { handle_is = it.handle_is; named_is = it.named_is; found_is = rw (other e) it.found_is }

held_back : (text : List ℕ) (names : List Named) (stop h : ℕ) → AreNames names → Alone text names stop (Held h)
unfolding printed word_of tree_written tree_over tree_kind unknown_name
held_back text names stop h all d at rest k s nest = λ more lexed follow.
    let kind = map_some (λ (n : Named). n.kind) (find (λ (n : Named). n.handle == h) names) k s.kind_is in
    let n = kind.0 in
    let it = found_in names h n all.are all.differ kind.1 in
    let word : word_of names h ≡ n.name = ap (λ o. option_map_or (λ (m : Named). m.name) o []) kind.1 in
    let piece_of : piece text at (length n.name) ≡ n.name = piece-is text at n.name rest (s.text_is ∙ ap (λ xs. xs ++ rest) word) in
    let place : tokens_from (at + length n.name) 0 rest ≡ Ok more = ap (λ xs. tokens_from (at + length xs) 0 rest) (sym word) ∙ lexed in
    record {
      tokens = token at (Name (length n.name)) ∷ more;
      written = Over at (forms.Name (length n.name)) Bare;
      lexed_is = ap (λ xs. tokens_from at 0 (xs ++ rest)) word
          ∙ (lex-name at n.name rest it.named_is s.stops ∙ ap (with_front (token at (Name (length n.name)) ∷ [])) place);
      read_is = factor-begun stop d (token at (Name (length n.name)) ∷ more) ∙ named-leaf stop _ at (length n.name) more follow;
      tree_is = rw piece_of (rw it.found_is (rw (it.handle_is, sym kind.2) refl));
      known = rw follow (rw piece_of (rw it.found_is refl));
      sized = refl;
    }

-- signs

minus_back : (text : List ℕ) (names : List Named) (stop : ℕ) (t : Tree) → IsReadBack text names stop t →
    Alone text names stop (Minus t)
unfolding printed nesting tree_written tree_over tree_kind unknown_name
minus_back text names stop t back zero at rest k s nest = absurd (omega arith)
minus_back text names stop t back (suc d) at rest k s nest = λ more lexed follow.
    let e = enclosed t (printed names t) in
    let kind = and_then_some (λ k. if_num k kinds.Num) (tree_kind (kind_named names) t) k s.kind_is in
    let stands : Stands text names t (at + 1) e rest kind.0 = record { text_is = after text at (45 ∷ []) (e ++ rest) s.text_is; stops = s.stops; kind_is = kind.1; literals = s.literals } in
    let place : at + 1 + length e ≡ at + length (45 ∷ e) = omega arith in
    let it = operand_back text names stop t back d (at + 1) rest kind.0 stands (omega arith) more (ap (λ n. tokens_from n 0 rest) place ∙ lexed) follow in
    record {
      tokens = token at (Operator Sub) ∷ it.tokens;
      written = Over at forms.Sign (And Bare it.written);
      lexed_is = lex-sign at (e ++ rest) ∙ ap (with_front (token at (Operator Sub) ∷ [])) it.lexed_is;
      read_is = factor-begun stop (suc d) (token at (Operator Sub) ∷ it.tokens)
          ∙ signed-read (factor stop d) at it.tokens more it.written it.read_is;
      tree_is = rw it.tree_is (rw kind.2 refl);
      known = it.known;
      sized = omega (arith, it.sized);
    }

-- operators and functions

stops-operator : (op : Binary) (more : List ℕ) → Stops (operator_text op ++ more)
stops-operator Add more = refl
stops-operator Sub more = refl
stops-operator Mul more = refl
stops-operator Div more = refl
stops-operator Rem more = refl
stops-operator Eq more = refl
stops-operator Ne more = refl
stops-operator Lt more = refl
stops-operator Le more = refl
stops-operator Gt more = refl
stops-operator Ge more = refl

-- the kinds of two operands
pub record HaveTwoKinds (see : ℕ → Option Kind) (l r : Tree) (both : Kind → Kind → Option Kind) (k : Kind) : Type 0 where
  pub left : Kind
  pub right : Kind
  pub left_is : tree_kind see l ≡ Some left
  pub right_is : tree_kind see r ≡ Some right
  pub both_is : both left right ≡ Some k

two_kinds : (see : ℕ → Option Kind) (l r : Tree) (both : Kind → Kind → Option Kind) (k : Kind) →
    option_and_then (λ m. option_and_then (both m) (tree_kind see r)) (tree_kind see l) ≡ Some k → HaveTwoKinds see l r both k
two_kinds see l r both k h =
    let a = and_then_some (λ m. option_and_then (both m) (tree_kind see r)) (tree_kind see l) k h in
    let b = and_then_some (both a.0) (tree_kind see r) k a.2 in
    record { left = a.0; right = b.0; left_is = a.1; right_is = b.1; both_is = b.2 }

operation_whole : (text : List ℕ) (names : List Named) (stop : ℕ) (op : Binary) (l r : Tree) → IsReadBack text names stop l →
    IsReadBack text names stop r → (d at : ℕ) (rest : List ℕ) (k : Kind) →
    Stands text names (Operation op l r) at (printed names (Operation op l r)) rest k → nesting (Operation op l r) ≤ d →
    ReadsBack text names (expr (factor stop d)) Ends at (printed names (Operation op l r)) rest (Operation op l r) k
unfolding printed nesting tree_written tree_over tree_kind unknown_name
operation_whole text names stop op l r lb rb d at rest k s nest = λ more lexed ends.
    let x = enclosed l (printed names l) in
    let y = enclosed r (printed names r) in
    let o = operator_text op in
    let regroup : (x ++ (o ++ y)) ++ rest ≡ x ++ (o ++ (y ++ rest)) = append_assoc x (o ++ y) rest ∙ ap (λ xs. x ++ xs) (append_assoc o y rest) in
    let kind = two_kinds (kind_named names) l r (λ m n. option_and_then (if_num n) (if_num m kinds.Num)) k s.kind_is in
    let second = at + length x in
    let third = second + length o in
    let text_1 : drop at text ≡ x ++ (o ++ (y ++ rest)) = s.text_is ∙ regroup in
    let text_2 = after text at x (o ++ (y ++ rest)) text_1 in
    let text_3 = after text second o (y ++ rest) text_2 in
    let lens = length-append x (o ++ y) in
    let lens_2 = length-append o y in
    let place : third + length y ≡ at + length (x ++ (o ++ y)) = omega arith in
    let right_stands : Stands text names r third y rest kind.right = record { text_is = text_3; stops = s.stops; kind_is = kind.right_is; literals = s.literals.1 } in
    let right = operand_back text names stop r rb d third rest kind.right right_stands (omega arith) more (ap (λ n. tokens_from n 0 rest) place ∙ lexed) (ends-open more ends) in
    let mark = token (suc second) (Operator op) in
    let left_stands : Stands text names l at x (o ++ (y ++ rest)) kind.left = record { text_is = text_1; stops = stops-operator op (y ++ rest); kind_is = kind.left_is; literals = s.literals.0 } in
    let left_lexed : tokens_from (at + length x) 0 (o ++ (y ++ rest)) ≡ Ok (mark ∷ right.tokens) = lex-operator second op (y ++ rest) ∙ ap (with_front (mark ∷ [])) right.lexed_is in
    let left = operand_back text names stop l lb d at (o ++ (y ++ rest)) kind.left left_stands (omega arith) (mark ∷ right.tokens) left_lexed refl in
    record {
      tokens = left.tokens;
      written = operation (suc second) op left.written right.written;
      lexed_is = ap (tokens_from at 0) regroup ∙ left.lexed_is;
      read_is = expr_two (factor stop d) left.tokens right.tokens more (suc second) op left.written right.written left.read_is right.read_is ends;
      tree_is = rw left.tree_is (rw right.tree_is (rw kind.both_is refl));
      known = left.known ∙ right.known;
      sized = omega (arith, left.sized, right.sized);
    }

operation_back : (text : List ℕ) (names : List Named) (stop : ℕ) (op : Binary) (l r : Tree) → IsReadBack text names stop l →
    IsReadBack text names stop r → IsReadBack text names stop (Operation op l r)
operation_back text names stop op l r lb rb =
    record { whole = operation_whole text names stop op l r lb rb; alone = λ e. absurd cc }

function-name : (f : Function) → IsName (function_text f)
function-name functions.Len = (refl, (refl, (refl, tt)))
function-name functions.Sum = (refl, (refl, (refl, tt)))
function-name functions.Min = (refl, (refl, (refl, tt)))
function-name functions.Max = (refl, (refl, (refl, tt)))
function-name functions.At = (refl, (refl, tt))
function-name functions.Above = (refl, (refl, (refl, (refl, (refl, tt)))))
function-name functions.Scale = (refl, (refl, (refl, (refl, (refl, tt)))))
function-name functions.Shift = (refl, (refl, (refl, (refl, (refl, tt)))))
function-name functions.Cat = (refl, (refl, (refl, tt)))
function-name functions.First = (refl, (refl, (refl, (refl, (refl, tt)))))

function-found : (f : Function) → function_of (function_text f) ≡ Some f
unfolding function_of
function-found functions.Len = refl
function-found functions.Sum = refl
function-found functions.Min = refl
function-found functions.Max = refl
function-found functions.At = refl
function-found functions.Above = refl
function-found functions.Scale = refl
function-found functions.Shift = refl
function-found functions.Cat = refl
function-found functions.First = refl

-- a call with its operands read
pub call-read : (stop d at len second : ℕ) (tokens after_it more : List Token) (all : Operands) →
    arguments (expr (factor stop d)) tokens ≡ Ok (all, after_it) → behind_close stop after_it ≡ Ok more →
    factor stop (suc d) (token at (Name len) ∷ token second Open ∷ tokens) ≡ Ok (Over at (forms.Call len) all, more)
call-read stop d at len second tokens after_it more all h k =
    factor-begun stop (suc d) (token at (Name len) ∷ token second Open ∷ tokens)
    ∙ (named-call stop (Some (factor stop d)) at len (token second Open ∷ tokens) tokens refl
    ∙ called-read stop (factor stop d) at len tokens after_it more all h k)

unary_back : (text : List ℕ) (names : List Named) (stop : ℕ) (f : Function) (t : Tree) → IsReadBack text names stop t →
    Alone text names stop (Unary f t)
unfolding printed nesting tree_written tree_over tree_kind unknown_name
unary_back text names stop f t back zero at rest k s nest = absurd (omega arith)
unary_back text names stop f t back (suc d) at rest k s nest = λ more lexed follow.
    let w = function_text f in
    let x = printed names t in
    let kind = and_then_some (one_kind f) (tree_kind (kind_named names) t) k s.kind_is in
    let regroup : (w ++ (40 ∷ (x ++ 41 ∷ []))) ++ rest ≡ w ++ (40 ∷ (x ++ (41 ∷ rest))) = append_assoc w (40 ∷ (x ++ 41 ∷ [])) rest ∙ ap (λ xs. w ++ (40 ∷ xs)) (append_assoc x (41 ∷ []) rest) in
    let text_1 : drop at text ≡ w ++ (40 ∷ (x ++ (41 ∷ rest))) = s.text_is ∙ regroup in
    let second = at + length w in
    let text_2 : drop second text ≡ (40 ∷ []) ++ (x ++ (41 ∷ rest)) = after text at w (40 ∷ (x ++ (41 ∷ rest))) text_1 in
    let text_3 = after text second (40 ∷ []) (x ++ (41 ∷ rest)) text_2 in
    let close = token (second + 1 + length x) Close in
    let lens = length-append w (40 ∷ (x ++ 41 ∷ [])) in
    let lens_2 = length-append x (41 ∷ []) in
    let place : second + 1 + length x + 1 ≡ at + length (w ++ (40 ∷ (x ++ 41 ∷ []))) = omega arith in
    let lexed' : tokens_from (second + 1 + length x) 0 (41 ∷ rest) ≡ Ok (close ∷ more) = lex-close (second + 1 + length x) rest ∙ ap (with_front (close ∷ [])) (ap (λ n. tokens_from n 0 rest) place ∙ lexed) in
    let stands : Stands text names t (second + 1) x (41 ∷ rest) kind.0 = record { text_is = text_3; stops = refl; kind_is = kind.1; literals = s.literals } in
    let it = back.whole d (second + 1) (41 ∷ rest) kind.0 stands (omega arith) (close ∷ more) lexed' tt in
    let open_lexed : tokens_from second 0 (40 ∷ (x ++ (41 ∷ rest))) ≡ Ok (token second Open ∷ it.tokens) = lex-open second (x ++ (41 ∷ rest)) ∙ ap (with_front (token second Open ∷ [])) it.lexed_is in
    let all_read : arguments (expr (factor stop d)) it.tokens ≡ Ok (And Bare it.written, close ∷ more) =
    arguments-begin (expr (factor stop d)) it.tokens (close ∷ more) it.written it.read_is
    ∙ further-end (expr (factor stop d)) _ (And Bare it.written) (close ∷ more) refl in
    let piece_of : piece text at (length w) ≡ w = piece-is text at w (40 ∷ (x ++ (41 ∷ rest))) text_1 in
    record {
      tokens = token at (Name (length w)) ∷ token second Open ∷ it.tokens;
      written = Over at (forms.Call (length w)) (And Bare it.written);
      lexed_is = ap (tokens_from at 0) regroup
          ∙ (lex-name at w (40 ∷ (x ++ (41 ∷ rest))) (function-name f) refl ∙ ap (with_front (token at (Name (length w)) ∷ [])) open_lexed);
      read_is = call-read stop d at (length w) second it.tokens (close ∷ more) more (And Bare it.written) all_read refl;
      tree_is = rw it.tree_is (rw piece_of (rw (function-found f) (rw kind.2 refl)));
      known = rw piece_of (rw (function-found f) it.known);
      sized = omega (arith, it.sized);
    }

dual_back : (text : List ℕ) (names : List Named) (stop : ℕ) (f : Function) (l r : Tree) → IsReadBack text names stop l →
    IsReadBack text names stop r → Alone text names stop (Dual f l r)
unfolding printed nesting tree_written tree_over tree_kind unknown_name
dual_back text names stop f l r lb rb zero at rest k s nest = absurd (omega arith)
dual_back text names stop f l r lb rb (suc d) at rest k s nest = λ more lexed follow.
    let w = function_text f in
    let x = printed names l in
    let y = printed names r in
    let kind = two_kinds (kind_named names) l r (two_kind f) k s.kind_is in
    let bytes = w ++ (40 ∷ (x ++ (44 ∷ 32 ∷ (y ++ 41 ∷ [])))) in
    let back_l = 44 ∷ 32 ∷ (y ++ (41 ∷ rest)) in
    let regroup : bytes ++ rest ≡ w ++ (40 ∷ (x ++ back_l)) =
    append_assoc w (40 ∷ (x ++ (44 ∷ 32 ∷ (y ++ 41 ∷ [])))) rest
    ∙ ap (λ xs. w ++ (40 ∷ xs)) (append_assoc x (44 ∷ 32 ∷ (y ++ 41 ∷ [])) rest ∙ ap (λ xs. x ++ (44 ∷ 32 ∷ xs)) (append_assoc y (41 ∷ []) rest)) in
    let text_1 : drop at text ≡ w ++ (40 ∷ (x ++ back_l)) = s.text_is ∙ regroup in
    let second = at + length w in
    let third = second + 1 + length x in
    let fourth = third + 2 in
    let text_2 : drop second text ≡ (40 ∷ []) ++ (x ++ back_l) = after text at w (40 ∷ (x ++ back_l)) text_1 in
    let text_3 : drop (second + 1) text ≡ x ++ back_l = after text second (40 ∷ []) (x ++ back_l) text_2 in
    let text_4 : drop third text ≡ (44 ∷ 32 ∷ []) ++ (y ++ (41 ∷ rest)) = after text (second + 1) x back_l text_3 in
    let text_5 : drop fourth text ≡ y ++ (41 ∷ rest) = after text third (44 ∷ 32 ∷ []) (y ++ (41 ∷ rest)) text_4 in
    let close = token (fourth + length y) Close in
    let comma = token third Comma in
    let lens = length-append w (40 ∷ (x ++ (44 ∷ 32 ∷ (y ++ 41 ∷ [])))) in
    let lens_2 = length-append x (44 ∷ 32 ∷ (y ++ 41 ∷ [])) in
    let lens_3 = length-append y (41 ∷ []) in
    let place : fourth + length y + 1 ≡ at + length bytes = omega arith in
    let right_lexed : tokens_from (fourth + length y) 0 (41 ∷ rest) ≡ Ok (close ∷ more) = lex-close (fourth + length y) rest ∙ ap (with_front (close ∷ [])) (ap (λ n. tokens_from n 0 rest) place ∙ lexed) in
    let right_stands : Stands text names r fourth y (41 ∷ rest) kind.right = record { text_is = text_5; stops = refl; kind_is = kind.right_is; literals = s.literals.1 } in
    let right = rb.whole d fourth (41 ∷ rest) kind.right right_stands (omega arith) (close ∷ more) right_lexed tt in
    let left_lexed : tokens_from third 0 back_l ≡ Ok (comma ∷ right.tokens) = lex-comma third (y ++ (41 ∷ rest)) ∙ ap (with_front (comma ∷ [])) right.lexed_is in
    let left_stands : Stands text names l (second + 1) x back_l kind.left = record { text_is = text_3; stops = refl; kind_is = kind.left_is; literals = s.literals.0 } in
    let left = lb.whole d (second + 1) back_l kind.left left_stands (omega arith) (comma ∷ right.tokens) left_lexed tt in
    let open_lexed : tokens_from second 0 (40 ∷ (x ++ back_l)) ≡ Ok (token second Open ∷ left.tokens) = lex-open second (x ++ back_l) ∙ ap (with_front (token second Open ∷ [])) left.lexed_is in
    let next = expr (factor stop d) in
    let all = And (And Bare left.written) right.written in
    let more_1 : length (comma ∷ right.tokens) ≡ length right.tokens + 1 = omega arith in
    let all_read : arguments next left.tokens ≡ Ok (all, close ∷ more) =
    arguments-begin next left.tokens (comma ∷ right.tokens) left.written left.read_is
    ∙ (further-more next (length (comma ∷ right.tokens)) (length right.tokens) (And Bare left.written) right.written (comma ∷ right.tokens) right.tokens (close ∷ more) more_1 refl right.read_is
    ∙ further-end next (length right.tokens) all (close ∷ more) refl) in
    let piece_of : piece text at (length w) ≡ w = piece-is text at w (40 ∷ (x ++ back_l)) text_1 in
    record {
      tokens = token at (Name (length w)) ∷ token second Open ∷ left.tokens;
      written = Over at (forms.Call (length w)) all;
      lexed_is = ap (tokens_from at 0) regroup
          ∙ (lex-name at w (40 ∷ (x ++ back_l)) (function-name f) refl ∙ ap (with_front (token at (Name (length w)) ∷ [])) open_lexed);
      read_is = call-read stop d at (length w) second left.tokens (close ∷ more) more all all_read refl;
      tree_is = rw left.tree_is (rw right.tree_is (rw piece_of (rw (function-found f) (rw kind.both_is refl))));
      known = rw piece_of (rw (function-found f) (left.known ∙ right.known));
      sized = omega (arith, left.sized, right.sized);
    }

-- every tree

read_back : (text : List ℕ) (names : List Named) (stop : ℕ) (t : Tree) → AreNames names → HasLiterals t →
    IsReadBack text names stop t
read_back text names stop (Literal (pos n)) all lit =
    from_alone text names stop (Literal (pos n)) (literal_back text names stop n)
read_back text names stop (Literal (negsuc n)) all lit = absurd lit
read_back text names stop (Held h) all lit = from_alone text names stop (Held h) (held_back text names stop h all)
read_back text names stop (Minus t) all lit =
    from_alone text names stop (Minus t) (minus_back text names stop t (read_back text names stop t all lit))
read_back text names stop (Operation op l r) all lit =
    operation_back text names stop op l r (read_back text names stop l all lit.0) (read_back text names stop r all lit.1)
read_back text names stop (Unary f t) all lit =
    from_alone text names stop (Unary f t) (unary_back text names stop f t (read_back text names stop t all lit))
read_back text names stop (Dual f l r) all lit =
    from_alone text names stop (Dual f l r) (dual_back text names stop f l r (read_back text names stop l all lit.0) (read_back text names stop r all lit.1))

kind-itself : (k : Kind) → same_kind k k ≡ true
kind-itself kinds.Num = refl
kind-itself kinds.List = refl

-- the text of a printable tree is read as the tree, where it is within the limits of texts
pub expr_of-printed : (names : List Named) (t : Tree) (k : Kind) → IsPrintable names t k → length (printed names t) ≤ 1024 →
    nesting t ≤ 64 → expr_of (printed names t) names k ≡ Ok t
unfolding tokens_from tokens_of unknown_name
expr_of-printed names t k is short nest =
    let text = printed names t in
    let whole : text ++ [] ≡ text = append-nil text in
    let stands : Stands text names t 0 text [] k = record { text_is = sym whole; stops = tt; kind_is = is.kind_is; literals = is.literals } in
    let back = read_back text names (length text) t (record { are = is.names_are; differ = is.names_differ }) is.literals in
    let it = back.whole 64 0 [] k stands nest [] refl tt in
    let lexed : tokens_of text ≡ Ok it.tokens = ap (tokens_from 0 0) (sym whole) ∙ it.lexed_is in
    let read = written-end (length text) 64 it.tokens [] it.written it.read_is refl in
    expr_of-known text names k it.tokens it.written short lexed read it.known
    ∙ tree_of_kind-wanted text names k it.written t k (omega (arith, it.sized, is.few)) it.tree_is (kind-itself k)
