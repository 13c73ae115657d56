-- The printed form of an expression. An operator has one space on both sides. A binary or signed part that is an operand of an
-- operator or of a sign stands in brackets; the operands of a function don't.
use Rattle.std.specs.Prelude.{◌≡◌, ℕ, suc, ◌==◌, ◌≤◌, max, pos, negsuc, Bool, true, false, if◌then◌else◌, List, [], ◌∷◌, ◌++◌, map, find, codes, Option, Some}
use Rattle.std.specs.Char.{is_ascii_alphabetic}
use Rattle.std.specs.List.{AllByRecursion}
use Rattle.std.specs.Fmt.{signed_decimal}
use Rattle.std.specs.Option.{option_map_or, option_map}
use Rattle.text_model.specs.Tokens.{is_word}
use Rattle.hive_model.specs.Tree.{Tree, Literal, Held, Minus, Operation, Unary, Dual, size}
use Rattle.hive_model.specs.Kinds.{tree_kind}
use Rattle.hive_model.specs.Valid.{AreDistinctNames}
use Rattle.hive_model.specs.declared.expr.Binary.{Binary}
use Rattle.hive_model.specs.declared.expr.Binary.TheVariants.{Add, Sub, Mul, Div, Rem, Eq, Ne, Lt, Le, Gt, Ge}
use Rattle.hive_model.specs.declared.expr.Function.{Function}
use Rattle.hive_model.specs.declared.expr.Function.TheVariants.{Len, Sum, Min, Max, At, Above, Scale, Shift, Cat, First}
use Rattle.hive_model.specs.declared.expr.Node.{Node}
use Rattle.hive_model.specs.declared.expr.Node.TheVariants as node
use Rattle.text_model.specs.declared.named.Named.{Named}
use Rattle.hive_model.specs.declared.product.Kind.{Kind}

-- the name of a handle; the first counts
unfoldable pub word_of : List Named → ℕ → List ℕ
word_of names h = option_map_or (λ n. n.name) (find (λ n. n.handle == h) names) []

abbrev pub operator_text : Binary → List ℕ
operator_text Add = codes " + "
operator_text Sub = codes " - "
operator_text Mul = codes " * "
operator_text Div = codes " / "
operator_text Rem = codes " % "
operator_text Eq = codes " == "
operator_text Ne = codes " != "
operator_text Lt = codes " < "
operator_text Le = codes " <= "
operator_text Gt = codes " > "
operator_text Ge = codes " >= "

abbrev pub function_text : Function → List ℕ
function_text Len = codes "len"
function_text Sum = codes "sum"
function_text Min = codes "min"
function_text Max = codes "max"
function_text At = codes "at"
function_text Above = codes "above"
function_text Scale = codes "scale"
function_text Shift = codes "shift"
function_text Cat = codes "cat"
function_text First = codes "first"

abbrev pub is_compound : Tree → Bool
is_compound (Minus t) = true
is_compound (Operation op l r) = true
is_compound t = false

abbrev pub is_compound_node : Node → Bool
is_compound_node (node.Negate a) = true
is_compound_node (node.Binary op a b) = true
is_compound_node nd = false

-- the text of a part, in brackets where it is binary or signed
abbrev pub enclosed : Tree → List ℕ → List ℕ
enclosed t text = if is_compound t then 40 ∷ (text ++ 41 ∷ []) else text

unfoldable pub printed : List Named → Tree → List ℕ
printed names (Literal n) = signed_decimal n
printed names (Held h) = word_of names h
printed names (Minus t) = 45 ∷ enclosed t (printed names t)
printed names (Operation op l r) = enclosed l (printed names l) ++ (operator_text op ++ enclosed r (printed names r))
printed names (Unary f t) = function_text f ++ (40 ∷ (printed names t ++ 41 ∷ []))
printed names (Dual f l r) = function_text f ++ (40 ∷ (printed names l ++ (44 ∷ 32 ∷ (printed names r ++ 41 ∷ []))))

-- conditions under which the text is read back

-- a letter, and letters, digits and `_` behind it
abbrev pub IsName : List ℕ → Type 0
IsName [] = ⊥
IsName (b ∷ bs) = (is_ascii_alphabetic b ≡ true) × AllByRecursion (λ c. is_word c ≡ true) bs

-- the kind of a handle; the first that is named counts
abbrev pub kind_named : List Named → ℕ → Option Kind
kind_named names h = option_map (λ n. n.kind) (find (λ n. n.handle == h) names)

-- each literal is from 0 to 9223372036854775807
abbrev pub HasLiterals : Tree → Type 0
HasLiterals (Literal (pos n)) = n ≤ 9223372036854775807
HasLiterals (Literal (negsuc n)) = ⊥
HasLiterals (Held h) = Unit {0}
HasLiterals (Minus t) = HasLiterals t
HasLiterals (Operation op l r) = HasLiterals l × HasLiterals r
HasLiterals (Unary f t) = HasLiterals t
HasLiterals (Dual f l r) = HasLiterals l × HasLiterals r

-- how many brackets and signs are open at once in the text of a part
abbrev pub enclosed_nesting : Tree → ℕ → ℕ
enclosed_nesting t n = if is_compound t then suc n else n

unfoldable pub nesting : Tree → ℕ
nesting (Literal n) = 0
nesting (Held h) = 0
nesting (Minus t) = suc (enclosed_nesting t (nesting t))
nesting (Operation op l r) = max (enclosed_nesting l (nesting l)) (enclosed_nesting r (nesting r))
nesting (Unary f t) = suc (nesting t)
nesting (Dual f l r) = suc (max (nesting l) (nesting r))

-- distinct names, a tree over them of that kind, at most 256 nodes, and no literal below 0
pub record IsPrintable (names : List Named) (t : Tree) (k : Kind) : Type 0 where
  pub names_are : AllByRecursion (λ (n : Named). IsName n.name) names
  pub names_differ : AreDistinctNames (map (λ (n : Named). n.name) names)
  pub kind_is : tree_kind (kind_named names) t ≡ Some k
  pub literals : HasLiterals t
  pub few : size t ≤ 256
