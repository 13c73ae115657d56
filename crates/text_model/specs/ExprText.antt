-- The expression of a text, or the first refusal: length, tokens, grammar, names, number of nodes, kinds, phase after phase.
-- A phase is looked at only where those before found nothing.
use Rattle.std.specs.Prelude.{ℕ, nat_lt, Bool, true, if◌then◌else◌, List, [], ◌∷◌, ◌++◌, length, take, drop, find, Option, Some, None, is_some, Result, Ok, Err}
use Rattle.std.specs.Option.{option_map_or, option_and_then}
use Rattle.text_model.specs.Grammar.{behind, is_open, written_of}
use Rattle.text_model.specs.Steps.{◌>>=◌, or_refuse}
use Rattle.text_model.specs.Tokens.{tokens_of}
use Rattle.hive_model.specs.Tree.{Tree, Literal, Held, Minus, Operation, Unary, Dual}
use Rattle.hive_model.specs.Function.{function_name}
use Rattle.hive_model.specs.Kinds.{if_num, one_kind, two_kind}
use Rattle.hive_model.specs.Same.{same_kind, same_text}
use Rattle.hive_model.specs.declared.limits.TheConstants.{MOST_NODES}
use Rattle.text_model.specs.declared.limits.TheConstants.{MOST_EXPRESSION_BYTES, MOST_NESTING}
use Rattle.text_model.specs.Written.{Written, Operands, Over, Bare, And, size, place_of}
use Rattle.hive_model.specs.declared.expr.Function.{Function}
use Rattle.hive_model.specs.declared.expr.TheConstants.Function.{ALL}
use Rattle.text_model.specs.declared.expr_refusal.ExprRefusal.{ExprRefusal}
use Rattle.text_model.specs.declared.expr_refusal.ExprRefusal.TheVariants as refusals
use Rattle.text_model.specs.declared.named.Named.{Named}
use Rattle.hive_model.specs.declared.product.Kind.{Kind}
use Rattle.hive_model.specs.declared.product.Kind.TheVariants as kinds
use Rattle.text_model.specs.declared.token.Form.{Form}
use Rattle.text_model.specs.declared.token.Form.TheVariants as forms
use Rattle.text_model.specs.declared.token.Symbol.{Symbol}
use Rattle.text_model.specs.declared.token.Symbol.TheVariants as symbols
use Rattle.text_model.specs.declared.token.Token.{Token}

-- names

-- the bytes of a text from a place on, that many
abbrev pub piece : List ℕ → ℕ → ℕ → List ℕ
piece text at len = take len (drop at text)

-- the handle of that name; the first counts
unfoldable pub handle_of : List Named → List ℕ → Option Named
handle_of names name = find (λ n. same_text n.name name) names

-- a handle's number and its kind
abbrev pub number_and_kind : Named → ℕ × Kind
number_and_kind n = (n.handle, n.kind)

-- the function of that name
unfoldable pub function_of : List ℕ → Option Function
function_of name = find (λ f. same_text (function_name f) name) ALL

-- a name is known as a function where a bracket is behind it, and as a handle elsewhere
abbrev pub is_known : List Named → List ℕ → List Token → Bool
is_known names name rest = if is_some (behind is_open rest) then is_some (function_of name) else is_some (handle_of names name)

-- the symbol is no name, or a known one
abbrev pub is_known_symbol : List ℕ → List Named → ℕ → Symbol → List Token → Bool
is_known_symbol text names at (symbols.Name len) rest = is_known names (piece text at len) rest
is_known_symbol text names at symbol rest = true

-- the place of the first name that isn't known
unfoldable pub unknown_name : List ℕ → List Named → List Token → Option ℕ
unknown_name text names [] = None
unknown_name text names (t ∷ rest) = if is_known_symbol text names t.at t.symbol rest then unknown_name text names rest else Some t.at

-- kinds

-- a tree and its kind, or the refusal where an operand has the wrong one
abbrev pub of_some_kind : {A : Type 0} → ℕ → A → Option Kind → Result (A × Kind) ExprRefusal
of_some_kind at it (Some k) = Ok (it, k)
of_some_kind at it None = Err (refusals.Kind at)

-- the tree of one part over those of its operands
unfoldable pub tree_over : List ℕ → List Named → ℕ → Form → List (Tree × Kind) → Result (Tree × Kind) ExprRefusal
tree_over text names at (forms.Number n) [] = Ok (Literal n, kinds.Num)
tree_over text names at (forms.Name len) [] =
    or_refuse (refusals.UnknownName at) (handle_of names (piece text at len)) >>= λ h. Ok (Held h.handle, h.kind)
tree_over text names at forms.Sign (x ∷ []) = of_some_kind at (Minus x.0) (if_num x.1 kinds.Num)
tree_over text names at (forms.Operator op) (x ∷ y ∷ []) =
    of_some_kind at (Operation op x.0 y.0) (option_and_then (if_num y.1) (if_num x.1 kinds.Num))
tree_over text names at (forms.Call len) (x ∷ []) =
    or_refuse (refusals.UnknownName at) (function_of (piece text at len)) >>= λ f. of_some_kind at (Unary f x.0) (one_kind f x.1)
tree_over text names at (forms.Call len) (x ∷ y ∷ []) =
    or_refuse (refusals.UnknownName at) (function_of (piece text at len)) >>= λ f. of_some_kind at (Dual f x.0 y.0) (two_kind f x.1 y.1)
tree_over text names at form operands = Err (refusals.Kind at)

unfoldable mutual
  -- the tree of what is written and its kind, or the refusal of the first part, children before parents and left before right
  pub tree_written : List ℕ → List Named → Written → Result (Tree × Kind) ExprRefusal
  tree_written text names (Over at form operands) = trees_written text names operands >>= tree_over text names at form

  pub trees_written : List ℕ → List Named → Operands → Result (List (Tree × Kind)) ExprRefusal
  trees_written text names Bare = Ok []
  trees_written text names (And before last) =
      trees_written text names before >>= λ trees. tree_written text names last >>= λ tree. Ok (trees ++ tree ∷ [])

-- the phases

abbrev pub if_short : List ℕ → Result (List ℕ) ExprRefusal
if_short text = if nat_lt MOST_EXPRESSION_BYTES (length text) then Err refusals.TooLong else Ok text

abbrev pub if_known : List ℕ → List Named → List Token → Written → Result Written ExprRefusal
if_known text names tokens written = option_map_or (λ at. Err (refusals.UnknownName at)) (unknown_name text names tokens) (Ok written)

abbrev pub if_few : Written → Result Written ExprRefusal
if_few written = if nat_lt MOST_NODES (size written) then Err refusals.TooMany else Ok written

abbrev pub if_wanted : Kind → ℕ → Tree × Kind → Result Tree ExprRefusal
if_wanted wanted at it = if same_kind wanted it.1 then Ok it.0 else Err (refusals.Kind at)

-- the phases behind the names
abbrev pub tree_of_kind : List ℕ → List Named → Kind → Written → Result Tree ExprRefusal
tree_of_kind text names wanted written = do
  few ← if_few written
  tree ← tree_written text names few
  if_wanted wanted (place_of few) tree

-- the expression of a text over these names that has the wanted kind
unfoldable pub expr_of : List ℕ → List Named → Kind → Result Tree ExprRefusal
expr_of text names wanted = do
  short ← if_short text
  tokens ← tokens_of short
  read ← written_of (length text) MOST_NESTING tokens
  known ← if_known text names tokens read
  tree_of_kind text names wanted known
