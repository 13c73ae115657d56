-- How parts in a row become nodes: each part takes its operands from the end of those that wait, and waits itself.
use Rattle.std.specs.Prelude.{ℕ, ◌-◌, ◌==◌, if◌then◌else◌, List, [], ◌∷◌, ◌++◌, length, take, drop, Option, Some, None, Result, Ok, Err}
use Rattle.std.specs.Option.{option_and_then, option_map, option_map_or}
use Rattle.text_model.specs.ExprText.{function_of, handle_of, number_and_kind, of_some_kind, piece}
use Rattle.text_model.specs.Steps.{◌>>=◌, or_refuse}
use Rattle.hive_model.specs.Kinds.{if_num, one_kind, two_kind}
use Rattle.hive_model.specs.declared.expr.Node.{Node}
use Rattle.hive_model.specs.declared.expr.Node.TheVariants as node
use Rattle.text_model.specs.declared.expr_refusal.ExprRefusal.{ExprRefusal}
use Rattle.text_model.specs.declared.expr_refusal.ExprRefusal.TheVariants as refusals
use Rattle.text_model.specs.declared.named.Named.{Named}
use Rattle.hive_model.specs.declared.product.Kind.{Kind}
use Rattle.hive_model.specs.declared.product.Kind.TheVariants as kinds
use Rattle.text_model.specs.declared.token.Form.{Form}
use Rattle.text_model.specs.declared.token.Form.TheVariants as forms
use Rattle.expr_text.specs.declared.assembly.Slot.{Slot}
use Rattle.expr_text.specs.declared.grammar.Part.{Part}

abbrev pub of_kind : ℕ → Node → Option Kind → Result (Node × Kind) ExprRefusal
of_kind at it kind = of_some_kind at it kind

abbrev pub only : List Slot → Option Slot
only [] = None
only (x ∷ []) = Some x
only (x ∷ y ∷ rest) = None

abbrev pub both : List Slot → Option (Slot × Slot)
both [] = None
both (x ∷ []) = None
both (x ∷ y ∷ []) = Some (x, y)
both (x ∷ y ∷ z ∷ rest) = None

-- the node of a function over its operands
unfoldable pub call_over : ℕ → List ℕ → List Slot → Result (Node × Kind) ExprRefusal
call_over at name operands =
    option_map_or (λ x. or_refuse (refusals.UnknownName at) (function_of name) >>= λ f. of_kind at (node.Call f x.place None) (one_kind f x.kind))
    (only operands)
    (or_refuse (refusals.Kind at) (both operands) >>= λ it.
    or_refuse (refusals.UnknownName at) (function_of name) >>= λ f. of_kind at (node.Call f it.0.place (Some it.1.place)) (two_kind f it.0.kind it.1.kind))

-- the node of a part over its operands
unfoldable pub node_over : List ℕ → List Named → ℕ → Form → List Slot → Result (Node × Kind) ExprRefusal
node_over text names at (forms.Number n) operands = if length operands == 0 then Ok (node.Number n, kinds.Num) else Err (refusals.Kind at)
node_over text names at (forms.Name len) operands =
    if length operands == 0
    then (or_refuse (refusals.UnknownName at) (option_map number_and_kind (handle_of names (piece text at len))) >>= λ h. Ok (node.Handle h.0, h.1))
    else Err (refusals.Kind at)
node_over text names at forms.Sign operands =
    or_refuse (refusals.Kind at) (only operands) >>= λ x. of_kind at (node.Negate x.place) (if_num x.kind kinds.Num)
node_over text names at (forms.Operator op) operands =
    or_refuse (refusals.Kind at) (both operands) >>= λ it. of_kind at (node.Binary op it.0.place it.1.place) (option_and_then (if_num it.1.kind) (if_num it.0.kind kinds.Num))
node_over text names at (forms.Call len) operands = call_over at (piece text at len) operands

-- the nodes and the waiting operands after all parts
unfoldable pub run : List ℕ → List Named → List Part → List Node → List Slot → Result (List Node × List Slot) ExprRefusal
run text names [] nodes slots = Ok (nodes, slots)
run text names (p ∷ rest) nodes slots =
    node_over text names p.at p.form (drop (length slots - p.operands) slots)
    >>= λ it. run text names rest (nodes ++ it.0 ∷ []) (take (length slots - p.operands) slots ++ record { kind = it.1; place = length nodes } ∷ [])
