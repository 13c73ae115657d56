-- What a call that reads a text answers: what the definition says, value or refusal. Memory may run out at any time.
use Rattle.std.specs.Prelude.{◌≡◌, ◌≢◌, List, Result, Ok, Err}
use Rattle.hive_model.specs.Tree.{Tree, nodes_of}
use Rattle.hive_model.specs.declared.expr.Node.{Node}
use Rattle.text_model.specs.declared.expr_refusal.ExprRefusal.{ExprRefusal}
use Rattle.text_model.specs.declared.expr_refusal.ExprRefusal.TheVariants.{NoMemory}

-- the definition refuses so
abbrev pub Refused : {A : Type 0} → Result A ExprRefusal → ExprRefusal → Type 0
Refused meaning e = e ≢ NoMemory → meaning ≡ Err e

abbrev pub Gives : {A : Type 0} → Result A ExprRefusal → Result A ExprRefusal → Type 0
Gives (Ok x) meaning = meaning ≡ Ok x
Gives (Err e) meaning = Refused meaning e

-- the nodes of the tree
abbrev pub GivesNodes : Result (List Node) ExprRefusal → Result Tree ExprRefusal → Type 0
GivesNodes (Ok nodes) meaning = (t : Tree) × (meaning ≡ Ok t) × (nodes ≡ nodes_of t)
GivesNodes (Err e) meaning = Refused meaning e
