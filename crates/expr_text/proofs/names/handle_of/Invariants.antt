-- The names so far are others.
use Rattle.std.proofs.Common.{◌≡◌, drop}
use Rattle.text_model.specs.ExprText.{handle_of}
use Rattle.expr_text.proofs.names.handle_of.Given as goal

abbrev pub invariant-loop-named : goal.invariant-loop-named
invariant-loop-named l = handle_of (drop l.named-index l.names) l.name ≡ handle_of l.names l.name
