-- The handles so far are others.
use Rattle.std.proofs.Common.{◌≡◌, drop}
use Rattle.expr_text.specs.Printed.{word_of}
use Rattle.expr_text.proofs.printer.word_of.Given as goal

abbrev pub invariant-loop-named : goal.invariant-loop-named
invariant-loop-named l = word_of (drop l.named-index l.names) l.handle ≡ word_of l.names l.handle
