use Rattle.expr_rows.proofs.stack.by_stack.Given as goal

abbrev pub ghosts-spend : goal.ghosts-spend
ghosts-spend a = record { name = a.blank.name; parts = a.blank.parts }
