use Rattle.core_rows.proofs.held.performed.Given as goal

abbrev pub ghosts-spend : goal.ghosts-spend
ghosts-spend a = record { name = a.blank.name; parts = a.blank.parts }
