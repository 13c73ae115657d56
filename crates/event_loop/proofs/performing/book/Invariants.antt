use Rattle.event_loop.proofs.performing.book.Given as goal

abbrev pub ghosts-spend : goal.ghosts-spend
ghosts-spend a = record { name = a.blank.name; parts = a.blank.parts }
