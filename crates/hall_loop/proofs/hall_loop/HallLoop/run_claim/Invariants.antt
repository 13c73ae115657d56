use Rattle.hall_loop.proofs.hall_loop.HallLoop.run_claim.Given as goal

abbrev pub ghosts-perform_between : goal.ghosts-perform_between
ghosts-perform_between g a = record { name = a.blank.name; parts = a.blank.parts }
