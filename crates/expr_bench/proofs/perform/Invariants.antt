use Rattle.expr_bench.proofs.perform.Given as goal

abbrev pub ghosts-perform_often : goal.ghosts-perform_often
ghosts-perform_often a = record { name = a.blank.name; parts = a.blank.parts }
