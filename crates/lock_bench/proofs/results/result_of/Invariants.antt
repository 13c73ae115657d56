use Rattle.lock_bench.proofs.results.result_of.Given as goal

abbrev pub ghosts-executed : goal.ghosts-executed
ghosts-executed a = record { name = a.blank.name; parts = a.blank.parts }
