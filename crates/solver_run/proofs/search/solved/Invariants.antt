use Rattle.solver_run.proofs.search.solved.Given as goal

abbrev pub ghosts-solved_by : goal.ghosts-solved_by
ghosts-solved_by a = record { name = a.blank.name; parts = a.blank.parts }
